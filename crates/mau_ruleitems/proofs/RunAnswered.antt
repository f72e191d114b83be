-- What a rule run answers may be answered for it.
use Rattle.std.proofs.Common.{◌≡◌, ℕ, List, Bool, true, false, Option, Some, Result, Ok, Err, sym, ◌∙◌, ap, subst}
use Rattle.std.specs.Option.{option_map}
use Rattle.mau_poset.specs.Order.{IsPoset}
use Rattle.mau_signature.specs.Signature.{SignatureOf}
use Rattle.mau_store.specs.Node.{Node}
use Rattle.mau_store.specs.Trees.{tree_at}
use Rattle.mau_sorts.specs.SortSets.{shown_sort}
use Rattle.mau_sorts.specs.Table.{Table, entry_at}
use Rattle.mau_program.specs.declared.program.Program as Typed
use Rattle.mau_evaluation.specs.Run.{End, stopped, too_deep, overflowed, ended, Outcome, Run}
use Rattle.mau_evaluation.specs.RuleRuns.{Stand, PassEnd}
use Rattle.mau_api.specs.Terms.{IsTerm}
use Rattle.mau_api.specs.Meanings.{Meanings, StaysUnderLimits, AreMeanings}
use Rattle.mau_api.specs.Answers.{IsDerivedTable}
use Rattle.mau_api.specs.declared.results.Reduced.{Reduced}
use Rattle.mau_api.specs.declared.results.EvalEnd.{EvalEnd}
use Rattle.mau_api.specs.declared.results.EvalEnd.TheVariants.{Stopped, TooDeep, Overflow}
use Rattle.mau_results.specs.declared.kind.RunKind.{RunKind}
use Rattle.mau_results.specs.declared.kind.RunKind.TheVariants.{Rewriting, Fair}
use Rattle.mau_results.specs.Results.{HasShownSort}
use Rattle.mau_results.specs.Runs.{run_by, run_gives, run_ends, HasRunCause, PlainRun, plain_run, plain_run_end, MayRun}
use Rattle.mau_results.proofs.ShownSorts.{shown_settled}
use Rattle.mau_results.proofs.RunAnswers.{may_give, may_end_so}
use Rattle.mau_rules.specs.declared.run.RuleEnd.{RuleEnd}
use Rattle.mau_rules.specs.declared.run.RuleRun.{RuleRun}
use Rattle.mau_rules.specs.Runnable.{GoesBy}
use Rattle.mau_rules.specs.Runs.{stand_of, end_of, IsRunOf, IsRunAnswered, IsRunExactly, MayRun as MayRunBy, rewriting_by, frewriting_by}

abbrev pub evaluator_end : End → EvalEnd
evaluator_end stopped = Stopped
evaluator_end too_deep = TooDeep
evaluator_end overflowed = Overflow

-- the run of a kind by the program of the meanings
pub rewriting_is : (p : Typed.Program) (m : Meanings) → GoesBy p m → (kind : RunKind) → kind ≡ Rewriting → (n : Option ℕ) (s : Stand) → rewriting_by p m n s ≡ run_by m kind n s
rewriting_is p m goes kind is n s = ap (λ (p : Typed.Program). rewriting_by p m n s) (sym goes.program) ∙ ap (λ kind. run_by m kind n s) (sym is)

pub frewriting_is : (p : Typed.Program) (m : Meanings) → GoesBy p m → (kind : RunKind) (g : ℕ) → kind ≡ Fair g → (n : Option ℕ) (s : Stand) → frewriting_by p m g n s ≡ run_by m kind n s
frewriting_is p m goes kind g is n s = ap (λ (p : Typed.Program). frewriting_by p m g n s) (sym goes.program) ∙ ap (λ kind. run_by m kind n s) (sym is)

never : true ≡ false → ⊥
never e = cc

-- by the limit of the meanings
module _ (m : Meanings) (laws : AreMeanings m) (f : ℕ → ℕ → Run PassEnd) (stays : StaysUnderLimits f) (w : Bool) (nodes : List Node) (run : RuleRun) where
  given : (e : RuleEnd) (x : Reduced) (sort : ℕ) → HasShownSort m (tree_at nodes run.term.0) sort
      → (w ≡ false → IsRunExactly m f m.limit nodes run (Ok (e, x))) → MayRunBy m f m.limit nodes run (Ok (e, x))
      → MayRun m w f (run_gives (stand_of nodes run) (end_of e) sort x.rewrites)
  given e x sort its exact (r, (k, B, b, left, i, j, l, is), shown) =
      let u = stand_of nodes run in
      let a = may_give m laws f stays true u (end_of e) sort x.rewrites r shown its k B b left i j l is (λ q. absurd (never q)) in
      record {
        caused = a.caused;
        just = a.just;
        exact = λ none.
            let z = exact none in
            (z.levels, z.enough, z.just, subst (λ c. PlainRun m f z.levels m.limit m.limit (run_gives u (end_of e) sort c)) (sym z.is.3) (plain_run u (end_of e) sort z.is.0 z.is.1 z.is.2 its));
      }

  cause : (e : End) → MayRunBy m f m.limit nodes run (Err (evaluator_end e)) → HasRunCause f m.limit e
  cause stopped a = a
  cause too_deep a = a
  cause overflowed a = a

  just : (e : End) (o : Outcome PassEnd) → IsRunAnswered o nodes run (Err (evaluator_end e)) → o ≡ ended e
  just stopped o a = a
  just too_deep o a = a
  just overflowed o a = a

  ends : (e : End) → (w ≡ false → IsRunExactly m f m.limit nodes run (Err (evaluator_end e))) → MayRunBy m f m.limit nodes run (Err (evaluator_end e))
      → MayRun m w f (run_ends e)
  ends e exact allowed =
      let a = may_end_so m laws f stays true e (cause e allowed) (λ q. absurd (never q)) in
      record {
        caused = a.caused;
        just = a.just;
        exact = λ none.
            let z = exact none in
            (z.levels, z.enough, z.just, plain_run_end e (just e (f z.levels m.limit m.limit) z.is));
      }

module _ (m : Meanings) (laws : AreMeanings m) (f : ℕ → ℕ → Run PassEnd) (stays : StaysUnderLimits f) (w : Bool) (limit : ℕ) (same : limit ≡ m.limit) (nodes : List Node) (run : RuleRun)
    (r : Result (RuleEnd × Reduced) EvalEnd)
    (exact : w ≡ false → IsRunExactly m f limit nodes run r) (allowed : MayRunBy m f limit nodes run r) where
  exactly : w ≡ false → IsRunExactly m f m.limit nodes run r
  exactly none = subst (λ b. IsRunExactly m f b nodes run r) same (exact none)

  may : MayRunBy m f m.limit nodes run r
  may = subst (λ b. MayRunBy m f b nodes run r) same allowed

  pub run_given : (e : RuleEnd) (x : Reduced) → r ≡ Ok (e, x) → (sort : ℕ) → HasShownSort m (tree_at nodes run.term.0) sort → MayRun m w f (run_gives (stand_of nodes run) (end_of e) sort x.rewrites)
  run_given e x is sort its =
      given m laws f stays w nodes run e x sort its
      (λ none. subst (IsRunExactly m f m.limit nodes run) is (exactly none)) (subst (MayRunBy m f m.limit nodes run) is may)

  pub run_ended : (e : End) → r ≡ Err (evaluator_end e) → MayRun m w f (run_ends e)
  run_ended e is =
      ends m laws f stays w nodes run e
      (λ none. subst (IsRunExactly m f m.limit nodes run) is (exactly none)) (subst (MayRunBy m f m.limit nodes run) is may)

-- the shown sort of its term, which is settled
pub run_sort : (p : Typed.Program) (m : Meanings) → GoesBy p m → IsPoset p.sig.hierarchy → (nodes : List Node) (table : Table) → IsDerivedTable m nodes table → (run : RuleRun) → IsRunOf p nodes run
    → (sort : ℕ) → Some sort ≡ option_map shown_sort (entry_at table run.term.0) → HasShownSort m (tree_at nodes run.term.0) sort
run_sort p m goes poset nodes table derived run its sort shown =
    let term = subst (λ (p : Typed.Program). IsTerm p.sig nodes run.term.0) (sym goes.program) its.term in
    let order = subst (λ (p : Typed.Program). IsPoset p.sig.hierarchy) (sym goes.program) poset in
    shown_settled m nodes table run.term.0 order derived term sort shown
