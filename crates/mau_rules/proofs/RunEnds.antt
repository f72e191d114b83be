-- What is known of a run, round by round, and what its answers are.
use Rattle.std.proofs.Common.{◌≡◌, ◌+◌, ◌-◌, ◌^◌, min, List, ℕ, Bool, true, false, Option, Some, None, Result, Ok, Err, OnOk, refl, sym, subst, arith}
use Rattle.mau_terms.specs.Tree.{Tree}
use Rattle.mau_store.specs.Node.{Node}
use Rattle.mau_store.specs.Trees.{tree_at}
use Rattle.mau_evaluation.specs.Run.{stopped, too_deep, overflowed, Outcome, done, ended, Run}
use Rattle.mau_evaluation.specs.Program.{Program}
use Rattle.mau_evaluation.specs.RuleRuns.{Stand, PassEnd, normal, bound, one_less, is_out, rewrite_at}
use Rattle.mau_api.specs.Told.{shown_count}
use Rattle.mau_api.specs.Meanings.{Meanings, AreMeanings}
use Rattle.mau_api.specs.Programs.{program_over}
use Rattle.mau_program.specs.declared.program.Program as Typed
use Rattle.mau_rules.specs.Runnable.{IsRunnable, GoesBy}
use Rattle.mau_rules.proofs.Solving.{same_evaluation, evaluation_known}
use Rattle.mau_api.specs.Answers.{uses_results, levels_of_item, levels_of_condition, IsAllowed, IsExact, LeavesEnough}
use Rattle.mau_api.specs.declared.results.Reduced.{Reduced}
use Rattle.mau_api.specs.declared.results.EvalEnd.{EvalEnd}
use Rattle.mau_api.specs.declared.results.EvalEnd.TheVariants.{Stopped, TooDeep, Overflow, NoMemory}
use Rattle.mau_rules.specs.declared.run.RuleEnd.{RuleEnd}
use Rattle.mau_rules.specs.declared.run.RuleRun.{RuleRun}
use Rattle.mau_rules.specs.Runs.{ended_at, IsRunAnswered, IsRunExactly, MayRun}
use Rattle.mau_rules.specs.Counted.{KnownEnd}
use Rattle.mau_rules.specs.Known.{Item, IsExactly, Gives, Got, got, fails, Known, more}
use Rattle.mau_rules.specs.Found.{item_of, KnownEvaluation}
use Rattle.mau_rules.specs.Rounds.{value_by, rest_by, KnownRound}
use Rattle.mau_rules.proofs.Running.{stand_at, bound_reached, run_goes_on, run_ends, more_twice}
use Rattle.mau_rules.proofs.Uses.{shown_sum}

-- of the run that f is it is known what is known of the rest of it from s on, with so many counted as are shown
pub record IsUnder (I : Item) (P : Program) (f : ℕ → ℕ → Run PassEnd) (b0 shown : ℕ) (n : Option ℕ) (s : Stand) (b : ℕ) : Type 0 where
  pub count : ℕ
  pub shows : shown ≡ shown_count count
  pub known : (o : Got PassEnd) (after : ℕ) → Known I (rest_by P n s) b o after → Known I f b0 (more count o) after

-- what an evaluator answers for the term that a run begins with
pub begun_known : (p : Typed.Program) (run : IsRunnable p) (m : Meanings) (goes : GoesBy p m) (laws : AreMeanings m) (wanted : Bool) (t : Tree) (b : ℕ) (nodes : List Node) (r : Result Reduced EvalEnd) (after : ℕ) (remembered : Bool) →
    IsAllowed m remembered t b nodes r → (uses_results m wanted ≡ false → IsExact m t b nodes r after) → OnOk r (LeavesEnough (m.evaluation levels_of_item m.limit t b) after) →
    KnownEvaluation (item_of m wanted) (value_by (program_over p m.hooks) t) b nodes r after
begun_known p run m goes laws wanted t b nodes r after remembered allowed exact left =
    subst (λ (f : ℕ → ℕ → Run Tree). KnownEvaluation (item_of m wanted) f b nodes r after) (same_evaluation p run m goes laws wanted t) (evaluation_known p run m goes laws wanted t b nodes r after remembered allowed exact left)

module _ (P : Program) (I : Item) (n : Option ℕ) (s : Stand) (b : ℕ) where
  abbrev whole : ℕ → ℕ → Run PassEnd
  whole k B = rewrite_at P k B n s

  -- the term is evaluated
  pub under_begun : (nodes : List Node) (x : Reduced) (mid : ℕ) (v : Stand) → v ≡ stand_at (tree_at nodes x.term.0) s.turns → KnownEvaluation I (value_by P s.term) b nodes (Ok x) mid → IsUnder I P whole b x.rewrites n v mid
  under_begun nodes x mid v at k =
      subst (λ (w : Stand). IsUnder I P whole b x.rewrites n w mid) (sym at)
      (record { count = k.0; shows = k.1; known = λ o after h. run_goes_on P I n s b (tree_at nodes x.term.0) k.0 mid k.2 o after h })

module _ (I : Item) (P : Program) (f : ℕ → ℕ → Run PassEnd) (b0 shown : ℕ) (n : Option ℕ) (s : Stand) (b : ℕ) (under : IsUnder I P f b0 shown n s b) where
  -- one round more
  pub under_more : (v : Stand) (c after sum : ℕ) → is_out n ≡ false → KnownRound I P s b v (Ok (Some c)) after → sum ≡ min (shown + c) (2 ^ 64 - 1) → IsUnder I P f b0 sum (one_less n) v after
  under_more v c after sum out k e = record {
    count = under.count + k.0;
    shows = shown_sum sum shown c under.count k.0 e under.shows k.1;
    known = λ o l h. more_twice I f b0 under.count k.0 o l (under.known (more k.0 o) l (k.2.known n out o l h));
  }

  no_more : (c : ℕ) → c + 0 ≡ c
  no_more c = omega arith

  shown_end : (x : PassEnd) (after : ℕ) → Gives I (rest_by P n s) b x 0 after → Gives I f b0 x under.count after
  shown_end x after h = subst (λ c. Gives I f b0 x c after) (no_more under.count) (under.known (got x 0) after h)

  pub under_bound : is_out n ≡ true → Gives I f b0 (s, bound) under.count b
  under_bound out = shown_end (s, bound) b (bound_reached P I n s out b)

  pub under_normal : (v : Stand) (after : ℕ) → is_out n ≡ false → KnownRound I P s b v (Ok None) after → Gives I f b0 (s, normal) under.count after
  under_normal v after out k = shown_end (s, normal) after (k n out)

-- ---- answers

pub run_not_begun : (P : Program) (I : Item) (n : Option ℕ) (s : Stand) (b : ℕ) (nodes : List Node) (after : ℕ) (e : EvalEnd) → KnownEvaluation I (value_by P s.term) b nodes (Err e) after → KnownEnd I (λ k B. rewrite_at P k B n s) b e
run_not_begun P I n s b nodes after Stopped k = run_ends P I n s b stopped k
run_not_begun P I n s b nodes after TooDeep k = run_ends P I n s b too_deep k
run_not_begun P I n s b nodes after Overflow k = run_ends P I n s b overflowed k
run_not_begun P I n s b nodes after NoMemory k = tt

pub under_ends : (I : Item) (P : Program) (f : ℕ → ℕ → Run PassEnd) (b0 shown : ℕ) (n : Option ℕ) (s : Stand) (b : ℕ) → IsUnder I P f b0 shown n s b → is_out n ≡ false →
    (v : Stand) (after : ℕ) (e : EvalEnd) → KnownRound I P s b v (Err e) after → KnownEnd I f b0 e
under_ends I P f b0 shown n s b under out v after Stopped k = under.known (fails stopped) after (k n out)
under_ends I P f b0 shown n s b under out v after TooDeep k = under.known (fails too_deep) after (k n out)
under_ends I P f b0 shown n s b under out v after Overflow k = under.known (fails overflowed) after (k n out)
under_ends I P f b0 shown n s b under out v after NoMemory k = tt

-- want of memory says nothing
pub no_memory_exact : (m : Meanings) (f : ℕ → ℕ → Run PassEnd) (b : ℕ) (nodes : List Node) (run : RuleRun) → IsRunExactly m f b nodes run (Err NoMemory)
no_memory_exact m f b nodes run = record { levels = levels_of_condition; enough = omega arith; just = λ derives. refl; is = tt }

module _ (m : Meanings) (wanted : Bool) (f : ℕ → ℕ → Run PassEnd) (b : ℕ) where
  abbrev I : Item
  I = item_of m wanted

  module _ (nodes : List Node) (run : RuleRun) where
    -- the outcome of just the budget given is this answer
    answered : (r : Result (RuleEnd × Reduced) EvalEnd) (o : Outcome PassEnd) → (IsExactly I f b o) → ((p : Outcome PassEnd) → p ≡ o → IsRunAnswered p nodes run r) → IsRunExactly m f b nodes run r
    answered r o e is = record { levels = e.level; enough = e.enough; just = e.just; is = is (f e.level m.limit b) (e.above e.level (omega arith)) }

    pub value_exact : (e : RuleEnd) (x : Reduced) (r after : ℕ) → x.rewrites ≡ shown_count r → Gives I f b (ended_at nodes run e) r after → uses_results m wanted ≡ false → IsRunExactly m f b nodes run (Ok (e, x))
    value_exact e x r after shown G none = answered (Ok (e, x)) (done (ended_at nodes run e) r after) (G.exact none) (λ p is. (r, after, is, shown))

    pub value_allowed : (e : RuleEnd) (x : Reduced) (r after : ℕ) → x.rewrites ≡ shown_count r → Gives I f b (ended_at nodes run e) r after → MayRun m f b nodes run (Ok (e, x))
    value_allowed e x r after shown G =
        (r, (G.level + levels_of_condition, G.each + m.limit, G.budget + b, G.left + b, omega arith, omega arith, omega arith, G.comes (G.level + levels_of_condition) (G.each + m.limit) b (omega arith) (omega arith)), shown)

    pub end_exact : (e : EvalEnd) → KnownEnd I f b e → uses_results m wanted ≡ false → IsRunExactly m f b nodes run (Err e)
    end_exact Stopped k none = answered (Err Stopped) (ended stopped) (k.exact none) (λ p is. is)
    end_exact TooDeep k none = record { levels = levels_of_condition; enough = omega arith; just = λ derives. refl; is = k.exact none }
    end_exact Overflow k none = answered (Err Overflow) (ended overflowed) (k.exact none) (λ p is. is)
    end_exact NoMemory k none = no_memory_exact m f b nodes run

    pub end_allowed : (e : EvalEnd) → KnownEnd I f b e → MayRun m f b nodes run (Err e)
    end_allowed Stopped k = k.item b (omega arith)
    end_allowed TooDeep k = (k.each, k.budget + 0, k.deep k.each 0 (omega arith))
    end_allowed Overflow k =
        (k.level + levels_of_condition, k.each + m.limit, k.budget + b, omega arith, omega arith, omega arith, k.comes (k.level + levels_of_condition) (k.each + m.limit) b (omega arith) (omega arith))
    end_allowed NoMemory k = tt
