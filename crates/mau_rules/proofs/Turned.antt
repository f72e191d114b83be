-- One answer of a listing, in the search for a solution of a rule.
use Rattle.std.proofs.Common.{◌≡◌, [], List, ℕ, Bool, true, Option, Some, None, refl, sym, subst}
use Rattle.std.specs.Option.{option_map}
use Rattle.mau_terms.specs.Tree.{Tree}
use Rattle.mau_terms.specs.Norm.{norm}
use Rattle.mau_terms.specs.Finite.{IsIn}
use Rattle.mau_terms.specs.Subst.{variables}
use Rattle.mau_terms.specs.Solution.{HaveSorts}
use Rattle.mau_terms.specs.Bare.{IsBare, IsBareIn}
use Rattle.mau_terms.specs.Reading.{reading}
use Rattle.mau_terms.specs.View.{tree_of}
use Rattle.mau_terms.specs.declared.ids.TermId.{TermId}
use Rattle.mau_signature.specs.Signature.{SignatureOf, theory_at, terms_over}
use Rattle.mau_store.specs.Node.{Node}
use Rattle.mau_store.specs.Trees.{tree_at}
use Rattle.mau_store.specs.View.{numbers}
use Rattle.mau_sorts.specs.HasSort.{Known}
use Rattle.mau_sorts.specs.Table.{Table}
use Rattle.mau_listing.specs.Asked.{Asked, asks, question_in, matcher_in, BySort, IsTableOf, IsGiven}
use Rattle.mau_listing.specs.Next.{matcher_cmp, IsNext}
use Rattle.mau_listing.specs.Question.{IsSolution}
use Rattle.mau_listing.specs.declared.solution.Solution as Listed
use Rattle.mau_program.specs.declared.program.Program as Typed
use Rattle.mau_program.specs.declared.statements.Rule as Written
use Rattle.mau_evaluation.specs.Listing.{solutions_within}
use Rattle.mau_evaluation.specs.RuleRuns.{Turns}
use Rattle.mau_api.specs.Programs.{rule_of, program_over}
use Rattle.mau_api.specs.Meanings.{Meanings, meanings_by}
use Rattle.mau_api.specs.Answers.{DerivesNothing, IsDerivedTable, AreSettled}
use Rattle.mau_reduce.specs.Comes.{DerivesNone}
use Rattle.mau_reduce.specs.Contexts.{AreContexts}
use Rattle.mau_reduce.specs.Tables.{IsSortTable}
use Rattle.mau_reduce.specs.Trying.{solution_in}
use Rattle.mau_reduce.proofs.Candidates.{part_listed}
use Rattle.mau_reduce.proofs.DerivedKinds.{sort_table}
use Rattle.mau_rules.specs.Runnable.{IsRunnable, GoesBy}
use Rattle.mau_rules.specs.Known.{Item, Gives}
use Rattle.mau_rules.specs.Found.{IsValued, item_of, rule_at}
use Rattle.mau_rules.proofs.Trying.{a_test}
use Rattle.mau_rules.proofs.Rounds.{Left, begins, HasNext, none_next, one_next}
use Rattle.mau_rules.proofs.Valued.{listed_valued, listed_contexts, listed_of_kind}
use Rattle.mau_rules.proofs.Answered.{derived_as, next_as}

module _ (p : Typed.Program) (run : IsRunnable p) (m : Meanings) (goes : GoesBy p m) where
  -- where no membership of the evaluator's program is executable
  derives_none : DerivesNothing m → DerivesNone (program_over p m.hooks)
  derives_none none x i e = none x (subst (λ (q : Typed.Program). IsIn x (program_over q m.hooks).memberships) (sym goes.program) i) e

  -- the search begins with all solutions
  pub begun_turn : (rule : Written.Rule) (i : ℕ) (t : Tree) (normal : norm (theory_at p.sig) t ≡ t) (bare : IsBare (terms_over p.sig) (reading (theory_at p.sig) t)) (wanted : Bool)
      (nodes : List Node) (table : Table) → IsDerivedTable m nodes table → AreSettled p.sig nodes table t → rule.exec ≡ true → (b : ℕ) →
      Left p run m.hooks (rule_of rule) t normal bare (item_of m wanted) i b b None
  begun_turn rule i t normal bare wanted nodes table derived settled exec b =
      let test = a_test p run m.hooks (rule_of rule) t normal bare (item_of m wanted) m.remembers nodes table (derived_as p m goes nodes table derived) settled derives_none in
      begins p run m.hooks (rule_of rule) t normal bare (item_of m wanted) i test.0 test.1 exec b

module _ (p : Typed.Program) (run : IsRunnable p) (m : Meanings) (goes : GoesBy p m) (rule : Written.Rule) (i : ℕ) (t : Tree) (normal : norm (theory_at p.sig) t ≡ t) (bare : IsBare (terms_over p.sig) (reading (theory_at p.sig) t))
    (wanted : Bool) (b0 b : ℕ) (now new : List Node) (before after : Table) (c : Bool) (w : c ≡ true) (a : Asked) (term : TermId) (g : a ≡ asks (tree_of rule.left) [] term) (subject : tree_at now term.0 ≡ t) (later : tree_at new term.0 ≡ t)
    (given : Option Listed.Solution) (s : SignatureOf) (same : s ≡ p.sig) (derived : IsDerivedTable m now before) (settled : AreSettled p.sig now before t)
    (left : Left p run m.hooks (rule_of rule) t normal bare (item_of m wanted) i b0 b (option_map (matcher_in now) given)) where
  abbrev I : Item
  I = item_of m wanted

  abbrev pub NextOf : Option Listed.Solution → Type 0
  NextOf o = (known : Known) → IsTableOf s known now before →
      IsNext (IsSolution c s (BySort s known) (question_in now a)) (matcher_cmp (theory_at s) a.pattern) (option_map (matcher_in now) given) (option_map (matcher_in new) o)

  d : IsDerivedTable (meanings_by p m.hooks m.limit m.remembers) now before
  d = derived_as p m goes now before derived

  pub none_turn : NextOf None → (h : Turns) (around : Tree → Tree) → Gives I (rule_at (program_over p m.hooks) h (record { term = t; around = around }) (i, rule_of rule)) b0 None 0 b
  none_turn is h around =
      none_next p run m.hooks (rule_of rule) t normal bare I i m.remembers now before d settled b0 b (option_map (matcher_in now) given) left
      (next_as p s same c w a (tree_of rule.left) term g now new t subject given None d.known (is d.known (subst (λ z. IsTableOf z d.known now before) (sym same) d.declared)))
      h (record { term = t; around = around }) refl

  pub some_turn : (x : Listed.Solution) → NextOf (Some x) → HasNext p run m.hooks (rule_of rule) t normal bare I i b0 b (solution_in new x)
  some_turn x is =
      one_next p run m.hooks (rule_of rule) t normal bare I i m.remembers now before d settled b0 b (option_map (matcher_in now) given) left (solution_in new x)
      (next_as p s same c w a (tree_of rule.left) term g now new t subject given (Some x) d.known (is d.known (subst (λ z. IsTableOf z d.known now before) (sym same) d.declared)))

  -- the sorts of values are of their terms' kinds
  table_now : IsSortTable p.sig now before
  table_now = sort_table p run.reducible m.hooks m.limit m.remembers now before d

  module _ (x : Listed.Solution) (is : NextOf (Some x)) (solves : IsGiven c s new after a x) where
    here : IsGiven true p.sig new after (asks (tree_of rule.left) [] term) x
    here =
        subst (λ (z : SignatureOf). IsGiven true z new after (asks (tree_of rule.left) [] term) x) same
        (subst (λ (z : Asked). IsGiven true s new after z x) g (subst (λ z. IsGiven z s new after a x) w solves))

    listed : IsIn (solution_in new x) (solutions_within (terms_over p.sig) (tree_of rule.left) t) × HaveSorts (BySort p.sig table_now.known) (variables (tree_of rule.left)) (solution_in new x).values
    listed =
        part_listed p.sig run.reducible.lawful table_now.known (tree_of rule.left) t normal bare (solution_in new x)
        (next_as p s same c w a (tree_of rule.left) term g now new t subject given (Some x) table_now.known (is table_now.known (subst (λ z. IsTableOf z table_now.known now before) (sym same) table_now.declared))).is_one

    pub valued_turn : IsValued p.sig new after (tree_of rule.left) x
    valued_turn = listed_valued p run (rule_of rule) t normal bare now new before after settled x term later listed.0 table_now listed.1 here

    pub contexts_turn : AreContexts p.sig new t (numbers x.left) (numbers x.right)
    contexts_turn = listed_contexts p run (rule_of rule) t normal bare now new before after settled x term later listed.0 table_now listed.1 here

    pub kind_turn : (k : ℕ) → IsBareIn (terms_over p.sig) (tree_of rule.left) k → IsBareIn (terms_over p.sig) (reading (theory_at p.sig) t) k
    kind_turn = listed_of_kind p run (rule_of rule) t normal bare now new before after settled x term later listed.0 table_now listed.1 here
