-- Tests: their results by the uses of a rule, and the search for these.
use Rattle.std.proofs.Common.{◌≡◌, ◌⊎◌, inl, ℕ, List, [], ◌∷◌, map, Bool, true, false, Option, Some, None, Ok, Err, refl, sym, ap, ◌∙◌, subst, append-nil}
use Rattle.mau_terms.specs.Tree.{Tree}
use Rattle.mau_terms.specs.Bare.{IsBareIn, IsLawful}
use Rattle.mau_terms.specs.Subst.{Variable, variables, add_variables}
use Rattle.mau_terms.specs.Finite.{each_of}
use Rattle.mau_terms.specs.declared.ids.TermId.{TermId}
use Rattle.mau_terms.specs.declared.ids.VarId.{VarId}
use Rattle.mau_terms.proofs.Variables.{distinct}
use Rattle.mau_signature.specs.Signature.{SignatureOf, terms_over}
use Rattle.mau_store.specs.Node.{Node, Extends}
use Rattle.mau_store.specs.Trees.{tree_at}
use Rattle.mau_sorts.specs.Table.{Table, KeepsEntries, AreOver}
use Rattle.mau_listing.specs.Asked.{Asked}
use Rattle.mau_listing.specs.declared.solution.Solution as Listed
use Rattle.mau_program.specs.declared.program.Program as Typed
use Rattle.mau_program.specs.declared.statements.Fragment as WrittenFragment
use Rattle.mau_program.specs.declared.statements.Rule as Written
use Rattle.mau_program.specs.declared.strategies.TestKind as WrittenKind
use Rattle.mau_program.specs.declared.strategies.TestKind.TheVariants as Kind
use Rattle.mau_evaluation.specs.Run.{End, Outcome, done, ended}
use Rattle.mau_evaluation.specs.Program.{Rule, Program}
use Rattle.mau_evaluation.specs.Listing.{Solution, solutions_within}
use Rattle.mau_evaluation.specs.Evaluation.{Binding, agree, have_sorts}
use Rattle.mau_evaluation.specs.Engine.{Engine, engine_of}
use Rattle.mau_evaluation.specs.Strategy.{test}
use Rattle.mau_evaluation.specs.Satisfies.{candidates_for}
use Rattle.mau_evaluation.specs.Configs.{Todo}
use Rattle.mau_evaluation.specs.Rules.{bound_by}
use Rattle.mau_evaluation.specs.Questions.{without}
use Rattle.mau_evaluation.specs.Answers.{Answers, no_more, answer, and_those, for_each, from_outcome, when, FirstBy}
use Rattle.mau_evaluation.specs.OrderedLists.{shown, asked_from, or_next, holding, first_holding, results_of, results}
use Rattle.mau_api.specs.Programs.{fragment_of, rule_of, program_over}
use Rattle.mau_api.specs.Meanings.{Meanings}
use Rattle.mau_api.specs.Answers.{binding_in, IsAskable, levels_of_condition}
use Rattle.mau_api.specs.declared.results.EvalEnd.{EvalEnd}
use Rattle.mau_api.specs.declared.results.EvalEnd.TheVariants as Ended
use Rattle.mau_stratforms.specs.Meanings.{kind_of}
use Rattle.mau_leaves.specs.Steps.{Gives, IsOver, Passes, EndsNow, Throughout}
use Rattle.mau_leaves.specs.Uses.{Use, solutions_as, use_by, uses_among}
use Rattle.mau_leaves.specs.Answers.{IsDueBy}
use Rattle.mau_leaves.specs.Searches.{IsUsable, IsNextOne}
use Rattle.mau_leaves.specs.Subterms.{subterms_from, terms_after, uses_in, left_of_spot, left_of_subterms, IsSubtermSearch}
use Rattle.mau_leaves.specs.Follows.{HasGiven}
use Rattle.mau_leaves.specs.Tests.{first_only, looks_below, looks_whole, MayAsk, IsTestOf, left_over, left_of_test, IsTest, IsBegunTest}
use Rattle.mau_leaves.specs.declared.subterms.SubtermUses.{SubtermUses}
use Rattle.mau_leaves.specs.declared.testing.TestCursor.{TestCursor}
use Rattle.mau_leaves.proofs.Engines.{AsksRightly, without_right}
use Rattle.mau_leaves.proofs.Subtrees.{itself_first, at_places, among_each, subject_grown, subject_same}
use Rattle.mau_leaves.proofs.SubtermTurns.{subterms_grown, left_subterms_same}
use Rattle.mau_leaves.proofs.Steps.{always_so, through_as, through_always, due_as}
use Rattle.mau_leaves.proofs.Throughs.{rightly}
use Rattle.mau_leaves.proofs.Follows.{begins}

-- ---- the first use, with one engine

module _ (P : Program) (L : Engine) (right : AsksRightly P L) (q : Rule) (σ : Binding) (t : Tree) where
  abbrev Rest : List Solution → Answers Use
  Rest xs = uses_among P L q σ xs

  -- a condition that is asked
  asked_first : (x : Solution) (p : Answers Tree) (r : Answers Use) → p ≡ first_only t r → (o : Outcome (Option Binding)) (s : Answers Binding) → FirstBy o s →
      from_outcome (holding t p) o ≡ first_only t (and_those (for_each (use_by q x) (asked_from P L q.cond (bound_by P L q σ x) o s)) r)
  asked_first x p r e (ended f) s h = refl
  asked_first x p r e (done None c l) s h = e ∙ sym (ap (λ z. first_only t (and_those (for_each (use_by q x) (asked_from P L q.cond (bound_by P L q σ x) (done None c l) z)) r)) h)
  asked_first x p r e (done (Some τ) c l) s h = sym (ap (λ z. first_only t (and_those (for_each (use_by q x) (asked_from P L q.cond (bound_by P L q σ x) (done (Some τ) c l) z)) r)) h.1)

  abbrev asks_of : Solution → Answers Tree → Answers Tree
  asks_of x p = from_outcome (holding t p) (L.ask q.cond (bound_by P L q σ x) L.budget)

  abbrev uses_of : Solution → Answers Use
  uses_of x = for_each (use_by q x) (asked_from P L q.cond (bound_by P L q σ x) (L.ask q.cond (bound_by P L q σ x) L.budget) (shown P L q.cond (bound_by P L q σ x)))

  sorted_first : (x : Solution) (p : Answers Tree) (r : Answers Use) → p ≡ first_only t r → (o : Outcome Bool) →
      from_outcome (λ ok. or_next ok p (asks_of x p)) o ≡ first_only t (and_those (from_outcome (λ ok. when ok (uses_of x)) o) r)
  sorted_first x p r e (ended f) = refl
  sorted_first x p r e (done true c l) =
      asked_first x p r e (L.ask q.cond (bound_by P L q σ x) L.budget) (shown P L q.cond (bound_by P L q σ x)) (right.first q.cond (bound_by P L q σ x))
  sorted_first x p r e (done false c l) = e

  agreed_first : (x : Solution) (p : Answers Tree) (r : Answers Use) → p ≡ first_only t r → (b : Bool) →
      or_next b p (from_outcome (λ ok. or_next ok p (asks_of x p)) (have_sorts L.level.sorts (variables q.left) x.values L.budget))
      ≡ first_only t (and_those (when b (from_outcome (λ ok. when ok (uses_of x)) (have_sorts L.level.sorts (variables q.left) x.values L.budget))) r)
  agreed_first x p r e true = sorted_first x p r e (have_sorts L.level.sorts (variables q.left) x.values L.budget)
  agreed_first x p r e false = e

  pub holds_first : (xs : List Solution) → first_holding P L q.left q.cond σ t xs ≡ first_only t (uses_among P L q σ xs)
  holds_first [] = refl
  holds_first (x ∷ xs) = agreed_first x (first_holding P L q.left q.cond σ t xs) (Rest xs) (holds_first xs) (agree P.sign.theory σ (variables q.left) x.values)

-- ---- which solutions a test looks at

module _ (P : Program) (nodes : List Node) (q : Rule) (t : Tree) where
  pub candidates_are : (k : WrittenKind.TestKind) → candidates_for P (kind_of k) q.left t ≡ each_of (solutions_as P (looks_whole k) q) (t ∷ terms_after (looks_below k) nodes [] t 0)
  candidates_are Kind.Match = refl
  candidates_are Kind.Xmatch = refl
  candidates_are Kind.Amatch = at_places (solutions_within P.sign q.left) (λ v. v) t ∙ ap (each_of (solutions_within P.sign q.left)) (itself_first t ∙ ap (λ ts. t ∷ ts) (sym (append-nil (subterms_from t 0))))

-- ---- throughout

module _ (P : Program) (lawful : IsLawful P.sign) {A : Type 0} (a : Engine → Answers A → Type 0) where
  -- what holds of each engine whose askings are right
  pub through_right : {H : Engine → Type 0} → ((L : Engine) → AsksRightly P L → H L) → Throughout (engine_of P) a H
  through_right {H = H} f = record {
    always = always_so (engine_of P) {A = H} (λ k B b. f (engine_of P k B b) (rightly P lawful k B b));
    without_one = λ u e.
        always_so (engine_of P) {A = λ L. H (without L u e) ⊎ EndsNow (a (without L u e)) e}
        (λ k B b. inl (f (without (engine_of P k B b) u e) (without_right P (engine_of P k B b) (rightly P lawful k B b) u e)));
  }

-- ---- the beginning

module _ {K : Type 0} (asked : K → Asked) (given : K → Option Listed.Solution) (is_for : K → SignatureOf → Type 0) (c : Bool) (p : Typed.Program) (m : Meanings) (nodes : List Node) (table : Table) (bound : List (VarId × TermId))
    (kind : WrittenKind.TestKind) (pattern : Tree) (cond : List WrittenFragment.Fragment) (term : TermId) (s : TestCursor K) (h : IsBegunTest asked given is_for c p m nodes table bound kind pattern cond term s) where
  abbrev Q : Program
  Q = program_over p m.hooks

  abbrev u : Tree
  u = tree_at nodes term.0

  abbrev rule : Rule
  rule = rule_of s.rule

  abbrev σ : Binding
  σ = binding_in nodes bound

  abbrev terms : List Tree
  terms = u ∷ terms_after (looks_below kind) nodes [] u 0

  abbrev Start : Engine → Answers Tree → Type 0
  Start L z = (r : Answers Use) × (r ≡ uses_in Q L (looks_whole kind) rule σ terms) × (z ≡ first_only u r)

  start_is : Start ≡ left_of_test asked given p m.hooks nodes s
  start_is =
      (λ i L z. (r : Answers Use) × left_of_spot asked given p m.hooks s.rule (sym h.looks.1 i) (sym h.looks.0 i) nodes (sym h.looks.2 i) (sym h.begun.0 i) (sym h.begun.1 i) L r × (z ≡ first_only (tree_at nodes (sym h.subject i).0) r))
      ∙ ap (λ b. left_over asked given b p m.hooks nodes s) (sym h.begun.2)

  test_results : (L : Engine) → AsksRightly Q L → (d : Todo) → d.form ≡ test (kind_of kind) pattern (map fragment_of cond) → d.values ≡ binding_in nodes bound → results Q L d u ≡ first_only u (uses_in Q L (looks_whole kind) rule σ terms)
  test_results L right d form values =
      ap (λ τ. results_of Q L τ d.form u) values
      ∙ (ap (λ e. results_of Q L σ e u) form
      ∙ (ap (λ l. first_holding Q L l (map fragment_of cond) σ u (candidates_for Q (kind_of kind) l u)) (sym h.rule.left)
      ∙ (ap (λ cs. first_holding Q L rule.left (map fragment_of cs) σ u (candidates_for Q (kind_of kind) rule.left u)) (sym h.rule.condition)
      ∙ (ap (first_holding Q L rule.left rule.cond σ u) (candidates_are Q nodes rule u kind)
      ∙ (holds_first Q L right rule σ u (each_of (solutions_as Q (looks_whole kind) rule) terms) ∙ ap (first_only u) (among_each Q L (looks_whole kind) rule σ terms))))))

  pub begins_test : IsLawful (program_over p m.hooks).sign → (d : Todo) → d.form ≡ test (kind_of kind) pattern (map fragment_of cond) → d.values ≡ binding_in nodes bound →
      HasGiven (program_over p m.hooks) (engine_of (program_over p m.hooks)) d (tree_at nodes term.0) [] (left_of_test asked given p m.hooks nodes s)
  begins_test lawful d form values =
      begins (engine_of Q) (λ L. results Q L d u) (left_of_test asked given p m.hooks nodes s)
      (subst (λ (f : Engine → Answers Tree → Type 0). Throughout (engine_of Q) (λ L z. z ≡ results Q L d u) (λ L. Passes (λ z. z ≡ results Q L d u) (f L))) start_is
      (through_right Q lawful (λ L z. z ≡ results Q L d u) {H = λ L. Passes (λ z. z ≡ results Q L d u) (Start L)}
      (λ L right z e. (uses_in Q L (looks_whole kind) rule σ terms, refl, e ∙ test_results L right d form values))))

-- its rule can be used
pub test_usable : (s : SignatureOf) (xs : List Variable) (pattern : Tree) (cond : List WrittenFragment.Fragment) → MayAsk s xs pattern cond → (q : Written.Rule) → IsTestOf pattern cond q → IsUsable s xs q
test_usable s xs pattern cond may q is =
    let bare = may.pattern in
    record {
      sides = record { kind = bare.0; first = subst (λ t. IsBareIn (terms_over s) t bare.0) (sym is.left) bare.1; second = subst (λ t. IsBareIn (terms_over s) t bare.0) (sym is.right) bare.1 };
      condition =
          subst (λ t. IsAskable s (add_variables xs t) q.cond) (sym is.left)
          (subst (λ (cs : List WrittenFragment.Fragment). IsAskable s (add_variables xs pattern) cs) (sym is.condition) (record { fragments = may.fragments; bound = may.bound; apart = distinct pattern xs may.apart }));
      apart = may.apart;
    }

-- ---- steps

module _ {K : Type 0} (asked : K → Asked) (given : K → Option Listed.Solution) (is_for : K → SignatureOf → Type 0) (c : Bool) (p : Typed.Program) (m : Meanings) (old new : List Node) (before after : Table) (extends : Extends old new)
    (kept : KeepsEntries before after) (over : AreOver p.sig.hierarchy after) (s : TestCursor K) (is : IsTest asked given is_for c p m old before s) where
  abbrev R : Program
  R = program_over p m.hooks

  abbrev uses_left : List Node → SubtermUses K → Engine → Answers Use → Type 0
  uses_left nodes w = left_of_subterms asked given p m.hooks s.rule nodes w

  same : tree_at new s.term.0 ≡ tree_at old s.term.0
  same = subject_same p old new before after extends kept s.term.0 is.subject

  pub test_then : (w : SubtermUses K) (b : Bool) → IsSubtermSearch asked given is_for c p m s.rule new after w → IsTest asked given is_for c p m new after (record { term = s.term; rule = s.rule; uses = w; over = b })
  test_then w b search = record { subject = subject_grown p old new before after extends kept s.term.0 is.subject; search = search }

  pub test_grown : IsTest asked given is_for c p m new after s
  test_grown = record { subject = subject_grown p old new before after extends kept s.term.0 is.subject; search = subterms_grown asked given is_for c p m s.rule old new before after extends kept over s.uses is.search }

  pub still_test : Throughout (engine_of (program_over p m.hooks)) (left_of_test asked given p m.hooks old s) (λ L. Passes (left_of_test asked given p m.hooks old s L) (left_of_test asked given p m.hooks new s L))
  still_test =
      through_always (engine_of R) (left_of_test asked given p m.hooks old s) {H = λ L. Passes (left_of_test asked given p m.hooks old s L) (left_of_test asked given p m.hooks new s L)}
      (λ L q n. subst (λ (f : Engine → Answers Tree → Type 0). f L q) (by s.over) n)
    where
      by : (b : Bool) → left_over asked given b p m.hooks old s ≡ left_over asked given b p m.hooks new s
      by true = refl
      by false =
          let left = left_subterms_same asked given is_for c p m s.rule old new before after extends kept over s.uses is.search in
          λ i L q. (r : Answers Use) × sym left i L r × (q ≡ first_only (sym same i) r)

  -- nothing is left where the search is over
  pub over_test : s.over ≡ true → Throughout (engine_of (program_over p m.hooks)) (left_of_test asked given p m.hooks old s) (λ L. IsOver (left_of_test asked given p m.hooks old s L))
  over_test e =
      subst (λ (f : Engine → Answers Tree → Type 0). Throughout (engine_of R) f (λ L. IsOver (f L))) (ap (λ b. left_over asked given b p m.hooks old s) (sym e))
      (through_always (engine_of R) (λ L q. q ≡ no_more) {H = λ L. IsOver (λ q. q ≡ no_more)} (λ L q n. n))

  module _ (going : s.over ≡ false) (w : SubtermUses K) (b : ℕ) (o : Option Use) where
    abbrev Now : Engine → Answers Tree → Type 0
    Now = left_over asked given false p m.hooks old s

    was : left_over asked given false p m.hooks old s ≡ left_of_test asked given p m.hooks old s
    was = ap (λ z. left_over asked given z p m.hooks old s) (sym going)

    ends_now : (L : Engine) (e : End) → EndsNow (uses_left old s.uses L) e → EndsNow (left_over asked given false p m.hooks old s L) e
    ends_now L e k q n = n.2 ∙ ap (first_only (tree_at old s.term.0)) (k n.0 n.1)

    pub found_test : IsNextOne (program_over p m.hooks) b (uses_left old s.uses) (uses_left new w) o (Ok true) →
        Throughout (engine_of (program_over p m.hooks)) (left_of_test asked given p m.hooks old s) (λ L. Gives (left_of_test asked given p m.hooks old s L) (tree_at new s.term.0) (λ q. q ≡ no_more))
    found_test (x, e, g) =
        subst (λ (f : Engine → Answers Tree → Type 0). Throughout (engine_of R) f (λ L. Gives (f L) (tree_at new s.term.0) (λ q. q ≡ no_more))) was
        (through_as (engine_of R) (uses_left old s.uses) Now {H = λ L. Gives (uses_left old s.uses L) x (uses_left new w L)} {K = λ L. Gives (Now L) (tree_at new s.term.0) (λ q. q ≡ no_more)}
        (λ L k q n. (no_more, n.2 ∙ (ap (first_only (tree_at old s.term.0)) (k n.0 n.1).1 ∙ ap (λ t. answer t no_more) (sym same)), refl)) ends_now g)

    pub none_test : IsNextOne (program_over p m.hooks) b (uses_left old s.uses) (uses_left new w) o (Ok false) →
        Throughout (engine_of (program_over p m.hooks)) (left_of_test asked given p m.hooks old s) (λ L. IsOver (left_of_test asked given p m.hooks old s L))
    none_test g =
        subst (λ (f : Engine → Answers Tree → Type 0). Throughout (engine_of R) f (λ L. IsOver (f L))) was
        (through_as (engine_of R) (uses_left old s.uses) Now {H = λ L. IsOver (uses_left old s.uses L)} {K = λ L. IsOver (Now L)} (λ L k q n. n.2 ∙ ap (first_only (tree_at old s.term.0)) (k n.0 n.1)) ends_now g)

    due_now : (e : EvalEnd) → IsDueBy R b (uses_left old s.uses) e → IsDueBy R b (left_over asked given false p m.hooks old s) e
    due_now Ended.Stopped h = due_as (engine_of R) (uses_left old s.uses) Now ends_now R levels_of_condition b _ h
    due_now Ended.TooDeep h = due_as (engine_of R) (uses_left old s.uses) Now ends_now R levels_of_condition b _ h
    due_now Ended.Overflow h = due_as (engine_of R) (uses_left old s.uses) Now ends_now R levels_of_condition b _ h
    due_now Ended.NoMemory h = tt

    abbrev then : TestCursor K
    then = record { term = s.term; rule = s.rule; uses = w; over = s.over }

    will : left_over asked given false p m.hooks new (record { term = s.term; rule = s.rule; uses = w; over = s.over }) ≡ left_of_test asked given p m.hooks new (record { term = s.term; rule = s.rule; uses = w; over = s.over })
    will = ap (λ z. left_over asked given z p m.hooks new then) (sym going)

    pub ends_test : (e : EvalEnd) → IsNextOne (program_over p m.hooks) b (uses_left old s.uses) (uses_left new w) o (Err e) →
        Throughout (engine_of (program_over p m.hooks)) (left_of_test asked given p m.hooks old s) (λ L.
        Passes (left_of_test asked given p m.hooks old s L) (left_of_test asked given p m.hooks new (record { term = s.term; rule = s.rule; uses = w; over = s.over }) L)) ×
        IsDueBy (program_over p m.hooks) b (left_of_test asked given p m.hooks old s) e
    ends_test e (g, d) = (
      subst (λ (f : Engine → Answers Tree → Type 0). Throughout (engine_of R) f (λ L. Passes (f L) (left_of_test asked given p m.hooks new then L))) was
          (subst (λ (f : Engine → Answers Tree → Type 0). Throughout (engine_of R) Now (λ L. Passes (Now L) (f L))) will
          (through_as (engine_of R) (uses_left old s.uses) Now {H = λ L. Passes (uses_left old s.uses L) (uses_left new w L)} {K = λ L. Passes (Now L) (left_over asked given false p m.hooks new then L)}
          (λ L k q n. (n.0, k n.0 n.1, n.2 ∙ ap (λ t. first_only t n.0) (sym same))) ends_now g)),
      subst (λ (f : Engine → Answers Tree → Type 0). IsDueBy R b f e) was (due_now e d),
    )
