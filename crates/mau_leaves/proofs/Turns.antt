-- The turns of a search, from what an evaluator and a listing answered.
use Rattle.std.proofs.Common.{◌≡◌, ℕ, List, [], All, Vec, Global, Bool, true, false, Option, Some, None, Result, Ok, Err, refl, sym, ap, subst, arith}
use Rattle.std.specs.Option.{option_map}
use Rattle.mau_terms.specs.Tree.{Tree}
use Rattle.mau_terms.specs.Norm.{norm}
use Rattle.mau_terms.specs.Finite.{IsIn}
use Rattle.mau_terms.specs.Subst.{variables}
use Rattle.mau_terms.specs.Solution.{HaveSorts}
use Rattle.mau_terms.specs.View.{tree_of}
use Rattle.mau_terms.specs.declared.ids.TermId.{TermId}
use Rattle.mau_terms.specs.declared.ids.VarId.{VarId}
use Rattle.mau_signature.specs.Signature.{SignatureOf, theory_at, terms_over}
use Rattle.mau_store.specs.Node.{Node, Extends}
use Rattle.mau_store.specs.Trees.{tree_at}
use Rattle.mau_sorts.specs.HasSort.{Known}
use Rattle.mau_sorts.specs.Table.{Table, KeepsEntries, AreOver}
use Rattle.mau_listing.specs.Asked.{Asked, asks, question_in, matcher_in, BySort, HasEntry, IsTableOf, IsGiven}
use Rattle.mau_listing.specs.Matcher.{Matcher}
use Rattle.mau_listing.specs.Next.{matcher_cmp, IsNext}
use Rattle.mau_listing.specs.Question.{IsSolution}
use Rattle.mau_listing.specs.declared.solution.Solution as Listed
use Rattle.mau_listing.proofs.Growth.{given_is_last}
use Rattle.mau_program.specs.declared.program.Program as Typed
use Rattle.mau_program.specs.declared.statements.Rule as Written
use Rattle.mau_evaluation.specs.Program.{Program}
use Rattle.mau_evaluation.specs.Listing.{Solution, solutions_within}
use Rattle.mau_evaluation.specs.Evaluation.{Binding}
use Rattle.mau_evaluation.specs.Engine.{Engine, engine_of}
use Rattle.mau_evaluation.specs.Answers.{Answers}
use Rattle.mau_api.specs.Programs.{rule_of, program_over}
use Rattle.mau_api.specs.Remaining.{as_matcher}
use Rattle.mau_api.specs.Meanings.{Meanings, meanings_by}
use Rattle.mau_api.specs.Answers.{binding_in, IsValueOf, AreApart, IsSolutionOf, IsDerivedTable}
use Rattle.mau_api.specs.declared.results.EvalEnd.{EvalEnd}
use Rattle.mau_reduce.specs.Tables.{IsSortTable}
use Rattle.mau_reduce.specs.Trying.{solution_in}
use Rattle.mau_reduce.proofs.KindsKept.{tree_kept}
use Rattle.mau_reduce.proofs.Candidates.{matchers_of, part_listed}
use Rattle.mau_reduce.proofs.DerivedKinds.{sort_table}
use Rattle.mau_rules.specs.Runnable.{IsRunnable, GoesBy}
use Rattle.mau_rules.specs.Found.{IsValued}
use Rattle.mau_rules.proofs.Answered.{derived_as}
use Rattle.mau_rules.proofs.Valued.{listed_valued, listed_contexts, listed_of_kind}
use Rattle.mau_leaves.specs.Steps.{Gives, IsOver, Passes, Throughout}
use Rattle.mau_leaves.specs.Uses.{Use, behind, at_one, IsLeft}
use Rattle.mau_leaves.specs.Answers.{IsNextShown, IsDueBy}
use Rattle.mau_leaves.specs.Searches.{takes, stand_of, left_in, use_in, last_in, variables_in, bound_at, IsAtSolution, IsShownBehind, StandsAt, IsSearch, IsTurn}
use Rattle.mau_leaves.specs.declared.turn.Turn.{Turn}
use Rattle.mau_leaves.specs.declared.uses.Standing.{Standing}
use Rattle.mau_leaves.specs.declared.uses.Standing.TheVariants.{Behind, Before, Within}
use Rattle.mau_leaves.proofs.Steps.{through_always}
use Rattle.mau_leaves.proofs.Throughs.{given_through, passed_through, due_through}
use Rattle.mau_leaves.proofs.Searching.{solution_same, bound_same, bound_at_same, of_store, search_grown, left_same}
use Rattle.mau_choices.proofs.Agreeing.{bound_variables, HaveNorms}
use Rattle.mau_leaves.proofs.Agreeing.{bound_norms, bound_apart}
use Rattle.mau_leaves.proofs.Listings.{none_next, one_next, one_skipped}

stand_at : (nodes : List Node) (x : Listed.Solution) (s : Standing) → (s ≡ Behind → ⊥) → stand_of nodes (Some x) s ≡ at_one (solution_in nodes x) (last_in nodes s)
stand_at nodes x Behind h = absurd (h refl)
stand_at nodes x Before h = refl
stand_at nodes x (Within found) h = refl

stand_behind : (nodes : List Node) (given : Option Listed.Solution) → stand_of nodes given Behind ≡ behind (option_map (solution_in nodes) given)
stand_behind nodes None = refl
stand_behind nodes (Some x) = refl

-- ---- what a listing answers, said of a pattern, what is bound and a subject

-- a solution of a question is one of the same where nothing is bound
unbound_part : (s : SignatureOf) (Q : ℕ → Tree → Type 0) (left : Tree) (τ : Binding) (t : Tree) (x : Matcher) → IsSolution true s Q (record { pattern = left; bound = τ; subject = t }) x → IsSolution true s Q (record { pattern = left; bound = []; subject = t }) x
unbound_part s Q left τ t x is = record { bare = is.bare; values = is.values; solves = is.solves; agrees = λ b c. absurd (omega (arith, c.1)) }

unbound_given : (s : SignatureOf) (nodes : List Node) (table : Table) (left : Tree) (bound : List (VarId × TermId)) (term : TermId) (x : Listed.Solution) → IsGiven true s nodes table (asks left bound term) x → IsGiven true s nodes table (asks left [] term) x
unbound_given s nodes table left bound term x is = record {
  left = is.left;
  right = is.right;
  values = is.values;
  settled = is.settled;
  solves = unbound_part s (HasEntry s nodes table) left (binding_in nodes bound) (tree_at nodes term.0) (matcher_in nodes x) is.solves;
}

module _ (p : Typed.Program) (s : SignatureOf) (same : s ≡ p.sig) (c : Bool) (w : c ≡ true) (a : Asked) (left : Tree) (bound : List (VarId × TermId)) (term : TermId) (g : a ≡ asks left bound term) (now new : List Node)
    (given answer : Option Listed.Solution) (known : Known) where
  next_bound : IsNext (IsSolution c s (BySort s known) (question_in now a)) (matcher_cmp (theory_at s) a.pattern) (option_map (matcher_in now) given) (option_map (matcher_in new) answer) →
      IsNext (IsSolution true p.sig (BySort p.sig known) (record { pattern = left; bound = binding_in now bound; subject = tree_at now a.subject.0 })) (matcher_cmp (theory_at p.sig) left) (option_map (matcher_in now) given) (option_map as_matcher (option_map (solution_in new) answer))
  next_bound is =
      let one = subst (λ z. IsNext (IsSolution z s (BySort s known) (question_in now a)) (matcher_cmp (theory_at s) a.pattern) (option_map (matcher_in now) given) (option_map (matcher_in new) answer)) w is in
      let two = subst (λ (z : Asked). IsNext (IsSolution true s (BySort s known) (question_in now z)) (matcher_cmp (theory_at s) z.pattern) (option_map (matcher_in now) given) (option_map (matcher_in new) answer)) g one in
      let three = subst (λ z. IsNext (IsSolution true z (BySort z known) (question_in now (asks left bound term))) (matcher_cmp (theory_at z) left) (option_map (matcher_in now) given) (option_map (matcher_in new) answer)) same two in
      let four = subst (λ (i : TermId). IsNext (IsSolution true p.sig (BySort p.sig known) (record { pattern = left; bound = binding_in now bound; subject = tree_at now i.0 })) (matcher_cmp (theory_at p.sig) left) (option_map (matcher_in now) given) (option_map (matcher_in new) answer))
      (sym (ap (λ (z : Asked). z.subject) g)) three in
      subst (λ z. IsNext (IsSolution true p.sig (BySort p.sig known) (record { pattern = left; bound = binding_in now bound; subject = tree_at now a.subject.0 })) (matcher_cmp (theory_at p.sig) left) (option_map (matcher_in now) given) z) (matchers_of new answer) four

-- at a solution there is one
pub never_none : (m : Meanings) (s : SignatureOf) (rule : Written.Rule) (bound : List (VarId × TermId)) (nodes : List Node) (table : Table) (given : Option Listed.Solution) → given ≡ None → (k : Standing) → StandsAt m s rule bound nodes table given k → (k ≡ Behind → ⊥) → ⊥
never_none m s rule bound nodes table given e k stands at = by k (subst (λ (o : Option Listed.Solution). StandsAt m s rule bound nodes table o k) e stands) at
  where
    by : (k : Standing) → StandsAt m s rule bound nodes table None k → (k ≡ Behind → ⊥) → ⊥
    by Behind h at = at refl
    by Before h at = h
    by (Within found) h at = h

module _ (p : Typed.Program) (run : IsRunnable p) (m : Meanings) (goes : GoesBy p m) (rule : Written.Rule) (w : Bool) (bound : List (VarId × TermId)) (old new : List Node) (before after : Table) (extends : Extends old new) (kept : KeepsEntries before after)
    (c : Bool) (a : Asked) where
  abbrev Left : List Node → Option Listed.Solution → Standing → Engine → Answers Use → Type 0
  Left nodes given s = left_in p m.hooks rule w bound nodes a given s

  abbrev P : Program
  P = program_over p m.hooks

  -- what is left stays as it is
  pub still : (given : Option Listed.Solution) (s : Standing) → IsSearch c p m rule bound old before a given s → Throughout (engine_of (program_over p m.hooks)) (left_in p m.hooks rule w bound old a given s) (λ L.
      Passes (left_in p m.hooks rule w bound old a given s L) (left_in p m.hooks rule w bound new a given s L))
  still given s is =
      let same = left_same p old new before after extends kept m rule bound c a w given s is in
      through_always (engine_of P) (Left old given s) {H = λ L. Passes (Left old given s L) (Left new given s L)} (λ L q n. subst (λ (f : Engine → Answers Use → Type 0). f L q) (sym same) n)

  -- ---- a condition is asked on, at the solution x

  module _ (x : Listed.Solution) (s : Standing) (is : IsSearch c p m rule bound old before a (Some x) s) (at : s ≡ Behind → ⊥) where
    abbrev t : Tree
    t = tree_at old a.subject.0

    abbrev y : Solution
    y = solution_in old x

    tree_same : tree_at new a.subject.0 ≡ tree_at old a.subject.0
    tree_same = tree_kept (theory_at p.sig) old new a.subject.0 extends is.ready.askable.subject

    abbrev σ : Binding
    σ = binding_in old bound

    σ_same : binding_in new bound ≡ binding_in old bound
    σ_same = bound_same p old new before after extends kept m rule bound is.values

    same_y : solution_in new x ≡ solution_in old x
    same_y = solution_same old new extends x (of_store p old new before after extends kept m rule bound c a (Some x) is.ready)

    now_is : (λ (L : Engine). IsLeft P L w (rule_of rule) σ t (at_one y (last_in old s))) ≡ Left old (Some x) s
    now_is = λ i L. IsLeft P L w (rule_of rule) σ t (sym (stand_at old x s at) i)

    then_within : (found : Vec (VarId × TermId) Global) → (λ (L : Engine). IsLeft P L w (rule_of rule) σ t (at_one y (Some (binding_in new found.items)))) ≡ Left new (Some x) (Within found)
    then_within found = λ i L. IsLeft P L w (rule_of rule) (sym σ_same i) (sym tree_same i) (at_one (sym same_y i) (Some (binding_in new found.items)))

    then_behind : (λ (L : Engine). IsLeft P L w (rule_of rule) σ t (behind (Some y))) ≡ Left new (Some x) Behind
    then_behind = λ i L. IsLeft P L w (rule_of rule) (sym σ_same i) (sym tree_same i) (behind (Some (sym same_y i)))

    pub found_turn : (b : ℕ) (found : Vec (VarId × TermId) Global) → IsNextShown (program_over p m.hooks) b (last_in old s) (rule_of rule).cond (bound_at old rule bound x) new (Ok (Some found.items)) →
        (u : Use) × (use_in rule new (Some x) (Within found) ≡ Some u) ×
        Throughout (engine_of (program_over p m.hooks)) (left_in p m.hooks rule w bound old a (Some x) s) (λ L. Gives (left_in p m.hooks rule w bound old a (Some x) s L) u (left_in p m.hooks rule w bound new a (Some x) (Within found) L))
    found_turn b found comes =
        let u : Use = record { rule = rule_of rule; solution = y; values = binding_in new found.items } in
        let h = given_through P run.reducible.lawful w (rule_of rule) σ t y (last_in old s) (binding_in new found.items) comes in (
          u,
          (λ i. Some (record { rule = rule_of rule; solution = same_y i; values = binding_in new found.items })),
          subst (λ (f : Engine → Answers Use → Type 0). Throughout (engine_of P) f (λ L. Gives (f L) u (Left new (Some x) (Within found) L))) now_is
              (subst (λ (g : Engine → Answers Use → Type 0). Throughout (engine_of P) (λ L. IsLeft P L w (rule_of rule) σ t (at_one y (last_in old s))) (λ L. Gives (IsLeft P L w (rule_of rule) σ t (at_one y (last_in old s))) u (g L))) (then_within found) h),
        )

    pub passed_turn : (b : ℕ) → IsNextShown (program_over p m.hooks) b (last_in old s) (rule_of rule).cond (bound_at old rule bound x) new (Ok None) →
        Throughout (engine_of (program_over p m.hooks)) (left_in p m.hooks rule w bound old a (Some x) s) (λ L. Passes (left_in p m.hooks rule w bound old a (Some x) s L) (left_in p m.hooks rule w bound new a (Some x) Behind L))
    passed_turn b comes =
        subst (λ (f : Engine → Answers Use → Type 0). Throughout (engine_of P) f (λ L. Passes (f L) (Left new (Some x) Behind L))) now_is
        (subst (λ (g : Engine → Answers Use → Type 0). Throughout (engine_of P) (λ L. IsLeft P L w (rule_of rule) σ t (at_one y (last_in old s))) (λ L. Passes (IsLeft P L w (rule_of rule) σ t (at_one y (last_in old s))) (g L))) then_behind
        (passed_through P run.reducible.lawful w (rule_of rule) σ t y (last_in old s) comes))

    pub due_turn : (b : ℕ) (e : EvalEnd) → IsNextShown (program_over p m.hooks) b (last_in old s) (rule_of rule).cond (bound_at old rule bound x) new (Err e) →
        IsDueBy (program_over p m.hooks) b (left_in p m.hooks rule w bound old a (Some x) s) e
    due_turn b e h = subst (λ (f : Engine → Answers Use → Type 0). IsDueBy P b f e) now_is (due_through P run.reducible.lawful w (rule_of rule) σ t y (last_in old s) b e h)

    -- what is known then
    pub found_search : AreOver p.sig.hierarchy after → (found : Vec (VarId × TermId) Global) → All (IsValueOf p.sig new after) found.items →
        IsSolutionOf m (rule_of rule).cond (bound_at old rule bound x) (binding_in new found.items) → IsSearch c p m rule bound new after a (Some x) (Within found)
    found_search over found values solution =
        let g = search_grown p old new before after extends kept m rule bound c a (Some x) s over is in
        record {
          asked = g.asked;
          values = g.values;
          settled = g.settled;
          ready = g.ready;
          at = g.at;
          stands = record { values = values; solution = subst (λ (τ : Binding). IsSolutionOf m (rule_of rule).cond τ (binding_in new found.items)) (sym (bound_at_same p old new before after extends kept m rule bound is.values x (of_store p old new before after extends kept m rule bound c a (Some x) is.ready))) solution };
        }

    pub passed_search : AreOver p.sig.hierarchy after → IsSearch c p m rule bound new after a (Some x) Behind
    passed_search over =
        let g = search_grown p old new before after extends kept m rule bound c a (Some x) s over is in
        record { asked = g.asked; values = g.values; settled = g.settled; ready = g.ready; at = g.at; stands = tt }

  -- ---- the same where a listing gave x last

  module _ (given : Option Listed.Solution) (x : Listed.Solution) (gave : given ≡ Some x) (s : Standing) (is : IsSearch c p m rule bound old before a given s) (at : s ≡ Behind → ⊥) where
    here : IsSearch c p m rule bound old before a (Some x) s
    here = subst (λ (o : Option Listed.Solution). IsSearch c p m rule bound old before a o s) gave is

    pub found_at : (b : ℕ) (found : Vec (VarId × TermId) Global) → IsNextShown (program_over p m.hooks) b (last_in old s) (rule_of rule).cond (bound_at old rule bound x) new (Ok (Some found.items)) →
        (u : Use) × (use_in rule new given (Within found) ≡ Some u) ×
        Throughout (engine_of (program_over p m.hooks)) (left_in p m.hooks rule w bound old a given s) (λ L. Gives (left_in p m.hooks rule w bound old a given s L) u (left_in p m.hooks rule w bound new a given (Within found) L))
    found_at b found comes =
        subst (λ (o : Option Listed.Solution). (u : Use) × (use_in rule new o (Within found) ≡ Some u) × Throughout (engine_of P) (Left old o s) (λ L. Gives (Left old o s L) u (Left new o (Within found) L))) (sym gave)
        (found_turn x s here at b found comes)

    pub passed_at : (b : ℕ) → IsNextShown (program_over p m.hooks) b (last_in old s) (rule_of rule).cond (bound_at old rule bound x) new (Ok None) →
        Throughout (engine_of (program_over p m.hooks)) (left_in p m.hooks rule w bound old a given s) (λ L. Passes (left_in p m.hooks rule w bound old a given s L) (left_in p m.hooks rule w bound new a given Behind L))
    passed_at b comes =
        subst (λ (o : Option Listed.Solution). Throughout (engine_of P) (Left old o s) (λ L. Passes (Left old o s L) (Left new o Behind L))) (sym gave) (passed_turn x s here at b comes)

    pub due_at : (b : ℕ) (e : EvalEnd) → IsNextShown (program_over p m.hooks) b (last_in old s) (rule_of rule).cond (bound_at old rule bound x) new (Err e) →
        IsDueBy (program_over p m.hooks) b (left_in p m.hooks rule w bound old a given s) e
    due_at b e h = subst (λ (o : Option Listed.Solution). IsDueBy P b (Left old o s) e) (sym gave) (due_turn x s here at b e h)

    pub found_known : AreOver p.sig.hierarchy after → (found : Vec (VarId × TermId) Global) → All (IsValueOf p.sig new after) found.items →
        IsSolutionOf m (rule_of rule).cond (bound_at old rule bound x) (binding_in new found.items) → IsSearch c p m rule bound new after a given (Within found)
    found_known over found values solution = subst (λ (o : Option Listed.Solution). IsSearch c p m rule bound new after a o (Within found)) (sym gave) (found_search x s here at over found values solution)

    pub passed_known : AreOver p.sig.hierarchy after → IsSearch c p m rule bound new after a given Behind
    passed_known over = subst (λ (o : Option Listed.Solution). IsSearch c p m rule bound new after a o Behind) (sym gave) (passed_search x s here at over)

    pub valued_at : IsValued p.sig old before (tree_of rule.left) x
    valued_at = here.at.valued

    pub shown_at : IsShownBehind m p.sig rule bound old before x s
    shown_at = here.stands

  -- ---- a listing goes on

  module _ (wc : c ≡ true) (given : Option Listed.Solution) (is : IsSearch c p m rule bound old before a given Behind) (apart : AreApart (variables_in bound)) (derived : IsDerivedTable m old before) (z : SignatureOf) (same : z ≡ p.sig) where
    abbrev u : Tree
    u = tree_at old a.subject.0

    abbrev τ : Binding
    τ = binding_in old bound

    normal : norm (theory_at p.sig) (tree_at old a.subject.0) ≡ tree_at old a.subject.0
    normal = is.ready.askable.subject.normal

    abbrev d : IsDerivedTable (meanings_by p m.hooks m.limit m.remembers) old before
    d = derived_as p m goes old before derived

    norms : HaveNorms (theory_at p.sig) (binding_in old bound)
    norms = bound_norms p.sig old before bound is.values

    apart_so : AreApart (bound_variables (binding_in old bound))
    apart_so = bound_apart old bound apart

    subject_same : tree_at new a.subject.0 ≡ tree_at old a.subject.0
    subject_same = tree_kept (theory_at p.sig) old new a.subject.0 extends is.ready.askable.subject

    τ_same : binding_in new bound ≡ binding_in old bound
    τ_same = bound_same p old new before after extends kept m rule bound is.values

    abbrev pub NextOf : Option Listed.Solution → Type 0
    NextOf o = (known : Known) → IsTableOf z known old before →
        IsNext (IsSolution c z (BySort z known) (question_in old a)) (matcher_cmp (theory_at z) a.pattern) (option_map (matcher_in old) given) (option_map (matcher_in new) o)

    next_so : (o : Option Listed.Solution) → NextOf o →
        IsNext (IsSolution true p.sig (BySort p.sig d.known) (record { pattern = tree_of rule.left; bound = τ; subject = u })) (matcher_cmp (theory_at p.sig) (tree_of rule.left)) (option_map as_matcher (option_map (solution_in old) given)) (option_map as_matcher (option_map (solution_in new) o))
    next_so o h =
        subst (λ (last : Option Matcher). IsNext (IsSolution true p.sig (BySort p.sig d.known) (record { pattern = tree_of rule.left; bound = τ; subject = u })) (matcher_cmp (theory_at p.sig) (tree_of rule.left)) last (option_map as_matcher (option_map (solution_in new) o))) (matchers_of old given)
        (next_bound p z same c wc a (tree_of rule.left) bound a.subject is.asked old new given o d.known (h d.known (subst (λ (y : SignatureOf). IsTableOf y d.known old before) (sym same) d.declared)))

    from_behind : (λ (L : Engine). IsLeft P L w (rule_of rule) τ u (behind (option_map (solution_in old) given))) ≡ Left old given Behind
    from_behind = λ i L. IsLeft P L w (rule_of rule) τ u (sym (stand_behind old given) i)

    pub over_turn : NextOf None → Throughout (engine_of (program_over p m.hooks)) (left_in p m.hooks rule w bound old a given Behind) (λ L. IsOver (left_in p m.hooks rule w bound old a given Behind L))
    over_turn h =
        subst (λ (f : Engine → Answers Use → Type 0). Throughout (engine_of P) f (λ L. IsOver (f L))) from_behind
        (none_next p run m.hooks w (rule_of rule) τ norms apart_so u normal is.ready.askable.bare m.limit m.remembers old before d is.settled (option_map (solution_in old) given) (next_so None h))

    module _ (x : Listed.Solution) (h : NextOf (Some x)) where
      -- the sorts of values are of their terms' kinds
      table_now : IsSortTable p.sig old before
      table_now = sort_table p run.reducible m.hooks m.limit m.remembers old before d

      listed : IsIn (solution_in new x) (solutions_within (terms_over p.sig) (tree_of rule.left) u) × HaveSorts (BySort p.sig table_now.known) (variables (tree_of rule.left)) (solution_in new x).values
      listed =
          part_listed p.sig run.reducible.lawful table_now.known (tree_of rule.left) u normal is.ready.askable.bare (solution_in new x)
          (unbound_part p.sig (BySort p.sig table_now.known) (tree_of rule.left) τ u (as_matcher (solution_in new x))
          (next_bound p z same c wc a (tree_of rule.left) bound a.subject is.asked old new given (Some x) table_now.known (h table_now.known (subst (λ (y : SignatureOf). IsTableOf y table_now.known old before) (sym same) table_now.declared))).is_one)

      to_before : (λ (L : Engine). IsLeft P L w (rule_of rule) τ u (at_one (solution_in new x) None)) ≡ Left new (Some x) Before
      to_before = λ i L. IsLeft P L w (rule_of rule) (sym τ_same i) (sym subject_same i) (at_one (solution_in new x) None)

      to_behind : (λ (L : Engine). IsLeft P L w (rule_of rule) τ u (behind (Some (solution_in new x)))) ≡ Left new (Some x) Behind
      to_behind = λ i L. IsLeft P L w (rule_of rule) (sym τ_same i) (sym subject_same i) (behind (Some (solution_in new x)))

      pub listed_turn : takes w (solution_in new x) ≡ true →
          Throughout (engine_of (program_over p m.hooks)) (left_in p m.hooks rule w bound old a given Behind) (λ L. Passes (left_in p m.hooks rule w bound old a given Behind L) (left_in p m.hooks rule w bound new a (Some x) Before L))
      listed_turn taken =
          subst (λ (f : Engine → Answers Use → Type 0). Throughout (engine_of P) f (λ L. Passes (f L) (Left new (Some x) Before L))) from_behind
          (subst (λ (g : Engine → Answers Use → Type 0). Throughout (engine_of P) (λ L. IsLeft P L w (rule_of rule) τ u (behind (option_map (solution_in old) given)))
          (λ L. Passes (IsLeft P L w (rule_of rule) τ u (behind (option_map (solution_in old) given))) (g L))) to_before
          (one_next p run m.hooks w (rule_of rule) τ norms apart_so u normal is.ready.askable.bare m.limit m.remembers old before d is.settled (option_map (solution_in old) given) (solution_in new x) (next_so (Some x) h) taken))

      pub skipped_turn : takes w (solution_in new x) ≡ false →
          Throughout (engine_of (program_over p m.hooks)) (left_in p m.hooks rule w bound old a given Behind) (λ L. Passes (left_in p m.hooks rule w bound old a given Behind L) (left_in p m.hooks rule w bound new a (Some x) Behind L))
      skipped_turn not_taken =
          subst (λ (f : Engine → Answers Use → Type 0). Throughout (engine_of P) f (λ L. Passes (f L) (Left new (Some x) Behind L))) from_behind
          (subst (λ (g : Engine → Answers Use → Type 0). Throughout (engine_of P) (λ L. IsLeft P L w (rule_of rule) τ u (behind (option_map (solution_in old) given)))
          (λ L. Passes (IsLeft P L w (rule_of rule) τ u (behind (option_map (solution_in old) given))) (g L))) to_behind
          (one_skipped p run m.hooks w (rule_of rule) τ norms apart_so u normal is.ready.askable.bare m.limit m.remembers old before d is.settled (option_map (solution_in old) given) (solution_in new x) (next_so (Some x) h) not_taken))

      -- the search stands before it, or behind it
      pub listed_search : AreOver p.sig.hierarchy after → IsGiven c z new after a x → (k : Standing) → IsShownBehind m p.sig rule bound new after x k → IsSearch c p m rule bound new after a (Some x) k
      listed_search over solves k shown =
          let g = search_grown p old new before after extends kept m rule bound c a given Behind over is in
          let here : IsGiven c p.sig new after a x = subst (λ (y : SignatureOf). IsGiven c y new after a x) same solves in
          let own : IsGiven true p.sig new after (asks (tree_of rule.left) bound a.subject) x =
          subst (λ (b : Asked). IsGiven true p.sig new after b x) is.asked (subst (λ e. IsGiven e p.sig new after a x) wc here) in
          let alone = unbound_given p.sig new after (tree_of rule.left) bound a.subject x own in
          record {
            asked = g.asked;
            values = g.values;
            settled = g.settled;
            ready = record { askable = g.ready.askable; settled = g.ready.settled; over = g.ready.over; given = given_is_last c p.sig new after a x here };
            at = subst (λ (v : Tree). IsAtSolution p.sig rule v new after x) (sym subject_same) (record {
              valued = listed_valued p run (rule_of rule) u normal is.ready.askable.bare old new before after is.settled x a.subject subject_same listed.0 table_now listed.1 alone;
              contexts = listed_contexts p run (rule_of rule) u normal is.ready.askable.bare old new before after is.settled x a.subject subject_same listed.0 table_now listed.1 alone;
              kind = listed_of_kind p run (rule_of rule) u normal is.ready.askable.bare old new before after is.settled x a.subject subject_same listed.0 table_now listed.1 alone;
            });
            stands = shown;
          }

-- the same with meanings that are the same
pub turn_as : (p : Typed.Program) (rule : Written.Rule) (w v : Bool) (bound more_bound : List (VarId × TermId)) (m n : Meanings) → n ≡ m → (b : ℕ) (old new : List Node) (a e : Asked) (given more : Option Listed.Solution) (s k : Standing) (r : Result Turn EvalEnd) →
    IsTurn (program_over p n.hooks) b (left_in p n.hooks rule w bound old a given s) (left_in p n.hooks rule v more_bound new e more k) (use_in rule new more k) r →
    IsTurn (program_over p m.hooks) b (left_in p m.hooks rule w bound old a given s) (left_in p m.hooks rule v more_bound new e more k) (use_in rule new more k) r
turn_as p rule w v bound more_bound m n same b old new a e given more s k r h =
    subst (λ (z : Meanings). IsTurn (program_over p z.hooks) b (left_in p z.hooks rule w bound old a given s) (left_in p z.hooks rule v more_bound new e more k) (use_in rule new more k) r) same h
