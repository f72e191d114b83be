-- The settling of a term in the loop: with what it begins, the condition that it asks, and where it ends.
use Rattle.std.proofs.Common.{◌≡◌, ◌⊎◌, inl, inr, ◌+◌, ◌<◌, ℕ, zero, suc, List, [], ◌∷◌, All, Bool, true, false, Some, None, Result, Ok, Err, IfOk, OnOk, length, map, slice_get, refl, sym, ap, ap₂, ◌∙◌, subst, arith}
use Rattle.std.specs.List.{zip}
use Rattle.std.proofs.lemmas.List.{length-map}
use Rattle.std.proofs.lemmas.List.Elements.{All-head, All-tail, All-nil, All-cons}
use Rattle.mau_terms.specs.Tree.{Tree, variable, numeral, apply}
use Rattle.mau_terms.specs.Norm.{norm}
use Rattle.mau_terms.specs.Bare.{TermSignature, IsBare, IsBareIn}
use Rattle.mau_terms.specs.Reading.{reading}
use Rattle.mau_terms.specs.Subst.{Variable, variables, value_at, with_values, instance, Occurs}
use Rattle.mau_terms.specs.Solution.{HaveSorts, Fits}
use Rattle.mau_terms.specs.Laws.{AreNorms}
use Rattle.mau_terms.specs.Finite.{IsIn}
use Rattle.mau_terms.specs.View.{tree_of, variable_of}
use Rattle.mau_terms.specs.declared.ids.VarId.{VarId}
use Rattle.mau_terms.specs.declared.ids.TermId.{TermId}
use Rattle.mau_terms.specs.declared.memory.NoMemory.{NoMemory as Failed}
use Rattle.mau_terms.proofs.Chains.{first_bare}
use Rattle.mau_terms.proofs.Instances.{values_bare}
use Rattle.mau_terms.proofs.Variables.{variables_occur, values_of_variables}
use Rattle.mau_signature.specs.Signature.{SignatureOf, theory_at, terms_over}
use Rattle.mau_store.specs.Node.{Node, IsOf, AreNodes}
use Rattle.mau_store.specs.Trees.{tree_at, trees_at}
use Rattle.mau_store.specs.View.{numbers}
use Rattle.mau_canon.specs.Standing.{StandsWithin, StandWithin}
use Rattle.mau_sorts.specs.Table.{Table, IsSettled as IsEntered}
use Rattle.mau_listing.specs.Asked.{HasEntry, IsClosedTable}
use Rattle.mau_listing.proofs.Closed.{closed_below}
use Rattle.mau_listing.proofs.Growth.{trees_long}
use Rattle.mau_program.specs.declared.program.Program as Typed
use Rattle.mau_program.specs.declared.statements.Membership.{Membership as Written}
use Rattle.mau_program.specs.Binding.{are_bound}
use Rattle.mau_evaluation.specs.Run.{ended, too_deep}
use Rattle.mau_evaluation.specs.Program.{Program}
use Rattle.mau_evaluation.specs.Listing.{Solution, keep, solutions}
use Rattle.mau_evaluation.specs.Evaluation.{Binding, levels, solve}
use Rattle.mau_evaluation.specs.HasSort.{IsHead}
use Rattle.mau_evaluation.proofs.BareTerms.{norm-reading-is}
use Rattle.mau_evaluation.proofs.Heads.{each_in}
use Rattle.mau_evaluation.proofs.Listed.{from_map, from_keep}
use Rattle.mau_evaluation.proofs.Solved.{solutions_are_listed}
use Rattle.mau_api.specs.Programs.{program_over, fragment_of, membership_of}
use Rattle.mau_api.specs.Answers.{AreSettled, binding_in}
use Rattle.mau_api.specs.Terms.{IsTerm, IsNormalBare}
use Rattle.mau_api.specs.declared.results.EvalEnd.{EvalEnd}
use Rattle.mau_deriving.specs.Listing.{IsSorted}
use Rattle.mau_deriving.specs.Answered.{WasAnswered}
use Rattle.mau_deriving.specs.Asking.{Stands, Derives}
use Rattle.mau_deriving.specs.Derivations.{head_binding, AreQuestions, AreOpen}
use Rattle.mau_deriving.specs.declared.derivation.Deriving.{Deriving}
use Rattle.mau_deriving.proofs.Lawful.{heads, lawful_one, mapped_at, at_in}
use Rattle.mau_settling.specs.Beginning.{AreIdentitiesSettled}
use Rattle.mau_settling.specs.Settlings.{IsSettling, IsDerivingIn, Asks, IsAskingOf, CanEnd, left_of}
use Rattle.mau_settling.specs.declared.settling.Settling.{Settling}
use Rattle.mau_settling.proofs.Ended.{conditions_end, settled_is_known}
use Rattle.mau_settling.proofs.States.{is_current, current_is, asked_sorted}
use Rattle.mau_reduce.specs.declared.binding.Binding.{Binding as Kept}
use Rattle.mau_reduce.specs.Bindings.{paired, bound_in, HaveKinds}
use Rattle.mau_reduce.proofs.AttemptsLeft.{binding_paired}
use Rattle.mau_reduce.proofs.Comes.{known_comes}
use Rattle.mau_reduce.proofs.PlainSorts.{plain_sorts, settle_known}
use Rattle.mau_machine.specs.Words.{EndsWhere, IsSettled, IsAnswered, settle_on, solve_on}
use Rattle.mau_reducer.specs.Basis.{Basis, IsBasis}
use Rattle.mau_reducer.specs.Handles.{first_at, AreBoundFrom, rules_of, IsKnownValue, IsKnownBinding, IsKnownSettling, IsKnownAsking}
use Rattle.mau_reducer.specs.States.{IsOwnTable, ComesOf}
use Rattle.mau_reducer.proofs.Conditions.{written_of_member, first_of_member}
use Rattle.mau_reducer.proofs.Choosing.{pairs_of, bound_pairs}
use Rattle.mau_reducer.proofs.Leading.{leads_of}
use Rattle.mau_reducer.proofs.Pairs.{variables_paired}
use Rattle.mau_reducer.proofs.WhatIsMeant.{settled_is}

-- ---- where it begins

module _ (b : Basis) (nodes : List Node) (table : Table) (t : TermId) where
  pub begun : (r : Result Settling Failed) → IfOk r (IsSettling b.program nodes table) → IfOk r (λ d. d.current ≡ None) → IfOk r (λ d. d.term ≡ t) → IfOk r (IsKnownSettling b nodes table t.0)
  begun (Ok d) is none own = record { own = ap (λ (x : TermId). x.0) own; settling = is; derives = current_is (Derives b.program b.hooks b.limit nodes) d.current none }
  begun (Err e) is none own = tt

-- ---- what is settled at once

pub settled_at_once : (s : SignatureOf) (nodes : List Node) → AreNodes nodes → (table : Table) → IsClosedTable nodes table → AreIdentitiesSettled s nodes table → (t : ℕ) → IsOf nodes t → IsEntered table t →
    AreSettled s nodes table (tree_at nodes t)
settled_at_once s nodes are table closed identities t there settled = record {
  identities = identities;
  below = λ u b. closed_below nodes are table closed t settled u b;
  itself = record { number = t; there = there; tree = refl; settled = settled };
}

-- ---- the values of the variables of a head

-- in a bare instance of a head they are of their variables' kinds
module _ (s : TermSignature) (g : Variable → Tree) where
  kind_value : (p : Tree) → IsHead s.theory (norm s.theory p) → (k j : ℕ) → IsBareIn s p k → IsBareIn s (instance g p) j → (x : Variable) → Occurs x p → IsBareIn s (g x) (s.kind_of x.1)
  kind_value (variable i r) h k j b c x o = absurd h
  kind_value (numeral n) h k j b c x o = absurd o
  kind_value (apply f ps) h k j b c x o = values_bare s g ps (s.arguments f) b.2 c.2 x o

  each_kind : (xs : List Variable) → ((x : Variable) → IsIn x xs → IsBareIn s (g x) (s.kind_of x.1)) → HaveSorts (λ r w. IsBareIn s w (s.kind_of r)) xs (map g xs)
  each_kind [] h = tt
  each_kind (x ∷ xs) h = (h x (inl refl), each_kind xs (λ y i. h y (inr i)))

-- as they are read
read_kinds : (s : SignatureOf) (xs : List Variable) (vs : List Tree) → HaveSorts (λ r w. IsBareIn (terms_over s) w ((terms_over s).kind_of r)) xs (map (reading (theory_at s)) vs) → HaveKinds s xs vs
read_kinds s [] vs h = tt
read_kinds s (x ∷ xs) [] h = absurd h
read_kinds s (x ∷ xs) (v ∷ vs) h = (h.0, read_kinds s xs vs h.1)

module _ (b : Basis) (basis : IsBasis b) (m : Written) (at : ℕ) (there : slice_get b.program.memberships at ≡ Some m) (t : Tree) (normal : IsNormalBare b.program.sig t)
    (x : Solution) (i : IsIn x (solutions (terms_over b.program.sig) (tree_of m.left) t)) where
  abbrev s : SignatureOf
  s = b.program.sig

  listed : (x.left ≡ []) × (x.right ≡ []) × AreNorms (theory_at s) x.values × Fits (terms_over s) (tree_of m.left) (reading (theory_at s) t) (map (reading (theory_at s)) x.values)
  listed =
      (solutions_are_listed (terms_over s) basis.reducible.lawful (tree_of m.left) (reading (theory_at s) t) normal.1).0 x
      (subst (λ u. IsIn x (solutions (terms_over s) (tree_of m.left) u)) (sym (norm-reading-is (theory_at s) basis.reducible.lawful.theories t normal.0)) i)

  pub values_long : length x.values ≡ length (variables (tree_of m.left))
  values_long = sym (length-map x.values (reading (theory_at s))) ∙ listed.3.one_each

  pub values_of_kinds : HaveKinds s (variables (tree_of m.left)) x.values
  values_of_kinds =
      let p = tree_of m.left in
      let us = map (reading (theory_at s)) x.values in
      let g = value_at (variables p) us in
      let made : IsBare (terms_over s) (with_values p us) = first_bare listed.3.equal in
      let own = (lawful_one b.program basis.lawful basis.reducible.lawful at m there).parts.head in
      let head = (heads b.program basis.lawful basis.reducible.lawful b.hooks).head (membership_of m) (at_in (program_over b.program b.hooks).memberships at (membership_of m) (mapped_at membership_of b.program.memberships at m there)) in
      read_kinds s (variables p) x.values
      (subst (HaveSorts (λ r w. IsBareIn (terms_over s) w ((terms_over s).kind_of r)) (variables p)) (values_of_variables p us listed.3.one_each)
      (each_kind (terms_over s) g (variables p)
      (λ y j. kind_value (terms_over s) g p head _ made.0 own made.1 y (each_in (λ w. Occurs w p) (variables p) y (variables_occur p) j))))

-- ---- what is bound

abbrev first_value : Binding → Tree
first_value [] = numeral 0
first_value (y ∷ ys) = y.1

abbrev values_behind : Binding → Binding
values_behind [] = []
values_behind (y ∷ ys) = ys

same_values : (xs : List Variable) (us vs : List Tree) → length us ≡ length xs → length vs ≡ length xs → paired xs us ≡ paired xs vs → us ≡ vs
same_values [] [] [] n m e = refl
same_values [] (u ∷ us) vs n m e = absurd (omega (arith, n))
same_values [] [] (v ∷ vs) n m e = absurd (omega (arith, m))
same_values (x ∷ xs) [] vs n m e = absurd (omega (arith, n))
same_values (x ∷ xs) (u ∷ us) [] n m e = absurd (omega (arith, m))
same_values (x ∷ xs) (u ∷ us) (v ∷ vs) n m e =
    ap₂ (λ (z : Tree) zs. z ∷ zs) (ap first_value e) (same_values xs us vs (omega (arith, n)) (omega (arith, m)) (ap values_behind e))

module _ (s : SignatureOf) (nodes : List Node) (table : Table) where
  within_paired : (xs : List VarId) (vs : List TermId) → length xs ≡ length vs → All (λ (y : VarId × TermId). StandsWithin (theory_at s) nodes y.1.0) (zip xs vs) → StandWithin (theory_at s) nodes (numbers vs)
  within_paired [] [] n h = All-nil (StandsWithin (theory_at s) nodes)
  within_paired [] (v ∷ vs) n h = absurd (omega (arith, n))
  within_paired (x ∷ xs) [] n h = absurd (omega (arith, n))
  within_paired (x ∷ xs) (v ∷ vs) n h =
      All-cons (StandsWithin (theory_at s) nodes) v.0 (numbers vs) (All-head (λ (y : VarId × TermId). StandsWithin (theory_at s) nodes y.1.0) (x, v) (zip xs vs) h)
      (within_paired xs vs (omega (arith, n)) (All-tail (λ (y : VarId × TermId). StandsWithin (theory_at s) nodes y.1.0) (x, v) (zip xs vs) h))

  sorts_paired : (xs : List VarId) (vs : List TermId) → length xs ≡ length vs → All (λ (y : VarId × TermId). HasEntry s nodes table (variable_of y.0).1 (tree_at nodes y.1.0)) (zip xs vs) →
      HaveSorts (HasEntry s nodes table) (map variable_of xs) (trees_at nodes (numbers vs))
  sorts_paired [] vs n h = tt
  sorts_paired (x ∷ xs) [] n h = absurd (omega (arith, n))
  sorts_paired (x ∷ xs) (v ∷ vs) n h = (
    All-head (λ (y : VarId × TermId). HasEntry s nodes table (variable_of y.0).1 (tree_at nodes y.1.0)) (x, v) (zip xs vs) h,
    sorts_paired xs vs (omega (arith, n)) (All-tail (λ (y : VarId × TermId). HasEntry s nodes table (variable_of y.0).1 (tree_at nodes y.1.0)) (x, v) (zip xs vs) h),
  )

-- ---- the condition that is asked

there_at : {A : Type 0} (xs : List A) (i : ℕ) → i < length xs → (x : A) × (slice_get xs i ≡ Some x)
there_at [] i h = absurd (omega (arith, h))
there_at (x ∷ xs) zero h = (x, refl)
there_at (x ∷ xs) (suc i) h = there_at xs i (omega (arith, h))

module _ (b : Basis) (basis : IsBasis b) (nodes : List Node) (table : Table) (t : ℕ) (d : Settling) (known : IsKnownSettling b nodes table t d) (at : ℕ) (q : List (VarId × TermId)) (asks : Asks d at q)
    (low : at < length b.program.memberships) (σ : Kept) (pairs : pairs_of σ ≡ q) (one_each : length σ.variables.items ≡ length σ.values.items)
    (e : ℕ) (number : e ≡ suc (suc (length b.program.equations)) + at) where
  abbrev P : Program
  P = program_over b.program b.hooks

  abbrev m : Written
  m = (there_at b.program.memberships at low).0

  there : slice_get b.program.memberships at ≡ Some m
  there = (there_at b.program.memberships at low).1

  values_same : bound_in nodes σ ≡ binding_in nodes q
  values_same = bound_pairs nodes σ q pairs

  pub asking : IsKnownAsking b nodes table t e (bound_in nodes σ) d
  asking = record { known = known; place = at; question = q; asks = asks; membership = m; there = there; number = number; values = values_same }

  -- the derivation that asks it
  abbrev one : Deriving
  one = asks.derivation

  stands : Stands b.program nodes table one
  stands = (is_current (IsDerivingIn b.program nodes table (left_of d)) d.current one asks.is known.settling.current).stands

  derives : Derives b.program b.hooks b.limit nodes one
  derives = is_current (Derives b.program b.hooks b.limit nodes) d.current one asks.is known.derives

  abbrev term : Tree
  term = apply derives.operator derives.arguments

  term_normal : IsNormalBare b.program.sig term
  term_normal = subst (IsNormalBare b.program.sig) derives.is (stands.can_be_asked.term.within.normal, stands.can_be_asked.term.bare)

  mapped : slice_get P.memberships at ≡ Some (membership_of m)
  mapped = mapped_at membership_of b.program.memberships at m there

  abbrev questions : List Binding
  questions = map (binding_in nodes) one.questions.items

  opened : AreOpen P b.limit derives.operator derives.arguments (membership_of m) questions
  opened = derives.derives.opened (membership_of m) (subst (λ n. slice_get P.memberships n ≡ Some (membership_of m)) (sym asks.at_place) mapped)

  asked : IsIn (binding_in nodes q) questions
  asked = at_in questions one.asked (binding_in nodes q) (mapped_at (binding_in nodes) one.questions.items one.asked q asks.question)

  executable : m.exec ≡ true
  executable = by m.exec refl
    where
      by : (w : Bool) → m.exec ≡ w → w ≡ true
      by true k = refl
      by false k = absurd (subst (IsIn (binding_in nodes q)) (opened.others k) asked)

  -- it is that of a solution of the head
  found : (x : Solution) × IsIn x (solutions (terms_over b.program.sig) (tree_of m.left) term) × (binding_in nodes q ≡ head_binding (membership_of m) x)
  found =
      let are : AreQuestions P b.limit derives.operator derives.arguments (membership_of m) questions = opened.executable executable in
      let k = from_map (head_binding (membership_of m)) (keep are.test (solutions (terms_over b.program.sig) (tree_of m.left) term)) (binding_in nodes q) (subst (IsIn (binding_in nodes q)) are.are asked) in
      (k.0, (from_keep are.test k.0 (solutions (terms_over b.program.sig) (tree_of m.left) term) k.1).0, k.2)

  sorted : IsSorted b.program.sig nodes table (tree_of m.left) q
  sorted = asked_sorted b.program nodes table d known.settling at q asks m there

  abbrev named : List Variable
  named = map variable_of σ.variables.items

  named_so : named ≡ variables (tree_of m.left)
  named_so =
      sym (variables_paired σ.variables.items σ.values.items one_each)
      ∙ (ap (map (λ (y : VarId × TermId). variable_of y.0)) pairs ∙ sorted.named)

  abbrev trees : List Tree
  trees = trees_at nodes (numbers σ.values.items)

  long : length trees ≡ length (variables (tree_of m.left))
  long = trees_long nodes σ.values.items ∙ (sym one_each ∙ (sym (length-map σ.variables.items variable_of) ∙ ap length named_so))

  trees_so : trees ≡ found.0.values
  trees_so =
      same_values (variables (tree_of m.left)) trees found.0.values long (values_long b basis m at there term term_normal found.0 found.1)
      (ap (λ xs. paired xs trees) (sym named_so) ∙ (values_same ∙ (found.2 ∙ binding_paired (tree_of m.left) found.0.values)))

  pub binding : IsKnownBinding b nodes table e 0 σ
  binding = record {
    values = record {
      one_each = sym one_each;
      within = within_paired b.program.sig nodes table σ.variables.items σ.values.items one_each (subst (All (λ (y : VarId × TermId). StandsWithin (theory_at b.program.sig) nodes y.1.0)) (sym pairs) sorted.within);
      kinds =
          subst (λ xs. HaveKinds b.program.sig xs trees) (sym named_so)
          (subst (HaveKinds b.program.sig (variables (tree_of m.left))) (sym trees_so) (values_of_kinds b basis m at there term term_normal found.0 found.1));
    };
    variables = named_so ∙ sym first_so;
    sorts = sorts_paired b.program.sig nodes table σ.variables.items σ.values.items one_each (subst (All (λ (y : VarId × TermId). HasEntry b.program.sig nodes table (variable_of y.0).1 (tree_at nodes y.1.0))) (sym pairs) sorted.sorts);
    bound = bound_so;
  }
    where
      first_so : first_at b e ≡ variables (tree_of m.left)
      first_so = first_of_member b.program at m there e number b refl

      bound_so : AreBoundFrom b e 0
      bound_so =
          ap₂ are_bound first_so (written_of_member b.program at m there e number b.asked)
          ∙ (lawful_one b.program basis.lawful basis.reducible.lawful at m there).bound executable

  -- the condition as the loop solves it
  solve_same : (k : ℕ) → solve_on (rules_of b) k e 0 (bound_in nodes σ) b.limit ≡ solve P (levels P b.limit k) (membership_of m).cond (binding_in nodes q) b.limit
  solve_same k =
      ap (λ fs. solve P (levels P b.limit k) (map fragment_of fs) (bound_in nodes σ) b.limit) (written_of_member b.program at m there e number b.asked)
      ∙ ap (λ τ. solve P (levels P b.limit k) (membership_of m).cond τ b.limit) values_same

  -- where it ends, settling ends so
  pub ends : IsOwnTable b nodes table → AreNodes nodes → EndsWhere P (λ k. settle_on (rules_of b) k (tree_at nodes t)) (λ k. solve_on (rules_of b) k e 0 (bound_in nodes σ) b.limit)
  ends own are =
      let can : CanEnd b.program b.hooks b.limit nodes table d = record {
        heads = heads b.program basis.lawful basis.reducible.lawful b.hooks;
        accepted = basis.reducible.accepted;
        are = are;
        derived = own;
        settling = known.settling;
        derives = known.derives;
      } in
      let w = conditions_end b.program b.hooks b.limit nodes table d can at q asks (membership_of m) mapped in
      record {
        enough = w.enough;
        just = λ none. absurd (none (membership_of m) (at_in P.memberships at (membership_of m) mapped) executable);
        ends = λ k c x h. subst (λ (i : ℕ). (settle_on (rules_of b) k (tree_at nodes i) c ≡ ended x) ⊎ ((k < w.enough) × (settle_on (rules_of b) k (tree_at nodes i) c ≡ ended too_deep))) known.own (w.ends k c x (sym (solve_same k) ∙ h));
      }

-- it is that of one of the program's memberships
pub low_place : (p : Typed.Program) (d : Settling) (at : ℕ) (q : List (VarId × TermId)) → Asks d at q → IsAskingOf p d → at < length p.memberships
low_place p d at q a k =
    let both : Some a.derivation ≡ Some k.2.derivation = sym a.is ∙ k.2.is in
    let same : a.derivation ≡ k.2.derivation = cc in
    let place : k.0 ≡ at = sym k.2.at_place ∙ (sym (ap (λ (x : Deriving). x.at) same) ∙ a.at_place) in
    omega (arith, place, k.3)

-- ---- the answer

-- a condition that the loop answered
pub answered : (b : Basis) (nodes : List Node) (table : Table) (t e : ℕ) (σ : Binding) (d : Settling) (k : IsKnownAsking b nodes table t e σ d) (holds : Bool) → IsAnswered (rules_of b) e σ holds →
    WasAnswered (program_over b.program b.hooks) b.limit (membership_of k.membership).cond (binding_in nodes k.question) holds
answered b nodes table t e σ d k holds h =
    let P = program_over b.program b.hooks in
    record {
      levels = h.levels;
      solution = h.solution;
      count = h.count;
      left = h.left;
      was =
          sym (ap (λ fs. solve P (levels P b.limit h.levels) (map fragment_of fs) σ b.limit) (written_of_member b.program k.place k.membership k.there e k.number b.asked)
          ∙ ap (λ τ. solve P (levels P b.limit h.levels) (membership_of k.membership).cond τ b.limit) k.values)
          ∙ h.was;
      is = h.is;
    }

-- ---- when all is settled

module _ (b : Basis) (basis : IsBasis b) (nodes : List Node) (table : Table) (own : IsOwnTable b nodes table) (t : ℕ) (known : IsKnownValue b.program.sig nodes table t) where
  -- its sorts and those of the identities are known
  pub sorts_settled : IsSettled (rules_of b) (tree_at nodes t)
  sorts_settled =
      let P = program_over b.program b.hooks in
      let u = tree_at nodes t in
      let w = settled_is_known b.program b.hooks b.limit false (heads b.program basis.lawful basis.reducible.lawful b.hooks) basis.reducible.accepted nodes table own u
      (known.known.term.within.normal, known.known.term.bare) known.settled in
      (w.0, leads_of (known_comes P (λ k. settle_on (rules_of b) k u) w.0 w.1 (λ none. (plain_sorts P none u, λ k c. settle_known P none b.limit k u c))))

-- a term of a state before
pub value_settled : (b d : Basis) (old new : List Node) (before after : Table) (begun : Bool) → ComesOf b d old new before after begun → (t : ℕ) → IsTerm b.program.sig old t → {A : Type 0} (r : Result A EvalEnd) →
    OnOk r (IsKnownValue d.program.sig new after t) → OnOk r (AreSettled b.program.sig new after (tree_at old t))
value_settled b d old new before after begun h t is (Ok x) v = settled_is b d old new before after begun h t is after v.settled
value_settled b d old new before after begun h t is (Err e) v = tt
