-- Conditions from one of their fragments on: what is passed, and that sides have the values of their variables.
use Rattle.std.proofs.Common.{◌≡◌, ◌⊎◌, inl, inr, ℕ, zero, suc, ◌∷◌, List, [], map, drop, take, length, Bool, true, false, ◌||◌, refl, sym, ap, ap₂, ◌∙◌, subst}
use Rattle.std.specs.Prelude.{fold}
use Rattle.std.proofs.lemmas.Bool.{and_parts}
use Rattle.std.proofs.lemmas.List.{drop-map, length-map}
use Rattle.mau_terms.specs.Tree.{Tree, variable, numeral, apply, Trees, no_trees, tree}
use Rattle.mau_terms.specs.Subst.{Variable, same_variable, has_variable, instance, instances}
use Rattle.mau_terms.specs.View.{variable_of}
use Rattle.mau_store.specs.Node.{Node}
use Rattle.mau_store.specs.Trees.{trees_at}
use Rattle.mau_store.specs.View.{numbers}
use Rattle.mau_sorts.specs.Table.{Table}
use Rattle.mau_listing.proofs.Growth.{trees_long}
use Rattle.mau_program.specs.declared.statements.Fragment.{Fragment}
use Rattle.mau_program.specs.declared.statements.Fragment.TheVariants.{Equal, Match, Sort, Reach}
use Rattle.mau_program.specs.Binding.{has_only, have_only, bound_behind, is_bound, are_bound}
use Rattle.mau_evaluation.specs.Program as Evaluated
use Rattle.mau_evaluation.specs.Evaluation.{Binding, look_up, binds}
use Rattle.mau_api.specs.Programs.{fragment_of}
use Rattle.mau_reduce.specs.declared.binding.Binding.{Binding as Kept}
use Rattle.mau_reduce.specs.Bindings.{paired, bound_in}
use Rattle.mau_machine.specs.declared.goal.Goal.TheVariants as Goals
use Rattle.mau_machine.specs.Words.{goal_of, HasSideBy, side_by, rest_of, PassesOn, HasSide, side_of, IsExtension}
use Rattle.mau_reducer.specs.Basis.{Basis}
use Rattle.mau_reducer.specs.Handles.{written_at, first_at, bound_before, AreBoundFrom, rules_of, IsKnownBinding}

-- ---- lists from a place on

pub behind : {A : Type 0} (xs : List A) (i : ℕ) (x : A) (ys : List A) → drop i xs ≡ x ∷ ys → drop (suc i) xs ≡ ys
behind [] zero x ys e = cc
behind [] (suc i) x ys e = cc
behind (z ∷ xs) zero x ys e = cc
behind (z ∷ xs) (suc i) x ys e = behind xs i x ys e

pub all_taken : {A : Type 0} (xs : List A) (i : ℕ) → drop i xs ≡ [] → take i xs ≡ xs
all_taken [] zero e = refl
all_taken [] (suc i) e = refl
all_taken (x ∷ xs) zero e = cc
all_taken (x ∷ xs) (suc i) e = ap (λ ys. x ∷ ys) (all_taken xs i e)

-- ---- what is bound

next_bound : (xs : List Variable) (fs : List Fragment) (i : ℕ) (f : Fragment) (rest : List Fragment) → drop i fs ≡ f ∷ rest →
    fold bound_behind xs (take (suc i) fs) ≡ bound_behind (fold bound_behind xs (take i fs)) f
next_bound xs [] zero f rest e = cc
next_bound xs [] (suc i) f rest e = cc
next_bound xs (g ∷ fs) zero f rest e = let same : g ≡ f = cc in ap (bound_behind xs) same
next_bound xs (g ∷ fs) (suc i) f rest e = next_bound (bound_behind xs g) fs i f rest e

-- behind a fragment just what it binds is bound besides
pub bound_next : (b : Basis) (e i : ℕ) (f : Fragment) (rest : List Fragment) → drop i (written_at b e) ≡ f ∷ rest → bound_before b e (suc i) ≡ bound_behind (bound_before b e i) f
bound_next b e i f rest d = next_bound (first_at b e) (written_at b e) i f rest d

-- the fragment has no others than it may have, nor have those behind it
pub bound_on : (b : Basis) (e i : ℕ) (f : Fragment) (rest : List Fragment) → drop i (written_at b e) ≡ f ∷ rest → AreBoundFrom b e i →
    (is_bound (bound_before b e i) f ≡ true) × AreBoundFrom b e (suc i)
bound_on b e i f rest d h =
    let xs = bound_before b e i in
    let all : are_bound xs (f ∷ rest) ≡ true = subst (λ fs. are_bound xs fs ≡ true) d h in
    let p = and_parts (is_bound xs f) (are_bound (bound_behind xs f) rest) all in (
      p.0,
      ap₂ are_bound (bound_next b e i f rest d) (behind (written_at b e) i f rest d) ∙ p.1,
    )

-- ---- fragments as they are written, and as they are evaluated

pub rest_is : (b : Basis) (e i : ℕ) → rest_of (rules_of b) e i ≡ map fragment_of (drop i (written_at b e))
rest_is b e i = drop-map fragment_of i (written_at b e)

only_side : (xs : List Variable) (right : Bool) (fs : List Fragment) → are_bound xs fs ≡ true → HasSideBy right (goal_of (map fragment_of fs)) → has_only xs (side_by right (map fragment_of fs)) ≡ true
only_side xs right [] h k = absurd k
only_side xs true (Equal t u ∷ fs) h k = (and_parts _ _ (and_parts (is_bound xs (Equal t u)) (are_bound xs fs) h).0).1
only_side xs false (Equal t u ∷ fs) h k = (and_parts _ _ (and_parts (is_bound xs (Equal t u)) (are_bound xs fs) h).0).0
only_side xs right (Match p u ∷ fs) h k = (and_parts (is_bound xs (Match p u)) (are_bound (bound_behind xs (Match p u)) fs) h).0
only_side xs right (Sort t s ∷ fs) h k = (and_parts (is_bound xs (Sort t s)) (are_bound xs fs) h).0
only_side xs right (Reach t u ∷ fs) h k = absurd k

-- ---- instances by the values of some variables

mutual
  instance_same : (xs : List Variable) (g h : Variable → Tree) → ((x : Variable) → has_variable xs x ≡ true → g x ≡ h x) → (t : Tree) → has_only xs t ≡ true → instance g t ≡ instance h t
  instance_same xs g h f (variable i s) o = f (i, s) o
  instance_same xs g h f (numeral n) o = refl
  instance_same xs g h f (apply p ts) o = ap (apply p) (instances_same xs g h f ts o)

  instances_same : (xs : List Variable) (g h : Variable → Tree) → ((x : Variable) → has_variable xs x ≡ true → g x ≡ h x) → (ts : Trees) → have_only xs ts ≡ true → instances g ts ≡ instances h ts
  instances_same xs g h f no_trees o = refl
  instances_same xs g h f (tree t ts) o =
      let p = and_parts (has_only xs t) (have_only xs ts) o in ap₂ tree (instance_same xs g h f t p.0) (instances_same xs g h f ts p.1)

-- each variable with a value has one
paired_binds : (xs : List Variable) (vs : List Tree) → length vs ≡ length xs → (x : Variable) → has_variable xs x ≡ true → binds (paired xs vs) x ≡ true
paired_binds [] vs n x h = cc
paired_binds (y ∷ xs) [] n x h = cc
paired_binds (y ∷ xs) (v ∷ vs) n x h = by (same_variable y x) (paired_binds xs vs (shorter n) x) h
  where
    shorter : suc (length vs) ≡ suc (length xs) → length vs ≡ length xs
    shorter e = cc

    by : (w : Bool) → (has_variable xs x ≡ true → binds (paired xs vs) x ≡ true) → (w || has_variable xs x) ≡ true → (w || binds (paired xs vs) x) ≡ true
    by true rest k = refl
    by false rest k = rest k

-- ---- known bindings

module _ (b : Basis) (nodes : List Node) (table : Table) (e i : ℕ) (σ : Kept) (h : IsKnownBinding b nodes table e i σ) where
  abbrev ws : List Fragment
  ws = written_at b e

  -- what binds nothing is passed
  passed : (f : Fragment) (rest : List Fragment) → drop i ws ≡ f ∷ rest → bound_behind (bound_before b e i) f ≡ bound_before b e i → IsKnownBinding b nodes table e (suc i) σ
  passed f rest d same = record {
    values = h.values;
    variables = h.variables ∙ sym (bound_next b e i f rest d ∙ same);
    sorts = h.sorts;
    bound = (bound_on b e i f rest d h.bound).1;
  }

  passes_by : (fs : List Fragment) → drop i ws ≡ fs → (Goals.Equality ≡ goal_of (map fragment_of fs)) ⊎ (Goals.Sort ≡ goal_of (map fragment_of fs)) → IsKnownBinding b nodes table e (suc i) σ
  passes_by [] d (inl a) = cc
  passes_by [] d (inr a) = cc
  passes_by (Equal t u ∷ fs) d a = passed (Equal t u) fs d refl
  passes_by (Match p u ∷ fs) d (inl a) = cc
  passes_by (Match p u ∷ fs) d (inr a) = cc
  passes_by (Sort t s ∷ fs) d a = passed (Sort t s) fs d refl
  passes_by (Reach t u ∷ fs) d (inl a) = cc
  passes_by (Reach t u ∷ fs) d (inr a) = cc

  pub passes_on : PassesOn (rules_of b) e i → IsKnownBinding b nodes table e (suc i) σ
  passes_on p = passes_by (drop i ws) refl (subst (λ (c : List Evaluated.Fragment). (Goals.Equality ≡ goal_of c) ⊎ (Goals.Sort ≡ goal_of c)) (rest_is b e i) p)

  -- all variables that are bound before the fragment are
  pub all_bound : (x : Variable) → has_variable (bound_before b e i) x ≡ true → binds (bound_in nodes σ) x ≡ true
  all_bound x m =
      paired_binds (map variable_of σ.variables.items) (trees_at nodes (numbers σ.values.items)) (trees_long nodes σ.values.items ∙ (h.values.one_each ∙ sym (length-map σ.variables.items variable_of))) x
      (subst (λ xs. has_variable xs x ≡ true) (sym h.variables) m)

  pub has_values_of : (right : Bool) (τ : Binding) → HasSide (rules_of b) e i right → IsExtension (bound_in nodes σ) τ → side_of (rules_of b) e i right τ ≡ side_of (rules_of b) e i right (bound_in nodes σ)
  has_values_of right τ k more =
      instance_same (bound_before b e i) (look_up τ) (look_up (bound_in nodes σ)) (λ x m. (more x (all_bound x m)).1) (side_by right (rest_of (rules_of b) e i))
      (subst (λ c. HasSideBy right (goal_of c) → has_only (bound_before b e i) (side_by right c) ≡ true) (sym (rest_is b e i)) (only_side (bound_before b e i) right (drop i ws) h.bound) k)
