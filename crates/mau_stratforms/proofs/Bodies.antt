-- Bodies of definitions by numbers, and all strategies of a program.
use Rattle.std.proofs.Common.{◌≡◌, ◌⊎◌, inl, inr, ℕ, zero, suc, ◌<◌, List, [], ◌∷◌, ◌++◌, length, map, slice_get, Some, refl, ap, sym, ◌∙◌, subst, arith}
use Rattle.std.specs.List.{slice_index_or}
use Rattle.std.proofs.lemmas.Option.{slice_get_within, get_or_from_slice_get}
use Rattle.mau_evaluation.specs.Strategy.{Strategy, idle}
use Rattle.mau_program.specs.declared.definitions.StratDef.{StratDef}
use Rattle.mau_strat.specs.declared.configs.StrategyId.{StrategyId}
use Rattle.mau_strat.specs.declared.forms.Form.{Form}
use Rattle.mau_stratforms.specs.Meanings.{meaning_of, definition_of}
use Rattle.mau_stratforms.specs.Tables.{leaf_in}
use Rattle.mau_stratforms.specs.Made.{IsNumberOf, Goes, HasLeaves, IsMade}
use Rattle.mau_stratforms.specs.Parts.{AreMade}
use Rattle.mau_stratforms.proofs.Making.{made_stays}

same_some : {A : Type 0} (a b : A) → Some a ≡ Some b → a ≡ b
same_some a b e = cc

no_place : {A : Type 0} (p : A) (j : ℕ) → slice_get {X = A} [] j ≡ Some p → ⊥
no_place p j e = cc

-- a place of a list with one more is one of the list, or the last
pub at_place : {A : Type 0} (xs : List A) (y : A) (j : ℕ) (p : A) → slice_get (xs ++ y ∷ []) j ≡ Some p → (slice_get xs j ≡ Some p) ⊎ ((j ≡ length xs) × (p ≡ y))
at_place [] y zero p e = inr (refl, sym (same_some y p e))
at_place [] y (suc j) p e = absurd (no_place p j e)
at_place (x ∷ xs) y zero p e = inl e
at_place {A = A} (x ∷ xs) y (suc j) p e = by (at_place xs y j p e)
  where
    by : (slice_get xs j ≡ Some p) ⊎ ((j ≡ length xs) × (p ≡ y)) → (slice_get (x ∷ xs) (suc j) ≡ Some p) ⊎ ((suc j ≡ length (x ∷ xs)) × (p ≡ y))
    by (inl h) = inl h
    by (inr h) = inr (ap suc h.0, h.1)

-- none yet
pub none_made : (f : List Form) (t : List Strategy) (ds : List StratDef) → AreMade f t ds []
none_made f t ds k b d e h = absurd (no_place b k e)

-- the body of the next definition is added
pub next_made : (f : List Form) (t : List Strategy) (f' : List Form) (t' : List Strategy) → Goes f t f' t' → (ds : List StratDef) (ids : List StrategyId) (d : StratDef) (b : StrategyId) →
    AreMade f t ds ids → slice_get ds (length ids) ≡ Some d → IsMade f' t' (meaning_of d.body) b.0 → AreMade f' t' ds (ids ++ b ∷ [])
next_made f t f' t' g ds ids d b m e i k c x h q = by (at_place ids b k c h)
  where
    by : (slice_get ids k ≡ Some c) ⊎ ((k ≡ length ids) × (c ≡ b)) → IsMade f' t' (meaning_of x.body) c.0
    by (inl z) = made_stays f t f' t' g (meaning_of x.body) c.0 (m k c x z q)
    by (inr z) =
        let one : x ≡ d = same_some x d (sym q ∙ (ap (slice_get ds) z.0 ∙ e)) in
        subst (λ y. IsMade f' t' (meaning_of y.body) c.0) (sym one) (subst (λ y. IsMade f' t' (meaning_of d.body) y.0) (sym z.1) i)

pub made_stay : (f : List Form) (t : List Strategy) (f' : List Form) (t' : List Strategy) → Goes f t f' t' → (ds : List StratDef) (ids : List StrategyId) → AreMade f t ds ids → AreMade f' t' ds ids
made_stay f t f' t' g ds ids m k b d h e = made_stays f t f' t' g (meaning_of d.body) b.0 (m k b d h e)

-- ---- over the leaves of the table

has_leaves : (t : List Strategy) → HasLeaves (leaf_in t) t
has_leaves t l x h = get_or_from_slice_get t l x idle h

pub number_is : (f : List Form) (t : List Strategy) (s : Strategy) (n : ℕ) → IsMade f t s n → IsNumberOf f t s n
number_is f t s n m = (m.0, m.1 (leaf_in t) (has_leaves t))

body_is : (ds : List StratDef) (k : ℕ) (d : StratDef) → slice_get ds k ≡ Some d → slice_index_or (map (λ x. x.body) (map definition_of ds)) k idle ≡ meaning_of d.body
body_is [] k d e = absurd (no_place d k e)
body_is (x ∷ ds) zero d e = ap (λ (y : StratDef). meaning_of y.body) (same_some x d e)
body_is (x ∷ ds) (suc k) d e = body_is ds k d e

there : (ds : List StratDef) (k : ℕ) → k < length ds → (d : StratDef) × (slice_get ds k ≡ Some d)
there [] k h = absurd (omega arith)
there (x ∷ ds) zero h = (x, refl)
there (x ∷ ds) (suc k) h = there ds k (omega arith)

pub bodies_are : (f : List Form) (t : List Strategy) (ds : List StratDef) (ids : List StrategyId) → length ids ≡ length ds → AreMade f t ds ids → (k : ℕ) (b : StrategyId) → slice_get ids k ≡ Some b →
    IsNumberOf f t (slice_index_or (map (λ x. x.body) (map definition_of ds)) k idle) b.0
bodies_are f t ds ids n m k b h =
    let l : k < length ids = slice_get_within ids k b h in
    let i : k < length ds = omega arith in
    let d = there ds k i in
    subst (λ s. IsNumberOf f t s b.0) (sym (body_is ds k d.0 d.1)) (number_is f t (meaning_of d.0.body) b.0 (m k b d.0 h d.1))
