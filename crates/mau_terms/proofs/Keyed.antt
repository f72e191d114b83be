-- A list of keys that stand for other values.
use Rattle.std.proofs.Common.{◌≡◌, ◌+◌, List, [], ◌∷◌, ◌++◌, Bool, true, false, ◌||◌, if◌then◌else◌, cond, not, map, Some, None, nat_lt, refl, sym, ◌∙◌, ap, ap₂}
use Rattle.std.specs.Prelude.{position}
use Rattle.std.specs.List.{list_any, position_or_len}
use Rattle.std.proofs.lemmas.List.{length-map, map-append}

module _ {K A : Type 0} (name : K → A) (e : K → Bool) (p : A → Bool) (same : (k : K) → e k ≡ p (name k)) where
  pub any-keyed : (ks : List K) → list_any e ks ≡ list_any p (map name ks)
  any-keyed [] = refl
  any-keyed (k ∷ ks) = ap₂ (λ a b. a || b) (same k) (any-keyed ks)

  place-keyed : (ks : List K) → position_or_len e ks ≡ position_or_len p (map name ks)
  place-keyed [] = refl
  place-keyed (k ∷ ks) = ap₂ (λ b n. cond (not b) (1 + n) 0) (same k) (place-keyed ks)

  pub position-keyed : (ks : List K) → position e ks ≡ position p (map name ks)
  position-keyed ks =
      ap₂ (λ i n. cond (nat_lt i n) (Some i) None) (place-keyed ks) (sym (length-map ks name))

  pub insert-keyed : (ks : List K) (k : K) → map name (if list_any e ks then ks else ks ++ k ∷ []) ≡ (if list_any p (map name ks) then map name ks else map name ks ++ name k ∷ [])
  insert-keyed ks k = by (list_any e ks) (list_any p (map name ks)) (any-keyed ks)
    where
      by : (a b : Bool) → a ≡ b → map name (cond a ks (ks ++ k ∷ [])) ≡ cond b (map name ks) (map name ks ++ name k ∷ [])
      by true b h = ap (λ d. cond d (map name ks) (map name ks ++ name k ∷ [])) h
      by false b h = map-append name ks (k ∷ []) ∙ ap (λ d. cond d (map name ks) (map name ks ++ name k ∷ [])) h
