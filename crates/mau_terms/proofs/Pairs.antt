-- Lists of pairs of a name and a sort, each once: places, and what an index of the code does with them.
use Rattle.std.proofs.Common.{◌≡◌, ℕ, ◌+◌, zero, suc, nat_eq, List, [], ◌∷◌, ◌++◌, Bool, true, false, ◌&&◌, ◌||◌, if◌then◌else◌, cond, not, map, slice_get, Some, refl, sym, ◌∙◌, ap, ap₂, subst, eqb-true, eq-eqb, arith}
use Rattle.std.specs.List.{list_any, position_or_len}
use Rattle.std.proofs.lemmas.Slice.Eq.{bytes_eq-Decides}
use Rattle.std.proofs.lemmas.Bool.{and_parts, or_parts}
use Rattle.mau_terms.specs.Laws.{PairsKeepPlaces}
use Rattle.mau_terms.specs.Vars.{same_pair, place_of, with_pair, AreDistinct}

-- ---- the test of two pairs

pub same_pair-is : (x y : List ℕ × ℕ) → same_pair x y ≡ true → x ≡ y
same_pair-is x y e =
    let p = and_parts _ (nat_eq x.1 y.1) e in
    ap₂ (λ (a : List ℕ) (b : ℕ). let v : List ℕ × ℕ = (a, b) in v) ((bytes_eq-Decides x.0 y.0).0 p.0) (eqb-true x.1 y.1 p.1)

pub same_pair_itself : (x : List ℕ × ℕ) → same_pair x x ≡ true
same_pair_itself x = ap₂ (λ a b. a && b) ((bytes_eq-Decides x.0 x.0).1 refl) (eq-eqb x.1 x.1 refl)

same_pair_back : (x y : List ℕ × ℕ) → same_pair x y ≡ false → same_pair y x ≡ false
same_pair_back x y e = by (same_pair y x) refl
  where
    by : (b : Bool) → same_pair y x ≡ b → b ≡ false
    by false h = refl
    by true h = let k : same_pair x y ≡ true = subst (λ w. same_pair x w ≡ true) (sym (same_pair-is y x h)) (same_pair_itself x) in cc

-- ---- each once

none_at_end : (y : List ℕ × ℕ) (xs : List (List ℕ × ℕ)) (x : List ℕ × ℕ) → list_any (same_pair y) xs ≡ false → same_pair y x ≡ false → list_any (same_pair y) (xs ++ x ∷ []) ≡ false
none_at_end y [] x h k = ap (λ b. b || false) k
none_at_end y (z ∷ xs) x h k =
    let p = or_parts (same_pair y z) (list_any (same_pair y) xs) h in
    ap₂ (λ a b. a || b) p.0 (none_at_end y xs x p.1 k)

distinct_end : (xs : List (List ℕ × ℕ)) (x : List ℕ × ℕ) → AreDistinct xs → list_any (same_pair x) xs ≡ false → AreDistinct (xs ++ x ∷ [])
distinct_end [] x d h = (refl, tt)
distinct_end (y ∷ xs) x d h =
    let p = or_parts (same_pair x y) (list_any (same_pair x) xs) h in
    (none_at_end y xs x d.0 (same_pair_back x y p.0), distinct_end xs x d.1 p.1)

pub AreDistinct-with_pair : (xs : List (List ℕ × ℕ)) (x : List ℕ × ℕ) → AreDistinct xs → AreDistinct (with_pair xs x)
AreDistinct-with_pair xs x d = by (list_any (same_pair x) xs) refl
  where
    by : (b : Bool) → list_any (same_pair x) xs ≡ b → AreDistinct (if b then xs else xs ++ x ∷ [])
    by true h = d
    by false h = distinct_end xs x d h

-- ---- places

place_found : (xs : List (List ℕ × ℕ)) (x : List ℕ × ℕ) → list_any (same_pair x) xs ≡ true → slice_get xs (place_of xs x) ≡ Some x
place_found [] x h = cc
place_found (y ∷ xs) x h = by (same_pair x y) refl (place_found xs x)
  where
    by : (b : Bool) → same_pair x y ≡ b → (list_any (same_pair x) xs ≡ true → slice_get xs (place_of xs x) ≡ Some x) → slice_get (y ∷ xs) (cond (not b) (1 + place_of xs x) 0) ≡ Some x
    by true e ih = ap Some (sym (same_pair-is x y e))
    by false e ih =
        let later : list_any (same_pair x) xs ≡ true = sym (ap (λ b. b || list_any (same_pair x) xs) e) ∙ h in
        let next : 1 + place_of xs x ≡ suc (place_of xs x) = omega arith in
        ap (slice_get (y ∷ xs)) next ∙ ih later

place_new : (xs : List (List ℕ × ℕ)) (x : List ℕ × ℕ) → list_any (same_pair x) xs ≡ false → slice_get (xs ++ x ∷ []) (place_of xs x) ≡ Some x
place_new [] x h = refl
place_new (y ∷ xs) x h =
    let p = or_parts (same_pair x y) (list_any (same_pair x) xs) h in
    let next : place_of (y ∷ xs) x ≡ suc (place_of xs x) = ap (λ b. cond (not b) (1 + place_of xs x) 0) p.0 ∙ omega arith in
    ap (slice_get (y ∷ (xs ++ x ∷ []))) next ∙ place_new xs x p.1

stays_before : (xs ys : List (List ℕ × ℕ)) (k : ℕ) (y : List ℕ × ℕ) → slice_get xs k ≡ Some y → slice_get (xs ++ ys) k ≡ Some y
stays_before [] ys k y h = cc
stays_before (x ∷ xs) ys zero y h = h
stays_before (x ∷ xs) ys (suc k) y h = stays_before xs ys k y h

pub pairs_keep_places : PairsKeepPlaces
pairs_keep_places xs x = record { stands = stands (list_any (same_pair x) xs) refl; stay = stay (list_any (same_pair x) xs) }
  where
    stands : (b : Bool) → list_any (same_pair x) xs ≡ b → slice_get (if b then xs else xs ++ x ∷ []) (place_of xs x) ≡ Some x
    stands true h = place_found xs x h
    stands false h = place_new xs x h

    stay : (b : Bool) (k : ℕ) (y : List ℕ × ℕ) → slice_get xs k ≡ Some y → slice_get (if b then xs else xs ++ x ∷ []) k ≡ Some y
    stay true k y h = h
    stay false k y h = stays_before xs (x ∷ []) k y h

-- ---- an index whose keys stand for pairs

module _ {K : Type 0} (e : K → K → Bool) (pair : K → List ℕ × ℕ) (same : (j k : K) → e j k ≡ same_pair (pair j) (pair k)) where
  any_of_pairs : (ks : List K) (k : K) → list_any (e k) ks ≡ list_any (same_pair (pair k)) (map pair ks)
  any_of_pairs [] k = refl
  any_of_pairs (j ∷ ks) k = ap₂ (λ a b. a || b) (same k j) (any_of_pairs ks k)

  pub place_of-keys : (ks : List K) (k : K) → position_or_len (e k) ks ≡ place_of (map pair ks) (pair k)
  place_of-keys [] k = refl
  place_of-keys (j ∷ ks) k = ap₂ (λ a n. cond (not a) (1 + n) 0) (same k j) (place_of-keys ks k)

  map-end : (ks : List K) (k : K) → map pair (ks ++ k ∷ []) ≡ map pair ks ++ pair k ∷ []
  map-end [] k = refl
  map-end (j ∷ ks) k = ap (λ w. pair j ∷ w) (map-end ks k)

  pub with_pair-keys : (ks : List K) (k : K) → map pair (if list_any (e k) ks then ks else ks ++ k ∷ []) ≡ with_pair (map pair ks) (pair k)
  with_pair-keys ks k = ap (λ a. map pair (if a then ks else ks ++ k ∷ [])) (any_of_pairs ks k) ∙ by (list_any (same_pair (pair k)) (map pair ks))
    where
      by : (b : Bool) → map pair (if b then ks else ks ++ k ∷ []) ≡ (if b then map pair ks else map pair ks ++ pair k ∷ [])
      by true = refl
      by false = map-end ks k
