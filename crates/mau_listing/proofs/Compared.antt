-- Lists that are compared element by element.
use Rattle.std.proofs.Common.{◌≡◌, ℕ, zero, suc, ◌≤◌, ◌<◌, List, [], ◌∷◌, map, length, drop, get_or, min, refl, ap, arith}
use Rattle.std.specs.declared.cmp.Ordering.{Ordering}
use Rattle.std.specs.declared.cmp.Ordering.TheVariants.{Less, Equal, Greater}
use Rattle.std.specs.Ordering.{ordering_then, nat_cmp, MatchOrdering}
use Rattle.std.specs.Cmp.{nat_cmp_is}
use Rattle.std.specs.Cmp.Lexicographic.{slice_cmp}
use Rattle.mau_terms.specs.Tree.{Tree}
use Rattle.mau_terms.specs.Solution.{list_cmp, value_key, value_keys}
use Rattle.mau_terms.specs.declared.ids.TermId.{TermId}
use Rattle.mau_terms.specs.declared.theory.Theory.{Theory}
use Rattle.mau_store.specs.Node.{Node}
use Rattle.mau_store.specs.Trees.{tree_at, trees_at}
use Rattle.mau_store.specs.View.{numbers}
use Rattle.mau_listing.specs.declared.places.Place.{Place}
use Rattle.mau_listing.specs.Places.{operator_number, under_all}

drop-all : {A : Type 0} (xs : List A) (i : ℕ) → length xs ≤ i → drop i xs ≡ []
drop-all [] zero h = refl
drop-all [] (suc i) h = refl
drop-all (x ∷ xs) zero h = absurd (omega arith)
drop-all (x ∷ xs) (suc i) h = drop-all xs i (omega arith)

-- an order that is not a tie decides
pub decides : (o rest : Ordering) → (o ≡ Equal → ⊥) → ordering_then o rest ≡ o
decides Less rest h = refl
decides Equal rest h = absurd (h refl)
decides Greater rest h = refl

module _ {A B C : Type 0} (R : C → C → Ordering) (G : B → C) (F : A → B) where
  pub compare_step : (xs ys : List A) (i : ℕ) (x y : A) → i < length xs → i < length ys →
      slice_cmp R (map G (map F (drop i xs))) (map G (map F (drop i ys))) ≡ ordering_then (R (G (F (get_or xs i x))) (G (F (get_or ys i y)))) (slice_cmp R (map G (map F (drop (suc i) xs))) (map G (map F (drop (suc i) ys))))
  compare_step [] ys i x y h k = absurd (omega arith)
  compare_step (a ∷ xs) [] i x y h k = absurd (omega arith)
  compare_step (a ∷ xs) (b ∷ ys) zero x y h k = refl
  compare_step (a ∷ xs) (b ∷ ys) (suc i) x y h k = compare_step xs ys i x y (omega arith) (omega arith)

  match_up : (r : Ordering) (a b : ℕ) → MatchOrdering r (a < b) (a ≡ b) (b < a) → MatchOrdering r (suc a < suc b) (suc a ≡ suc b) (suc b < suc a)
  match_up Less a b h = omega arith
  match_up Equal a b h = omega arith
  match_up Greater a b h = omega arith

  compare_ends : (xs ys : List A) (i : ℕ) → i ≡ min (length xs) (length ys) → MatchOrdering (slice_cmp R (map G (map F (drop i xs))) (map G (map F (drop i ys)))) (length xs < length ys) (length xs ≡ length ys) (length ys < length xs)
  compare_ends [] [] zero e = refl
  compare_ends [] [] (suc i) e = absurd (omega arith)
  compare_ends [] (y ∷ ys) zero e = omega arith
  compare_ends [] (y ∷ ys) (suc i) e = absurd (omega arith)
  compare_ends (x ∷ xs) [] zero e = omega arith
  compare_ends (x ∷ xs) [] (suc i) e = absurd (omega arith)
  compare_ends (x ∷ xs) (y ∷ ys) zero e = absurd (omega arith)
  compare_ends (x ∷ xs) (y ∷ ys) (suc i) e = match_up _ (length xs) (length ys) (compare_ends xs ys i (omega arith))

  pub compare_end : (xs ys : List A) (i : ℕ) → i ≡ min (length xs) (length ys) → slice_cmp R (map G (map F (drop i xs))) (map G (map F (drop i ys))) ≡ nat_cmp (length xs) (length ys)
  compare_end xs ys i e = nat_cmp_is (length xs) (length ys) _ (compare_ends xs ys i e)

-- ---- values by their keys

module _ (th : ℕ → Theory) (nodes : List Node) where
  abbrev pub keys_at : List Place → List TermId → List (List Tree)
  keys_at ps ids = value_keys th (under_all ps) (trees_at nodes (numbers ids))

  pub keys_step : (ps : List Place) (xs ys : List TermId) (i : ℕ) (p : Place) (x y : TermId) → i < length ps → length xs ≡ length ps → length ys ≡ length ps →
      slice_cmp list_cmp (keys_at (drop i ps) (drop i xs)) (keys_at (drop i ps) (drop i ys))
      ≡ ordering_then (list_cmp (value_key th (operator_number (get_or ps i p).under) (tree_at nodes (get_or xs i x).0)) (value_key th (operator_number (get_or ps i p).under) (tree_at nodes (get_or ys i y).0)))
      (slice_cmp list_cmp (keys_at (drop (suc i) ps) (drop (suc i) xs)) (keys_at (drop (suc i) ps) (drop (suc i) ys)))
  keys_step [] xs ys i p x y h k l = absurd (omega arith)
  keys_step (q ∷ ps) [] ys i p x y h k l = cc
  keys_step (q ∷ ps) (a ∷ xs) [] i p x y h k l = cc
  keys_step (q ∷ ps) (a ∷ xs) (b ∷ ys) zero p x y h k l = refl
  keys_step (q ∷ ps) (a ∷ xs) (b ∷ ys) (suc i) p x y h k l = keys_step ps xs ys i p x y (omega arith) (let j : length xs ≡ length ps = cc in j) (let j : length ys ≡ length ps = cc in j)

  pub keys_end : (ps : List Place) (xs ys : List TermId) (i : ℕ) → length ps ≤ i → slice_cmp list_cmp (keys_at (drop i ps) (drop i xs)) (keys_at (drop i ps) (drop i ys)) ≡ Equal
  keys_end ps xs ys i h = ap (λ qs. slice_cmp list_cmp (keys_at qs (drop i xs)) (keys_at qs (drop i ys))) (drop-all ps i h)
