-- Which lists are meant, by how much of a list is.
use Rattle.std.proofs.Common.{◌≡◌, ℕ, zero, suc, List, [], ◌∷◌, take, Bool, true, false, Option, All, refl, ◌≢◌}
use Rattle.std.specs.List.Sorted.{IsPermutation}
use Rattle.std.proofs.lemmas.List.Elements.{All-nil, All-cons, All-head, All-tail}
use Rattle.std.proofs.lemmas.List.Sorted.{All-permutation, IsPermutation-map}
use Rattle.mau_terms.specs.Tree.{Tree}
use Rattle.mau_terms.specs.Order.{sort_trees}
use Rattle.mau_terms.specs.declared.ids.TermId.{TermId}
use Rattle.mau_store.specs.View.{numbers}
use Rattle.mau_lists.specs.Lists.{IsSubList, IsFront, IsPart, IsNextOrEnd}
use Rattle.mau_lists.specs.Terms.{IsBefore}
use Rattle.mau_domains.specs.Parts.{Reach, whole, front, inside}
use Rattle.mau_domains.specs.Stored.{reach_of}
use Rattle.mau_domains.specs.Lists.{IsLong, IsLongIn}
use Rattle.mau_domains.specs.declared.part.Reach.{Reach as ReachOfCode}
use Rattle.mau_domains.specs.declared.part.Reach.TheVariants.{Whole, Front, Inside}

pub not_whole : (r : ReachOfCode) → r ≢ Whole → reach_of r ≡ whole → ⊥
not_whole Whole n e = n refl
not_whole Front n e = cc
not_whole Inside n e = cc

module _ (us ys : List Tree) (o : Option (List Tree)) where
  pub sorted_kind : (c : Bool) (r : Reach) → c ≡ true → (r ≡ whole → ⊥) → IsNextOrEnd IsBefore (IsLong (λ xs. IsSubList xs (sort_trees ys))) us o → IsNextOrEnd IsBefore (IsLongIn c r ys) us o
  sorted_kind false r e n h = absurd (cc)
  sorted_kind true whole e n h = absurd (n refl)
  sorted_kind true front e n h = h
  sorted_kind true inside e n h = h

  pub front_kind : (c : Bool) → c ≡ false → IsNextOrEnd IsBefore (IsLong (λ xs. IsFront xs ys)) us o → IsNextOrEnd IsBefore (IsLongIn c front ys) us o
  front_kind true e h = absurd (cc)
  front_kind false e h = h

  pub inside_kind : (c : Bool) → c ≡ false → IsNextOrEnd IsBefore (IsLong (λ xs. IsPart xs ys)) us o → IsNextOrEnd IsBefore (IsLongIn c inside ys) us o
  inside_kind true e h = absurd (cc)
  inside_kind false e h = h

-- what holds of each of some numbers holds of each where they stand in another order
pub all_permuted : (P : ℕ → Type 0) (xs ys : List TermId) → IsPermutation xs ys → All P (numbers xs) → All P (numbers ys)
all_permuted P xs ys p h = All-permutation P (numbers xs) (numbers ys) (IsPermutation-map (λ id. id.0) xs ys p) h

-- what holds of each of some numbers holds of those at their front
pub all_taken : (P : ℕ → Type 0) (n : ℕ) (ids : List TermId) → All P (numbers ids) → All P (numbers (take n ids))
all_taken P zero ids h = All-nil P
all_taken P (suc n) [] h = All-nil P
all_taken P (suc n) (i ∷ ids) h = All-cons P i.0 (numbers (take n ids)) (All-head P i.0 (numbers ids) h) (all_taken P n ids (All-tail P i.0 (numbers ids) h))
