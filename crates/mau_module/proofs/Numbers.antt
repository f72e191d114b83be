-- The numbers of sorts and kinds, one after another.
use Rattle.std.proofs.Common.{◌≡◌, ℕ, ◌+◌, ◌<◌, ◌≤◌, List, true, false, cond, length, get_or, map, [], ◌∷◌, ◌++◌, sym, ap, ◌∙◌, arith, ◌⊎◌, inl, inr}
use Rattle.std.proofs.Math.ListN.{get_or-append}
use Rattle.std.proofs.lemmas.Bool.{cases_lt}
use Rattle.std.proofs.Math.Seq.{get_or-append_seam}
use Rattle.std.specs.Prelude.{nat_lt}
use Rattle.std.specs.Option.{option_map_or}
use Rattle.std.proofs.lemmas.Option.{slice_get-get_or}
use Rattle.std.proofs.lemmas.List.{get_or-map}
use Rattle.mau_poset.specs.Order.{Hierarchy, kind_of, kinds}
use Rattle.mau_module.specs.Numbering.{number_in, sort_to, first_sort_of, number_to}

below : (m n : ℕ) → m < n → nat_lt m n ≡ true
below m n l = grind arith

not_below : (m n : ℕ) → n ≤ m → nat_lt m n ≡ false
not_below m n l = grind arith

module _ (olds : List (List ℕ)) (old : Hierarchy) (news : List (List ℕ)) (new : Hierarchy) where
  pub sort_number : (a : ℕ) → a < old.sorts → number_to olds old news new a ≡ sort_to olds news a
  sort_number a l =
      ap (λ b. cond b (sort_to olds news a) (cond (nat_lt a (old.sorts + kinds old)) (kind_of new (sort_to olds news (first_sort_of old a))) 0)) (below a old.sorts l)

  pub kind_number : (a : ℕ) → old.sorts ≤ a → a < old.sorts + kinds old → number_to olds old news new a ≡ kind_of new (sort_to olds news (first_sort_of old a))
  kind_number a l m =
      ap (λ b. cond b (sort_to olds news a) (cond (nat_lt a (old.sorts + kinds old)) (kind_of new (sort_to olds news (first_sort_of old a))) 0)) (not_below a old.sorts l)
      ∙ ap (λ b. cond b (kind_of new (sort_to olds news (first_sort_of old a))) 0) (below a (old.sorts + kinds old) m)

  pub no_number : (a : ℕ) → old.sorts + kinds old ≤ a → 0 ≡ number_to olds old news new a
  no_number a l = sym (
      ap (λ b. cond b (sort_to olds news a) (cond (nat_lt a (old.sorts + kinds old)) (kind_of new (sort_to olds news (first_sort_of old a))) 0)) (not_below a old.sorts (omega arith))
      ∙ ap (λ b. cond b (kind_of new (sort_to olds news (first_sort_of old a))) 0) (not_below a (old.sorts + kinds old) l))

-- the table of sorts has the number of each
pub in_table : (olds news : List (List ℕ)) (a : ℕ) → a < length olds → get_or (map (number_in news) olds) a 0 ≡ sort_to olds news a
in_table olds news a l =
    get_or-map (number_in news) olds a [] 0 l ∙ ap (number_in news) (sym (ap (λ r. option_map_or (λ x. x) r []) (slice_get-get_or olds a [] l)))

-- one kind more, behind the others
module _ (olds : List (List ℕ)) (old : Hierarchy) (news : List (List ℕ)) (new : Hierarchy) where
  pub one_kind_more : (t : List ℕ) (i k f : ℕ) → ((a : ℕ) → a < old.sorts + i → get_or t a 0 ≡ number_to olds old news new a)
      → length t ≡ old.sorts + i → i < kinds old → f ≡ first_sort_of old (old.sorts + i) → f < old.sorts → k ≡ kind_of new (get_or t f 0)
      → (a : ℕ) → a < old.sorts + (i + 1) → get_or (t ++ k ∷ []) a 0 ≡ number_to olds old news new a
  one_kind_more t i k f each len room first low value a l = by (cases_lt a (old.sorts + i))
    where
      by : (a < old.sorts + i) ⊎ (old.sorts + i ≤ a) → get_or (t ++ k ∷ []) a 0 ≡ number_to olds old news new a
      by (inl m) = get_or-append t (k ∷ []) 0 a (omega arith) ∙ each a m
      by (inr g) =
          let e : a ≡ old.sorts + i = omega arith in
          ap (λ n. get_or (t ++ k ∷ []) n 0) (e ∙ sym len) ∙ get_or-append_seam t k [] 0 ∙ value
          ∙ ap (kind_of new) (each f (omega arith) ∙ sort_number olds old news new f low ∙ ap (sort_to olds news) (first ∙ ap (first_sort_of old) (sym e)))
          ∙ sym (kind_number olds old news new a (omega arith) (omega arith))
