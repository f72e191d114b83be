-- The solutions without contexts are those with contexts whose contexts are empty.
use Rattle.std.proofs.Common.{◌≡◌, inl, inr, List, [], ◌∷◌, map, Bool, true, false, ◌&&◌, refl, sym, ap, ap₂, ◌∙◌, subst}
use Rattle.std.specs.Cmp.{IsTotalOrder}
use Rattle.std.specs.Ordering.{ordering_reverse}
use Rattle.std.specs.declared.cmp.Ordering.{Ordering}
use Rattle.std.specs.declared.cmp.Ordering.TheVariants.{Less}
use Rattle.mau_terms.specs.Tree.{Tree}
use Rattle.mau_terms.specs.Norm.{norm}
use Rattle.mau_terms.specs.Reading.{reading}
use Rattle.mau_terms.specs.Solution.{FitsWithin}
use Rattle.mau_terms.specs.Finite.{IsIn}
use Rattle.mau_listing.proofs.Alone.{alone_fits, fits_alone}
use Rattle.mau_evaluation.specs.Listing.{Solution, plain, keep, solutions, solutions_within, compare, IsAscending, AllAfter}
use Rattle.mau_evaluation.proofs.Listed.{in_keep, from_keep, compare_total}
use Rattle.mau_evaluation.proofs.Solved.{kept_ascend, solutions_are_listed, solutions_within_are_listed}
use Rattle.mau_evaluation.proofs.BareTerms.{norms-readings}
use Rattle.mau_api.specs.Remaining.{is_empty, is_whole, WholesAreKept}

-- ---- two ascending lists of the same elements are one

module _ (cmp : Solution → Solution → Ordering) (total : IsTotalOrder cmp) where
  not_both : (x y : Solution) → cmp x y ≡ Less → cmp y x ≡ Less → ⊥
  not_both x y e g = by (cmp x y) (cmp y x) (total.antisymm x y) e g
    where
      by : (o p : Ordering) → o ≡ ordering_reverse p → o ≡ Less → p ≡ Less → ⊥
      by o p h e g = cc

  among_after : (x : Solution) (ys : List Solution) → AllAfter cmp x ys → (y : Solution) → IsIn y ys → cmp x y ≡ Less
  among_after x [] a y i = absurd i
  among_after x (z ∷ ys) a y (inl e) = subst (λ w. cmp x w ≡ Less) (sym e) a.0
  among_after x (z ∷ ys) a y (inr i) = among_after x ys a.1 y i

  heads_are_one : (x y : Solution) (xs ys : List Solution) → AllAfter cmp x xs → AllAfter cmp y ys → IsIn x (y ∷ ys) → IsIn y (x ∷ xs) → x ≡ y
  heads_are_one x y xs ys a b (inl e) j = e
  heads_are_one x y xs ys a b (inr i) (inl e) = sym e
  heads_are_one x y xs ys a b (inr i) (inr j) = absurd (not_both x y (among_after x xs a y j) (among_after y ys b x i))

  behind_head : (x : Solution) (xs ys : List Solution) → AllAfter cmp x xs → ((z : Solution) → IsIn z (x ∷ xs) → IsIn z (x ∷ ys)) → (z : Solution) → IsIn z xs → IsIn z ys
  behind_head x xs ys a f z i = by (f z (inr i))
    where
      by : IsIn z (x ∷ ys) → IsIn z ys
      by (inl e) = let k : cmp x x ≡ Less = subst (λ w. cmp x w ≡ Less) e (among_after x xs a z i) in absurd (not_both x x k k)
      by (inr j) = j

  one_list : (xs ys : List Solution) → IsAscending cmp xs → IsAscending cmp ys → ((z : Solution) → IsIn z xs → IsIn z ys) → ((z : Solution) → IsIn z ys → IsIn z xs) → xs ≡ ys
  one_list [] [] a b f g = refl
  one_list [] (y ∷ ys) a b f g = absurd (g y (inl refl))
  one_list (x ∷ xs) [] a b f g = absurd (f x (inl refl))
  one_list (x ∷ xs) (y ∷ ys) a b f g =
      let e : x ≡ y = heads_are_one x y xs ys a.0 b.0 (f x (inl refl)) (g y (inl refl)) in
      let forth = behind_head x xs ys a.0 (λ z i. subst (λ w. IsIn z (w ∷ ys)) (sym e) (f z i)) in
      let back = behind_head y ys xs b.0 (λ z i. subst (λ w. IsIn z (w ∷ xs)) e (g z i)) in
      ap₂ (λ (z : Solution) (zs : List Solution). z ∷ zs) e (one_list xs ys a.1 b.1 forth back)

-- ---- solutions

empty_is : (ts : List Tree) → is_empty ts ≡ true → ts ≡ []
empty_is [] e = refl
empty_is (t ∷ ts) e = cc

both_empty : (x : Solution) → is_whole x ≡ true → (x.left ≡ []) × (x.right ≡ [])
both_empty x e = by (is_empty x.left) refl e
  where
    by : (b : Bool) → is_empty x.left ≡ b → (b && is_empty x.right) ≡ true → (x.left ≡ []) × (x.right ≡ [])
    by true h k = (empty_is x.left h, empty_is x.right k)
    by false h k = cc

empties : (x : Solution) → x.left ≡ [] → x.right ≡ [] → is_whole x ≡ true
empties x l r = ap₂ (λ (a b : List Tree). is_empty a && is_empty b) l r

plain_is : (x : Solution) → x.left ≡ [] → x.right ≡ [] → plain x.values ≡ x
plain_is x l r = λ i. record { left = sym l i; right = sym r i; values = x.values }

pub wholes_are_kept : WholesAreKept
wholes_are_kept s lawful p t bare =
    one_list (compare s.theory p) (compare_total s.theory p) (keep is_whole within) alone (kept_ascend s.theory p is_whole within ((solutions_within_are_listed s lawful p t bare).2)) ((solutions_are_listed s lawful p t bare).2) forth back
  where
    within : List Solution
    within = solutions_within s p (norm s.theory t)

    alone : List Solution
    alone = solutions s p (norm s.theory t)

    forth : (z : Solution) → IsIn z (keep is_whole within) → IsIn z alone
    forth z i =
        let a = from_keep is_whole z within i in
        let e = both_empty z a.1 in
        let h = (solutions_within_are_listed s lawful p t bare).0 z a.0 in
        let fits = alone_fits s lawful p t (map (reading s.theory) z.values) bare (subst (λ l. FitsWithin s p t (map (reading s.theory) z.values) l []) e.0 (subst (FitsWithin s p t (map (reading s.theory) z.values) z.left) e.1 h.1)) in
        subst (λ y. IsIn y alone) (ap plain (norms-readings s.theory lawful.theories z.values h.0) ∙ plain_is z e.0 e.1) ((solutions_are_listed s lawful p t bare).1 (map (reading s.theory) z.values) fits)

    back : (z : Solution) → IsIn z alone → IsIn z (keep is_whole within)
    back z i =
        let h = (solutions_are_listed s lawful p t bare).0 z i in
        let l = (solutions_within_are_listed s lawful p t bare).1 (map (reading s.theory) z.values) [] [] (fits_alone s lawful p t (map (reading s.theory) z.values) h.3) in
        in_keep is_whole z within (subst (λ y. IsIn y within) (ap plain (norms-readings s.theory lawful.theories z.values h.2) ∙ plain_is z h.0 h.1) l) (empties z h.0 h.1)
