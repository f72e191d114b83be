-- The lists of solutions hold just the solutions by bare terms.
use Rattle.std.proofs.Common.{◌≡◌, ℕ, List, [], ◌∷◌, ◌++◌, ◌≤◌, map, length, Bool, true, false, if◌then◌else◌, Option, None, Some, ◌⊎◌, refl, sym, ◌∙◌, subst}
use Rattle.mau_terms.specs.Tree.{Tree, variable, numeral, apply}
use Rattle.mau_terms.specs.Norm.{norm}
use Rattle.mau_terms.specs.Bare.{TermSignature, IsBare, IsLawful}
use Rattle.mau_terms.specs.Reading.{reading}
use Rattle.mau_terms.specs.Laws.{AreNorms}
use Rattle.mau_terms.specs.Subst.{with_values}
use Rattle.mau_terms.specs.Solution.{Fits, FitsAt, FitsWithin, assoc_top, list_under, over_list}
use Rattle.mau_terms.specs.Finite.{IsIn}
use Rattle.mau_terms.specs.declared.theory.Theory.{Theory}
use Rattle.mau_terms.proofs.Chains.{first_bare}
use Rattle.mau_terms.proofs.Law.{norm_equal}
use Rattle.mau_terms.proofs.Solutions.{length-map, with_values_norms, assoc_top_assoc}
use Rattle.mau_evaluation.specs.Listing.{Solution, plain, keep, makes_bare, fitting, within_under, fitting_within, solutions, solutions_within, compare, AllAfter, IsAscending, SolutionsAreListed, SolutionsWithinAreListed}
use Rattle.mau_evaluation.proofs.Listed.{in_keep, from_keep, norms_itself, fitting_are_listed}
use Rattle.mau_evaluation.proofs.Within.{fitting_under_are_listed}
use Rattle.mau_evaluation.proofs.BareTerms.{bare_is, bare_so, norms-readings, readings_bare}

-- ---- what is kept of an ascending list ascends

module _ (th : ℕ → Theory) (p : Tree) where
  all_kept : (f : Solution → Bool) (x : Solution) (ys : List Solution) → AllAfter (compare th p) x ys → AllAfter (compare th p) x (keep f ys)
  all_kept f x [] a = tt
  all_kept f x (y ∷ ys) a = by (all_kept f x ys a.1) (f y)
    where
      by : AllAfter (compare th p) x (keep f ys) → (b : Bool) → AllAfter (compare th p) x (if b then y ∷ keep f ys else keep f ys)
      by h true = (a.0, h)
      by h false = h

  pub kept_ascend : (f : Solution → Bool) (ys : List Solution) → IsAscending (compare th p) ys → IsAscending (compare th p) (keep f ys)
  kept_ascend f [] a = tt
  kept_ascend f (y ∷ ys) a = by (kept_ascend f ys a.1) (f y)
    where
      by : IsAscending (compare th p) (keep f ys) → (b : Bool) → IsAscending (compare th p) (if b then y ∷ keep f ys else keep f ys)
      by h true = (all_kept f y ys a.0, h)
      by h false = h

-- ---- solutions

module _ (s : TermSignature) (lawful : IsLawful s) (p t : Tree) (bare : IsBare s t) where
  abbrev th : ℕ → Theory
  th = s.theory

  abbrev listed_at : Option ℕ → List Solution
  listed_at o = elim o [ Some f ↦ within_under th f p (norm th t) | None ↦ fitting th p (norm th t) ]

  -- the values as bare terms make the same instance
  same_instance : (vs : List Tree) → AreNorms th vs → norm th (with_values p vs) ≡ norm th (with_values p (map (reading th) vs))
  same_instance vs n = with_values_norms th p vs (map (reading th) vs) (norms_itself th lawful.theories vs n ∙ sym (norms-readings th lawful.theories vs n))

  fits_at : (o : Option ℕ) → assoc_top th (norm th p) ≡ o → (x : Solution) → IsIn x (listed_at o) → IsBare s (with_values p (map (reading th) x.values)) →
      AreNorms th x.values × FitsAt s o p t (map (reading th) x.values) x.left x.right
  fits_at (Some f) e x i b =
      let h = (fitting_under_are_listed s lawful f (assoc_top_assoc th (norm th p) f e) p t).0 x i in
      let n = same_instance x.values h.normal in (
        h.normal,
        record {
          one_each = length-map (reading th) x.values ∙ h.one_each;
          bare = b;
          left_list = h.left_list;
          right_list = h.right_list;
          rest_alone = h.rest_alone;
          whole = subst (λ w. norm th t ≡ over_list (th f) f (x.left ++ (list_under (th f) f w ++ x.right))) n h.whole;
          part = subst (λ w. (2 ≤ length (list_under (th f) f w)) ⊎ ((x.left ≡ []) × (x.right ≡ []))) n h.part;
        },
      )
  fits_at None e x i b =
      let h = (fitting_are_listed s lawful p t).0 x i in
      let n = same_instance x.values h.3 in (
        h.3,
        (
          record {
            one_each = length-map (reading th) x.values ∙ h.2;
            equal = norm_equal s lawful (with_values p (map (reading th) x.values)) t b bare (sym n ∙ h.4);
          },
          h.0,
          h.1,
        ),
      )

  -- its class is listed, and its instance is bare
  class_at : (o : Option ℕ) → assoc_top th (norm th p) ≡ o → (vs left right : List Tree) → FitsAt s o p t vs left right →
      IsIn (record { left = left; right = right; values = map (norm th) vs }) (listed_at o) × IsBare s (with_values p vs)
  class_at (Some f) e vs left right h = ((fitting_under_are_listed s lawful f (assoc_top_assoc th (norm th p) f e) p t).1 vs left right h, h.bare)
  class_at None e vs left right h =
      (subst (λ x. IsIn x (fitting th p (norm th t))) (found_is left right h.1 h.2) ((fitting_are_listed s lawful p t).1 vs h.0), first_bare h.0.equal)
    where
      found_is : (left right : List Tree) → left ≡ [] → right ≡ [] → plain (map (norm th) vs) ≡ record { left = left; right = right; values = map (norm th) vs }
      found_is left right l r = λ i. record { left = sym l i; right = sym r i; values = map (norm th) vs }

  ascending_at : (o : Option ℕ) → assoc_top th (norm th p) ≡ o → IsAscending (compare th p) (listed_at o)
  ascending_at (Some f) e = (fitting_under_are_listed s lawful f (assoc_top_assoc th (norm th p) f e) p t).2
  ascending_at None e = (fitting_are_listed s lawful p t).2

  -- a bare instance is made by the class
  class_bare : (x : Solution) (vs : List Tree) → x.values ≡ map (norm th) vs → IsBare s (with_values p vs) → makes_bare s p x ≡ true
  class_bare x vs e b = bare_so s (with_values p (map (reading th) x.values)) (subst (λ us. IsBare s (with_values p (map (reading th) us))) (sym e) (readings_bare s lawful p vs b))

pub solutions_are_listed : SolutionsAreListed
solutions_are_listed s lawful p t bare = (sound, complete, kept_ascend s.theory p (makes_bare s p) (fitting s.theory p (norm s.theory t)) (fitting_are_listed s lawful p t).2)
  where
    sound : (x : Solution) → IsIn x (solutions s p (norm s.theory t)) → (x.left ≡ []) × (x.right ≡ []) × AreNorms s.theory x.values × Fits s p t (map (reading s.theory) x.values)
    sound x i =
        let a = from_keep (makes_bare s p) x (fitting s.theory p (norm s.theory t)) i in
        let b = bare_is s (with_values p (map (reading s.theory) x.values)) a.1 in
        let h = (fitting_are_listed s lawful p t).0 x a.0 in
        let n = same_instance s lawful p t bare x.values h.3 in
        (h.0, h.1, h.3, record { one_each = length-map (reading s.theory) x.values ∙ h.2; equal = norm_equal s lawful (with_values p (map (reading s.theory) x.values)) t b bare (sym n ∙ h.4) })

    complete : (vs : List Tree) → Fits s p t vs → IsIn (plain (map (norm s.theory) vs)) (solutions s p (norm s.theory t))
    complete vs h =
        in_keep (makes_bare s p) (plain (map (norm s.theory) vs)) (fitting s.theory p (norm s.theory t)) ((fitting_are_listed s lawful p t).1 vs h)
        (class_bare s lawful p t bare (plain (map (norm s.theory) vs)) vs refl (first_bare h.equal))

pub solutions_within_are_listed : SolutionsWithinAreListed
solutions_within_are_listed s lawful p t bare = (sound, complete, kept_ascend s.theory p (makes_bare s p) (fitting_within s.theory p (norm s.theory t)) (ascending_at s lawful p t bare (assoc_top s.theory (norm s.theory p)) refl))
  where
    sound : (x : Solution) → IsIn x (solutions_within s p (norm s.theory t)) → AreNorms s.theory x.values × FitsWithin s p t (map (reading s.theory) x.values) x.left x.right
    sound x i =
        let a = from_keep (makes_bare s p) x (fitting_within s.theory p (norm s.theory t)) i in
        fits_at s lawful p t bare (assoc_top s.theory (norm s.theory p)) refl x a.0 (bare_is s (with_values p (map (reading s.theory) x.values)) a.1)

    complete : (vs left right : List Tree) → FitsWithin s p t vs left right → IsIn (record { left = left; right = right; values = map (norm s.theory) vs }) (solutions_within s p (norm s.theory t))
    complete vs left right h =
        let a = class_at s lawful p t bare (assoc_top s.theory (norm s.theory p)) refl vs left right h in
        let x : Solution = record { left = left; right = right; values = map (norm s.theory) vs } in
        in_keep (makes_bare s p) x (fitting_within s.theory p (norm s.theory t)) a.0 (class_bare s lawful p t bare x vs refl a.1)
