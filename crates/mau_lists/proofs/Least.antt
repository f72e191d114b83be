-- The least of some lists is found from the first one on as well as from the last.
use Rattle.std.proofs.Common.{◌≡◌, List, Option, Some, None, refl, sym, ◌∙◌, ap}
use Rattle.std.specs.declared.cmp.Ordering.{Ordering}
use Rattle.std.specs.declared.cmp.Ordering.TheVariants.{Less, Equal, Greater}
use Rattle.std.specs.Ordering.{ordering_reverse}
use Rattle.std.specs.Cmp.{IsTotalOrder, alike_right}
use Rattle.std.specs.Cmp.Lexicographic.{slice_cmp, lists_total}
use Rattle.mau_lists.specs.Following.{choose, least_of}

module _ {A : Type 0} {cmp : A → A → Ordering} (o : IsTotalOrder cmp) where
  total : IsTotalOrder (slice_cmp cmp)
  total = lists_total o

  abbrev pick : Ordering → List A → List A → Option (List A)
  pick o s t = choose o (Some s) (Some s) (Some t)

  turned : (s t : List A) → slice_cmp cmp s t ≡ Greater → slice_cmp cmp t s ≡ Less
  turned s t e = total.antisymm t s ∙ ap ordering_reverse e

  turned_back : (s t : List A) → slice_cmp cmp t s ≡ Less → slice_cmp cmp s t ≡ Greater
  turned_back s t e = total.antisymm s t ∙ ap ordering_reverse e

  three : (s t u : List A) (p q : Ordering) → slice_cmp cmp s t ≡ p → slice_cmp cmp t u ≡ q → least_of cmp (Some s) (pick q t u) ≡ least_of cmp (pick p s t) (Some u)
  three s t u Less Less e h = ap (λ w. pick w s t) e ∙ sym (ap (λ w. pick w s u) (total.trans s t u e h))
  three s t u Less Equal e h = ap (λ w. pick w s t) e ∙ sym (ap (λ w. pick w s u) (sym (alike_right total t u s h) ∙ e))
  three s t u Less Greater e h = refl
  three s t u Equal Less e h = ap (λ w. pick w s t) e ∙ sym (ap (λ w. pick w s u) (total.congr s t u e ∙ h))
  three s t u Equal Equal e h = ap (λ w. pick w s t) e ∙ sym (ap (λ w. pick w s u) (total.congr s t u e ∙ h))
  three s t u Equal Greater e h = refl
  three s t u Greater Less e h = ap (λ w. pick w s t) e ∙ sym (ap (λ w. pick w t u) h)
  three s t u Greater Equal e h = ap (λ w. pick w s t) e ∙ sym (ap (λ w. pick w t u) h)
  three s t u Greater Greater e h =
      ap (λ w. pick w s u) (turned_back s u (total.trans u t s (turned t u h) (turned s t e))) ∙ sym (ap (λ w. pick w t u) h)

  of_none : (s t : List A) (p : Ordering) → pick p s t ≡ least_of cmp (pick p s t) None
  of_none s t Less = refl
  of_none s t Equal = refl
  of_none s t Greater = refl

  pub least_of-assoc : (a b c : Option (List A)) → least_of cmp a (least_of cmp b c) ≡ least_of cmp (least_of cmp a b) c
  least_of-assoc None b c = refl
  least_of-assoc (Some s) None c = refl
  least_of-assoc (Some s) (Some t) None = of_none s t (slice_cmp cmp s t)
  least_of-assoc (Some s) (Some t) (Some u) = three s t u (slice_cmp cmp s t) (slice_cmp cmp t u) refl refl

  pub least_of-none : (a : Option (List A)) → least_of cmp a None ≡ a
  least_of-none None = refl
  least_of-none (Some s) = refl
