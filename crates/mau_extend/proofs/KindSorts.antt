-- A term of a kind has the kind for a sort.
use Rattle.std.proofs.Common.{◌≡◌, ℕ, [], ◌∷◌, Bool, true, false, ◌==◌, if◌then◌else◌, Option, None, Some, inl, inr, refl, sym, ◌∙◌, ap, subst}
use Rattle.std.specs.Option.{option_map}
use Rattle.std.specs.Bool.{MatchBool}
use Rattle.mau_terms.specs.Tree.{Tree, variable, numeral, apply, Trees, no_trees, tree, node}
use Rattle.mau_terms.specs.Norm.{finish}
use Rattle.mau_terms.specs.Bare.{IsBareIn, AreBareIn, IsLawful}
use Rattle.mau_terms.specs.Reading.{nest, reading}
use Rattle.mau_terms.proofs.Normal.{IsNormal}
use Rattle.mau_terms.proofs.Wholes.{reading_top, not_alone}
use Rattle.mau_poset.specs.Order.{kind_of}
use Rattle.mau_signature.specs.Signature.{SignatureOf, theory_at, terms_over, declarations_at, result_of}
use Rattle.mau_sigcheck.specs.Accepted.{IsSortOfNumeral}
use Rattle.mau_sorts.specs.HasSort.{Known, HasSort, AllHave, ListHas, Gives}

module _ (s : SignatureOf) (lawful : IsLawful (terms_over s)) (kinds : (p : ℕ × ℕ) → s.numerals ≡ Some p → kind_of s.hierarchy p.0 ≡ kind_of s.hierarchy p.1) (known : Known) where
  numeral_kind : (m n : ℕ) (o : Option (ℕ × ℕ)) → s.numerals ≡ o → option_map (λ p. kind_of s.hierarchy p.0) s.numerals ≡ Some n → HasSort s known (numeral m) n
  numeral_kind m n None e k = let none : None ≡ Some n = sym (ap (option_map (λ p. kind_of s.hierarchy p.0)) e) ∙ k in cc
  numeral_kind m n (Some p) e k =
      let same : Some (kind_of s.hierarchy p.0) ≡ Some n = sym (ap (option_map (λ p. kind_of s.hierarchy p.0)) e) ∙ k in
      let first : kind_of s.hierarchy p.0 ≡ n = cc in
      inl (if m == 0 then p.0 else p.1, subst (λ x. IsSortOfNumeral x m (if m == 0 then p.0 else p.1)) (sym e) refl, inr (by (m == 0) first))
    where
      by : (b : Bool) → kind_of s.hierarchy p.0 ≡ n → kind_of s.hierarchy (if b then p.0 else p.1) ≡ n
      by true k = k
      by false k = sym (kinds p e) ∙ k

  applied_kind : (g : ℕ) (ts : Trees) (n : ℕ) → IsNormal (theory_at s) (apply g ts) → IsBareIn (terms_over s) (reading (theory_at s) (apply g ts)) n → (b : Bool) → (theory_at s g).assoc ≡ b
      → kind_of s.hierarchy (result_of (declarations_at s g)) ≡ n → MatchBool b (ListHas s known g ts n) (Gives s g (λ rs. AllHave s known ts rs) n)
  applied_kind g ts n m b false a e = inr e
  applied_kind g no_trees n m b true a e =
      let d : IsBareIn (terms_over s) (node g []) n = subst (λ c. IsBareIn (terms_over s) (nest c g []) n) a b in
      absurd (subst (AreBareIn (terms_over s) no_trees) (lawful.assoc_kinds g a) d.2)
  applied_kind g (tree t no_trees) n m b true a e = absurd (not_alone (theory_at s g).id (theory_at s g).succ g t (subst (λ c. finish c (theory_at s g).id (theory_at s g).succ g (t ∷ []) ≡ node g (t ∷ [])) a m.1.long))
  applied_kind g (tree t (tree u us)) n m b true a e = inr e

  pub has_kind : (v : Tree) (n : ℕ) → IsNormal (theory_at s) v → IsBareIn (terms_over s) (reading (theory_at s) v) n → HasSort s known v n
  has_kind (variable i r) n m b = inl (inr b.2)
  has_kind (numeral k) n m b = numeral_kind k n s.numerals refl b.1
  has_kind (apply g ts) n m b = inl (applied_kind g ts n m b (theory_at s g).assoc refl (reading_top (terms_over s) g ts n m b).1)
