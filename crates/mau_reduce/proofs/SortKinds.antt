-- A term that has a sort is of the kind of that sort: by declarations, and by what is known besides, where that gives terms sorts of their kinds.
use Rattle.std.proofs.Common.{◌≡◌, ℕ, ◌≤◌, ◌==◌, List, [], ◌∷◌, Bool, true, false, All, Contains, Option, Some, None, length, if◌then◌else◌, ◌⊎◌, inl, inr, refl, sym, ap, ◌∙◌, subst, arith}
use Rattle.std.specs.Bool.{MatchBool}
use Rattle.std.specs.Option.{option_map}
use Rattle.std.proofs.lemmas.List.Elements.{All-contains}
use Rattle.mau_terms.specs.Tree.{Tree, variable, numeral, apply, Trees, no_trees, tree, list_of}
use Rattle.mau_terms.specs.Norm.{norm}
use Rattle.mau_terms.specs.Bare.{IsBareIn, IsBare, IsLawful}
use Rattle.mau_terms.specs.Reading.{reading}
use Rattle.mau_terms.specs.Subst.{Variable}
use Rattle.mau_terms.specs.Solution.{HaveSorts}
use Rattle.mau_terms.specs.Finite.{IsIn}
use Rattle.mau_terms.proofs.Wholes.{reading_top}
use Rattle.mau_poset.specs.Order.{Hierarchy, IsAtOrBelow, kind_of}
use Rattle.mau_poset.proofs.Orders.{kind_of-chain, kind_of-kind, kind_of-above}
use Rattle.mau_signature.specs.Signature.{SignatureOf, declarations_at, result_of, theory_at, terms_over, IsAlike}
use Rattle.mau_signature.specs.OverSignature.{IsTreeOver}
use Rattle.mau_sigcheck.specs.Accepted.{IsSortOfNumeral}
use Rattle.mau_sorts.specs.HasSort.{Known, HasSort, IsKnown, Gives, ListHas, AllHave, OfTwo}
use Rattle.mau_sigcheck.specs.Built.{IsBuiltAndAccepted}
use Rattle.mau_listing.specs.Asked.{BySort}
use Rattle.mau_listing.proofs.Answered.{normal_is}
use Rattle.mau_reduce.specs.Bindings.{HaveKinds}
use Rattle.mau_reduce.specs.Tables.{IsOfKind}

module _ (s : SignatureOf) (accepted : IsBuiltAndAccepted s) (lawful : IsLawful (terms_over s)) where
  abbrev h : Hierarchy
  h = s.hierarchy

  pub kind_above : (a r : ℕ) → IsAtOrBelow h a r → kind_of h r ≡ kind_of h a
  kind_above a r (inl chain) = sym (kind_of-chain h accepted.poset.within chain)
  kind_above a r (inr k) = ap (kind_of h) (sym k) ∙ kind_of-kind h (kind_of h a) (kind_of-above h a)

  given_kind : (f : ℕ) (P : List ℕ → Type 0) (r : ℕ) → All (IsAlike h (declarations_at s f)) (declarations_at s f) → Gives s f P r → kind_of h r ≡ kind_of h (result_of (declarations_at s f))
  given_kind f P r alike (inl d) = kind_above d.declaration.result r d.below ∙ (All-contains (IsAlike h (declarations_at s f)) (declarations_at s f) d.declaration alike d.declared).result
  given_kind f P r alike (inr k) = ap (kind_of h) (sym k) ∙ kind_of-kind h (kind_of h (result_of (declarations_at s f))) (kind_of-above h (result_of (declarations_at s f)))

  pub numeral_kind : (n q j : ℕ) (o : Option (ℕ × ℕ)) → s.numerals ≡ o → IsSortOfNumeral o n q → option_map (λ p. kind_of h p.0) o ≡ Some j → kind_of h q ≡ j
  numeral_kind n q j None e is k = absurd is
  numeral_kind n q j (Some p) e is k =
      let first : kind_of h p.0 ≡ j = cc in
      ap (kind_of h) (sym is) ∙ by (n == 0) first
    where
      by : (b : Bool) → kind_of h p.0 ≡ j → kind_of h (if b then p.0 else p.1) ≡ j
      by true k = k
      by false k = sym (accepted.numerals p e).2 ∙ k

  module _ (known : Known) (kinds : (t : Tree) (r : ℕ) → Contains known (t, r) → IsOfKind s t r) where
    by_declared : (t : Tree) (D : Type 0) (r j : ℕ) → norm (theory_at s) t ≡ t → IsBareIn (terms_over s) (reading (theory_at s) t) j → (D → kind_of h r ≡ j) → D ⊎ IsKnown h known t r → kind_of h r ≡ j
    by_declared t D r j n b f (inl d) = f d
    by_declared t D r j n b f (inr k) = kind_above k.0 r k.2 ∙ kinds t k.0 k.1 j n b

    pub sort_kind : (t : Tree) → norm (theory_at s) t ≡ t → IsTreeOver s t → (r : ℕ) → HasSort s known t r → (j : ℕ) → IsBareIn (terms_over s) (reading (theory_at s) t) j → kind_of h r ≡ j
    sort_kind (variable i p) n over r has j b = by_declared (variable i p) _ r j n b (λ below. kind_above p r below ∙ b.2) has
    sort_kind (numeral m) n over r has j b = by_declared (numeral m) _ r j n b (λ q. kind_above q.0 r q.2 ∙ numeral_kind m q.0 j s.numerals refl q.1 b.1) has
    sort_kind (apply f ts) n over r has j b =
        by_declared (apply f ts) _ r j n b (λ d. by (theory_at s f).assoc refl ts over.1 d ∙ (reading_top (terms_over s) f ts j (normal_is (theory_at s) lawful.theories (apply f ts) n) b).1) has
      where
        alike : All (IsAlike h (declarations_at s f)) (declarations_at s f)
        alike = (accepted.declared f over.0).alike

        by : (a : Bool) → (theory_at s f).assoc ≡ a → (us : Trees) → ((theory_at s f).assoc ≡ true → 2 ≤ length (list_of us)) → MatchBool a (ListHas s known f us r) (Gives s f (λ rs. AllHave s known us rs) r) →
            kind_of h r ≡ kind_of h (result_of (declarations_at s f))
        by false e us two g = given_kind f (λ rs. AllHave s known us rs) r alike g
        by true e no_trees two g = absurd g
        by true e (tree t no_trees) two g = absurd (omega (arith, two e))
        by true e (tree t (tree u us)) two g = given_kind f (λ rs. OfTwo (λ a b. HasSort s known t a × ListHas s known f (tree u us) b) rs) r alike g

    -- values that have the sorts of variables are of their kinds
    pub have_kinds_by : (xs : List Variable) (vs : List Tree) → ((v : Tree) → IsIn v vs → (norm (theory_at s) v ≡ v) × IsTreeOver s v × IsBare (terms_over s) (reading (theory_at s) v)) → HaveSorts (BySort s known) xs vs → HaveKinds s xs vs
    have_kinds_by [] vs each have = tt
    have_kinds_by (x ∷ xs) [] each have = have
    have_kinds_by (x ∷ xs) (v ∷ vs) each have =
        let is = each v (inl refl) in
        let k = sort_kind v is.0 is.1 x.1 have.0 is.2.0 is.2.1 in (
          subst (IsBareIn (terms_over s) (reading (theory_at s) v)) (sym k) is.2.1,
          have_kinds_by xs vs (λ w i. each w (inr i)) have.1,
        )

  -- by declarations alone
  pub have_kinds : (xs : List Variable) (vs : List Tree) → ((v : Tree) → IsIn v vs → (norm (theory_at s) v ≡ v) × IsTreeOver s v × IsBare (terms_over s) (reading (theory_at s) v)) → HaveSorts (BySort s []) xs vs → HaveKinds s xs vs
  have_kinds = have_kinds_by [] (λ t r c. absurd (omega (arith, c.1)))
