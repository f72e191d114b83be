-- The sorts that a term has lie in its kind.
use Rattle.std.proofs.Common.{◌≡◌, ℕ, List, [], ◌∷◌, Bool, true, false, ◌&&◌, ◌==◌, Option, Some, None, inl, inr, refl, sym, ap, ◌∙◌, subst, if◌then◌else◌}
use Rattle.std.specs.Prelude.{Contains, nat_lt, nat_le, length}
use Rattle.std.specs.Bool.{MatchBool}
use Rattle.std.specs.Option.{option_map}
use Rattle.std.proofs.lemmas.List.Elements.{All-contains}
use Rattle.mau_poset.specs.Order.{Hierarchy, IsAtOrBelow, kind_of}
use Rattle.mau_poset.proofs.Orders.{kind_of-kind, kind_of-above, kind_of-chain}
use Rattle.mau_terms.specs.Tree.{Tree, variable, numeral, apply, Trees, no_trees, tree, node}
use Rattle.mau_terms.specs.Norm.{finish}
use Rattle.mau_terms.specs.Bare.{IsBareIn}
use Rattle.mau_terms.specs.Reading.{reading}
use Rattle.mau_terms.proofs.Normal.{IsNormal}
use Rattle.mau_terms.proofs.Wholes.{not_alone, reading_top}
use Rattle.mau_signature.proofs.Operators.{is_operator}
use Rattle.mau_signature.specs.Signature.{SignatureOf, IsOperator, IsAlike, declarations_at, theory_at, result_of, terms_over}
use Rattle.mau_sigcheck.specs.Accepted.{IsSortOfNumeral}
use Rattle.mau_sigcheck.specs.Built.{IsBuiltAndAccepted}
use Rattle.mau_sorts.specs.HasSort.{Known, IsKnown, HasSort, AllHave, ListHas, Gives, OfTwo}

-- a kind is its own
pub kind_of_kind : (h : Hierarchy) (a : ℕ) → kind_of h (kind_of h a) ≡ kind_of h a
kind_of_kind h a = kind_of-kind h (kind_of h a) (kind_of-above h a)

-- what terms lie in is a kind
pub is_kind : (s : SignatureOf) (t : Tree) (k : ℕ) → IsBareIn (terms_over s) t k → kind_of s.hierarchy k ≡ k
is_kind s (variable i r) k b = subst (λ q. kind_of s.hierarchy q ≡ q) b.2 (kind_of_kind s.hierarchy r)
is_kind s (numeral n) k b = by s.numerals b.1
  where
    by : (o : Option (ℕ × ℕ)) → option_map (λ p. kind_of s.hierarchy p.0) o ≡ Some k → kind_of s.hierarchy k ≡ k
    by None e = cc
    by (Some p) e = let same : kind_of s.hierarchy p.0 ≡ k = cc in subst (λ q. kind_of s.hierarchy q ≡ q) same (kind_of_kind s.hierarchy p.0)
is_kind s (apply f ts) k b = subst (λ q. kind_of s.hierarchy q ≡ q) b.1 (kind_of_kind s.hierarchy (result_of (declarations_at s f)))

module _ (s : SignatureOf) (accepted : IsBuiltAndAccepted s) where
  pub below_kind : (q r : ℕ) → IsAtOrBelow s.hierarchy q r → kind_of s.hierarchy r ≡ kind_of s.hierarchy q
  below_kind q r (inl chain) = sym (kind_of-chain s.hierarchy accepted.poset.within chain)
  below_kind q r (inr e) = ap (kind_of s.hierarchy) (sym e) ∙ kind_of_kind s.hierarchy q

  pub gives_kind : (f : ℕ) → IsOperator s f → (P : List ℕ → Type 0) (r : ℕ) → Gives s f P r → kind_of s.hierarchy r ≡ kind_of s.hierarchy (result_of (declarations_at s f))
  gives_kind f is P r (inl d) =
      below_kind d.declaration.result r d.below
      ∙ (All-contains (IsAlike s.hierarchy (declarations_at s f)) (declarations_at s f) d.declaration (accepted.declared f is).alike d.declared).result
  gives_kind f is P r (inr e) = ap (kind_of s.hierarchy) (sym e) ∙ kind_of_kind s.hierarchy (result_of (declarations_at s f))

  numeral_kind : (n k q : ℕ) (o : Option (ℕ × ℕ)) → s.numerals ≡ o → IsSortOfNumeral o n q → option_map (λ p. kind_of s.hierarchy p.0) o ≡ Some k → kind_of s.hierarchy q ≡ k
  numeral_kind n k q None e is b = absurd is
  numeral_kind n k q (Some p) e is b = subst (λ x. kind_of s.hierarchy x ≡ k) is (by (n == 0))
    where
      first : kind_of s.hierarchy p.0 ≡ k
      first = cc

      by : (c : Bool) → kind_of s.hierarchy (if c then p.0 else p.1) ≡ k
      by true = first
      by false = sym (accepted.numerals p e).2 ∙ first

  -- what else is known of terms lies in their kinds
  abbrev pub AreInKinds : Known → Type 0
  AreInKinds known = (t : Tree) (r k : ℕ) → Contains known (t, r) → IsBareIn (terms_over s) (reading (theory_at s) t) k → kind_of s.hierarchy r ≡ k

  module _ (known : Known) (kinds : AreInKinds known) where
    known_kind : (t : Tree) (r k : ℕ) → IsKnown s.hierarchy known t r → IsBareIn (terms_over s) (reading (theory_at s) t) k → kind_of s.hierarchy r ≡ k
    known_kind t r k (q, there, low) b = below_kind q r low ∙ kinds t q k there b

    list_kind : (f : ℕ) → IsOperator s f → (ts : Trees) (r : ℕ) → IsNormal (theory_at s) (apply f ts) → (theory_at s f).assoc ≡ true → ListHas s known f ts r →
        kind_of s.hierarchy r ≡ kind_of s.hierarchy (result_of (declarations_at s f))
    list_kind f is no_trees r n a h = absurd h
    list_kind f is (tree t no_trees) r n a h = absurd (not_alone (theory_at s f).id (theory_at s f).succ f t (subst (λ c. finish c (theory_at s f).id (theory_at s f).succ f (t ∷ []) ≡ node f (t ∷ [])) a n.1.long))
    list_kind f is (tree t (tree u us)) r n a h = gives_kind f is (λ rs. OfTwo (λ a b. HasSort s known t a × ListHas s known f (tree u us) b) rs) r h

    -- a sort of a normal form lies in its kind
    pub sort_kind : (t : Tree) (r k : ℕ) → IsNormal (theory_at s) t → IsBareIn (terms_over s) (reading (theory_at s) t) k → HasSort s known t r → kind_of s.hierarchy r ≡ k
    sort_kind (variable i p) r k n b (inl low) = below_kind p r low ∙ b.2
    sort_kind (variable i p) r k n b (inr h) = known_kind (variable i p) r k h b
    sort_kind (numeral m) r k n b (inl (q, is, low)) = below_kind q r low ∙ numeral_kind m k q s.numerals refl is b.1
    sort_kind (numeral m) r k n b (inr h) = known_kind (numeral m) r k h b
    sort_kind (apply f ts) r k n b (inr h) = known_kind (apply f ts) r k h b
    sort_kind (apply f ts) r k n b (inl h) = by (theory_at s f).assoc refl h ∙ top.1
      where
        top : ((nat_lt 0 f && nat_le f (length s.declarations)) ≡ true) × (kind_of s.hierarchy (result_of (declarations_at s f)) ≡ k)
        top = reading_top (terms_over s) f ts k n b

        by : (c : Bool) → (theory_at s f).assoc ≡ c → MatchBool c (ListHas s known f ts r) (Gives s f (λ rs. AllHave s known ts rs) r) → kind_of s.hierarchy r ≡ kind_of s.hierarchy (result_of (declarations_at s f))
        by true a g = list_kind f (is_operator s f top.0) ts r n a g
        by false a g = gives_kind f (is_operator s f top.0) (λ rs. AllHave s known ts rs) r g
