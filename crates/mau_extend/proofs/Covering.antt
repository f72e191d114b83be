-- The shapes that are looked for cover all solutions with contexts.
use Rattle.std.proofs.Common.{◌≡◌, ◌⊎◌, ℕ, List, [], ◌∷◌, Bool, true, false, not, Option, None, Some, inl, inr, refl, sym, subst}
use Rattle.std.specs.declared.cmp.Ordering.TheVariants.{Less}
use Rattle.mau_terms.specs.Tree.{Tree}
use Rattle.mau_terms.specs.Norm.{norm}
use Rattle.mau_terms.specs.Reading.{reading}
use Rattle.mau_terms.specs.Solution.{FitsUnder, FitsAt, assoc_top, solution_cmp}
use Rattle.mau_terms.specs.declared.theory.Identity.{Identity}
use Rattle.mau_terms.specs.declared.theory.Theory.{Theory}
use Rattle.mau_signature.specs.Signature.{SignatureOf, theory_at, terms_over}
use Rattle.mau_sorts.specs.HasSort.{Known}
use Rattle.mau_listing.specs.Question.{Question, IsPart, IsSolution}
use Rattle.mau_listing.specs.Matcher.{Matcher}
use Rattle.mau_listing.specs.Next.{matcher_cmp, IsBehind, IsNext}
use Rattle.mau_listing.specs.Asked.{BySort}
use Rattle.mau_extend.specs.Widened.{CanBeArgument, HasShape, IsNextAmong}
use Rattle.mau_extend.specs.Extended.{IsNextOf, IsNextBeside}

-- ---- the order

module _ (th : ℕ → Theory) (p : Tree) where
  -- a left context comes behind none
  pub none_first : (x z : Matcher) → x.left ≡ [] → (c : Tree) (cs : List Tree) → z.left ≡ c ∷ cs → matcher_cmp th p x z ≡ Less
  none_first x z e c cs d = subst (λ l. solution_cmp th p (l, x.values) (z.left, z.values) ≡ Less) (sym e) (subst (λ l. solution_cmp th p ([], x.values) (l, z.values) ≡ Less) (sym d) refl)

module _ (s : SignatureOf) (known : Known) (q : Question) (last : Option Matcher) (f : ℕ) (top : assoc_top (theory_at s) (norm (theory_at s) q.pattern) ≡ Some f) where
  abbrev Is : Matcher → Type 0
  Is = IsPart s (BySort s known) q

  abbrev Next : Option Matcher → Type 0
  Next = IsNext (IsSolution true s (BySort s known) q) (matcher_cmp (theory_at s) q.pattern) last

  pub as_next : (o : Option Matcher) → IsNextAmong (IsPart s (BySort s known) q) (IsPart s (BySort s known) q) (matcher_cmp (theory_at s) q.pattern) last o → IsNext (IsSolution true s (BySort s known) q) (matcher_cmp (theory_at s) q.pattern) last o
  as_next None n = n
  as_next (Some x) n = record { is_one = n.is_one; behind = n.behind; least = n.least }

  alone : (x : Matcher) → IsPart s (BySort s known) q x → (theory_at s f).comm ≡ true → x.left ≡ []
  alone x is comm =
      let fits : FitsUnder (terms_over s) f q.pattern (reading (theory_at s) q.subject) is.bare x.left x.right =
      subst (λ o. FitsAt (terms_over s) o q.pattern (reading (theory_at s) q.subject) is.bare x.left x.right) top is.solves.0 in
      fits.rest_alone comm

  -- with an identity
  pub by_identity : (i : Identity) → (theory_at s f).id ≡ Some i → (o : Option Matcher) → IsNextOf s known q (not (theory_at s f).comm) true f last o → IsNext (IsSolution true s (BySort s known) q) (matcher_cmp (theory_at s) q.pattern) last o
  by_identity i e None n = λ x is. n x (is, shape x is)
    where
      shape : (x : Matcher) → IsPart s (BySort s known) q x → HasShape (not (theory_at s f).comm) true (theory_at s f) x
      shape x is = record { left = record { there = λ h d. (i, e); none = λ h. alone x is (commutes (theory_at s f).comm h) }; right = record { there = λ h d. (i, e); none = λ h. cc } }
        where
          commutes : (c : Bool) → not c ≡ false → c ≡ true
          commutes true h = refl
          commutes false h = cc
  by_identity i e (Some y) n = record { is_one = n.is_one; behind = n.behind; least = λ z is behind. n.least z (is, shape z is) behind }
    where
      shape : (x : Matcher) → IsPart s (BySort s known) q x → HasShape (not (theory_at s f).comm) true (theory_at s f) x
      shape x is = record { left = record { there = λ h d. (i, e); none = λ h. alone x is (commutes (theory_at s f).comm h) }; right = record { there = λ h d. (i, e); none = λ h. cc } }
        where
          commutes : (c : Bool) → not c ≡ false → c ≡ true
          commutes true h = refl
          commutes false h = cc

  no_left : (x : Matcher) → x.left ≡ [] → CanBeArgument false (theory_at s f) x.left
  no_left x e = record { there = λ h d. cc; none = λ h. e }

  -- under a commutative operator
  pub by_rest : (theory_at s f).comm ≡ true → (o : Option Matcher) → IsNextBeside s known q false f last o → IsNext (IsSolution true s (BySort s known) q) (matcher_cmp (theory_at s) q.pattern) last o
  by_rest comm None n = λ x is. n x (is, no_left x (alone x is comm))
  by_rest comm (Some y) n = record { is_one = n.is_one; behind = n.behind; least = λ z is behind. n.least z (is, no_left z (alone z is comm)) behind }

  -- a solution without a left context is the least of all
  pub by_beginning : (y : Matcher) → y.left ≡ [] → IsNextBeside s known q false f last (Some y) → IsNext (IsSolution true s (BySort s known) q) (matcher_cmp (theory_at s) q.pattern) last (Some y)
  by_beginning y e n = record { is_one = n.is_one; behind = n.behind; least = λ z is behind. by z is behind z.left refl }
    where
      by : (z : Matcher) → IsPart s (BySort s known) q z → IsBehind (matcher_cmp (theory_at s) q.pattern) last z → (l : List Tree) → z.left ≡ l → (matcher_cmp (theory_at s) q.pattern y z ≡ Less) ⊎ (y ≡ z)
      by z is behind [] d = n.least z (is, no_left z d) behind
      by z is behind (c ∷ cs) d = inl (none_first (theory_at s) q.pattern y z e c cs d)

  -- each solution has a left context or has none
  pub fronts : (x : Matcher) → IsPart s (BySort s known) q x → (IsPart s (BySort s known) q x × CanBeArgument false (theory_at s f) x.left) ⊎ (IsPart s (BySort s known) q x × CanBeArgument true (theory_at s f) x.left)
  fronts x is = by x.left refl
    where
      by : (l : List Tree) → x.left ≡ l → (IsPart s (BySort s known) q x × CanBeArgument false (theory_at s f) x.left) ⊎ (IsPart s (BySort s known) q x × CanBeArgument true (theory_at s f) x.left)
      by [] e = inl (is, no_left x e)
      by (c ∷ cs) e = inr (is, record { there = λ h d. cc; none = λ h. cc })
