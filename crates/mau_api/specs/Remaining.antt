-- Listings and the lists of solutions: what a listing has still to give, as a list, and that from its beginning on this is the computed list of
-- mau_evaluation, kept by sorts and bound values.
use Rattle.std.specs.Prelude.{◌≡◌, ◌↔◌, List, [], ◌∷◌, map, Bool, true, false, ◌&&◌, Option, None, Some}
use Rattle.std.specs.declared.cmp.Ordering.{Ordering}
use Rattle.std.specs.declared.cmp.Ordering.TheVariants.{Less}
use Rattle.mau_terms.specs.Tree.{Tree}
use Rattle.mau_terms.specs.Norm.{norm}
use Rattle.mau_terms.specs.Bare.{TermSignature, IsBare, IsLawful}
use Rattle.mau_terms.specs.Reading.{reading}
use Rattle.mau_terms.specs.Subst.{variables}
use Rattle.mau_terms.specs.Solution.{HaveSorts}
use Rattle.mau_terms.specs.Finite.{IsIn}
use Rattle.mau_signature.specs.Signature.{SignatureOf, theory_at, terms_over}
use Rattle.mau_sorts.specs.HasSort.{Known}
use Rattle.mau_listing.specs.Question.{Question, AgreesWith, IsSolution}
use Rattle.mau_listing.specs.Matcher.{Matcher}
use Rattle.mau_listing.specs.Next.{matcher_cmp, IsBehind, IsNext}
use Rattle.mau_listing.specs.Asked.{BySort}
use Rattle.mau_evaluation.specs.Listing.{Solution, keep, solutions, solutions_within}

abbrev pub as_matcher : Solution → Matcher
as_matcher x = record { left = x.left; right = x.right; values = x.values }

-- ---- what is left

-- each comes behind x
abbrev pub AllBehind : (Matcher → Matcher → Ordering) → Matcher → List Matcher → Type 0
AllBehind cmp x [] = Unit {0}
AllBehind cmp x (y ∷ ys) = (cmp x y ≡ Less) × AllBehind cmp x ys

-- each stands before all behind it
abbrev pub Ascend : (Matcher → Matcher → Ordering) → List Matcher → Type 0
Ascend cmp [] = Unit {0}
Ascend cmp (x ∷ xs) = AllBehind cmp x xs × Ascend cmp xs

-- xs are just those behind the last one of which `Is` holds, in order
pub record AreLeft (Is : Matcher → Type 0) (cmp : Matcher → Matcher → Ordering) (last : Option Matcher) (xs : List Matcher) : Type 0 where
  pub each : (x : Matcher) → IsIn x xs ↔ (Is x × IsBehind cmp last x)
  pub ascend : Ascend cmp xs

abbrev pub first_left : List Matcher → Option Matcher
first_left [] = None
first_left (x ∷ xs) = Some x

-- what is left of a listing, with contexts or without, behind its last solution
abbrev pub AreLeftOf : Bool → SignatureOf → Known → Question → Option Matcher → List Matcher → Type 0
AreLeftOf c s known q last xs = AreLeft (IsSolution c s (BySort s known) q) (matcher_cmp (theory_at s) q.pattern) last xs

-- the next one is the first of what is left
abbrev pub NextIsFirst : Type 0
NextIsFirst =
    (c : Bool) (s : SignatureOf) (known : Known) (q : Question) (last : Option Matcher) (xs : List Matcher) → AreLeftOf c s known q last xs → (o : Option Matcher) →
    IsNext (IsSolution c s (BySort s known) q) (matcher_cmp (theory_at s) q.pattern) last o → o ≡ first_left xs

-- and behind it is left what stands behind it
abbrev pub RestIsLeft : Type 0
RestIsLeft =
    (c : Bool) (s : SignatureOf) (known : Known) (q : Question) (last : Option Matcher) (x : Matcher) (xs : List Matcher) → AreLeftOf c s known q last (x ∷ xs) →
    AreLeftOf c s known q (Some x) xs

-- ---- computed lists

-- the computed list of a pattern and a normal form, with contexts or without
abbrev pub listed : Bool → TermSignature → Tree → Tree → List Solution
listed false s p t = solutions s p t
listed true s p t = solutions_within s p t

-- the values have the sorts of the pattern's variables, and agree with those that they had beforehand
abbrev pub IsAccepted : SignatureOf → Known → Question → Solution → Type 0
IsAccepted s known q x = HaveSorts (BySort s known) (variables q.pattern) x.values × AgreesWith q.pattern q.bound x.values

-- the listed solutions that a test lets through, where it tells which are accepted, are just what a listing has to give from its beginning on
abbrev pub ListedAreLeft : Type 0
ListedAreLeft =
    (c : Bool) (s : SignatureOf) → IsLawful (terms_over s) → (known : Known) (q : Question) → norm (theory_at s) q.subject ≡ q.subject →
    IsBare (terms_over s) (reading (theory_at s) q.subject) → (test : Solution → Bool) →
    ((x : Solution) → IsIn x (listed c (terms_over s) q.pattern q.subject) → (test x ≡ true) ↔ IsAccepted s known q x) →
    AreLeftOf c s known q None (map as_matcher (keep test (listed c (terms_over s) q.pattern q.subject)))

-- ---- solutions with empty contexts

abbrev pub is_empty : List Tree → Bool
is_empty [] = true
is_empty (t ∷ ts) = false

abbrev pub is_whole : Solution → Bool
is_whole x = is_empty x.left && is_empty x.right

-- the solutions without contexts are those with contexts whose contexts are empty
abbrev pub WholesAreKept : Type 0
WholesAreKept =
    (s : TermSignature) → IsLawful s → (p t : Tree) → IsBare s t → keep is_whole (solutions_within s p (norm s.theory t)) ≡ solutions s p (norm s.theory t)
