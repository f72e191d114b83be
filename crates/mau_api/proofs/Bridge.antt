-- The listed solutions that have their sorts are just what a listing gives.
use Rattle.std.proofs.Common.{◌≡◌, ◌↔◌, ℕ, List, [], ◌∷◌, map, Bool, true, false, None, sym, subst}
use Rattle.mau_terms.specs.Tree.{Tree}
use Rattle.mau_terms.specs.Norm.{norm}
use Rattle.mau_terms.specs.Lawful.{AreLawful}
use Rattle.mau_terms.specs.Bare.{IsBare, IsLawful}
use Rattle.mau_terms.specs.Reading.{reading}
use Rattle.mau_terms.specs.Laws.{AreNorms}
use Rattle.mau_terms.specs.Subst.{Variable, variables}
use Rattle.mau_terms.specs.Solution.{HaveSorts}
use Rattle.mau_terms.specs.Finite.{IsIn}
use Rattle.mau_terms.specs.declared.theory.Theory.{Theory}
use Rattle.mau_signature.specs.Signature.{SignatureOf, theory_at, terms_over}
use Rattle.mau_sorts.specs.HasSort.{Known}
use Rattle.mau_listing.specs.Question.{Question, OfNorm, AgreesWith, IsSolution, IsPart, IsWhole}
use Rattle.mau_listing.specs.Matcher.{Matcher}
use Rattle.mau_listing.specs.Next.{matcher_cmp}
use Rattle.mau_listing.specs.Asked.{BySort}
use Rattle.mau_evaluation.specs.Listing.{Solution, plain, keep, solutions, solutions_within, compare, IsAscending, AllAfter}
use Rattle.mau_evaluation.proofs.Listed.{in_map, from_map, in_keep, from_keep}
use Rattle.mau_evaluation.proofs.Solved.{kept_ascend, solutions_are_listed, solutions_within_are_listed}
use Rattle.mau_evaluation.proofs.BareTerms.{norm-reading-is, norms-readings}
use Rattle.mau_api.specs.Remaining.{as_matcher, AllBehind, Ascend, AreLeftOf, listed, IsAccepted, ListedAreLeft}

-- ---- sorts of values, and of the bare terms that they are read as

module _ (s : SignatureOf) (P : ℕ → Tree → Type 0) where
  sorts_of_norms : (xs : List Variable) (vs : List Tree) → HaveSorts (OfNorm P s) xs vs → HaveSorts P xs (map (norm (theory_at s)) vs)
  sorts_of_norms [] vs h = tt
  sorts_of_norms (x ∷ xs) [] h = h
  sorts_of_norms (x ∷ xs) (v ∷ vs) h = (h.0, sorts_of_norms xs vs h.1)

  sorts_of_readings : AreLawful (theory_at s) → (xs : List Variable) (vs : List Tree) → AreNorms (theory_at s) vs → HaveSorts P xs vs → HaveSorts (OfNorm P s) xs (map (reading (theory_at s)) vs)
  sorts_of_readings lawful [] vs n h = tt
  sorts_of_readings lawful (x ∷ xs) [] n h = h
  sorts_of_readings lawful (x ∷ xs) (v ∷ vs) n h = (subst (P x.1) (sym (norm-reading-is (theory_at s) lawful v n.0)) h.0, sorts_of_readings lawful xs vs n.1 h.1)

-- ---- ascending lists

module _ (th : ℕ → Theory) (p : Tree) where
  all_matchers : (x : Solution) (ys : List Solution) → AllAfter (compare th p) x ys → AllBehind (matcher_cmp th p) (as_matcher x) (map as_matcher ys)
  all_matchers x [] a = tt
  all_matchers x (y ∷ ys) a = (a.0, all_matchers x ys a.1)

  matchers_ascend : (ys : List Solution) → IsAscending (compare th p) ys → Ascend (matcher_cmp th p) (map as_matcher ys)
  matchers_ascend [] a = tt
  matchers_ascend (y ∷ ys) a = (all_matchers y ys a.0, matchers_ascend ys a.1)

-- ---- solutions

module _ (s : SignatureOf) (lawful : IsLawful (terms_over s)) (known : Known) (q : Question) (normal : norm (theory_at s) q.subject ≡ q.subject) (bare : IsBare (terms_over s) (reading (theory_at s) q.subject)) where
  abbrev th : ℕ → Theory
  th = theory_at s

  abbrev p : Tree
  p = q.pattern

  abbrev sub : Tree
  sub = reading th q.subject

  sub_norm : norm th sub ≡ q.subject
  sub_norm = norm-reading-is th lawful.theories q.subject normal

  module _ (c : Bool) (test : Solution → Bool) (tells : (x : Solution) → IsIn x (listed c (terms_over s) p q.subject) → (test x ≡ true) ↔ IsAccepted s known q x) where
    abbrev all : List Solution
    all = listed c (terms_over s) p q.subject

    are_left : ((x : Solution) → IsIn x (keep test all) → IsSolution c s (BySort s known) q (as_matcher x)) → ((x : Matcher) → IsSolution c s (BySort s known) q x → IsIn x (map as_matcher (keep test all))) →
        IsAscending (compare th p) all → AreLeftOf c s known q None (map as_matcher (keep test all))
    are_left sound complete ascending = record {
      each = λ x. (
        (λ i. let z = from_map as_matcher (keep test all) x i in (subst (IsSolution c s (BySort s known) q) (sym z.2) (sound z.0 z.1), tt)),
        (λ h. complete x h.0),
      );
      ascend = matchers_ascend th p (keep test all) (kept_ascend th p test all ascending);
    }

    -- an accepted solution that is listed
    kept : (x : Matcher) (bare : List Tree) → map (norm th) bare ≡ x.values → HaveSorts (OfNorm (BySort s known) s) (variables p) bare → AgreesWith p q.bound x.values →
        IsIn (record { left = x.left; right = x.right; values = map (norm th) bare }) all → IsIn x (map as_matcher (keep test all))
    kept x bare values sorts agrees i =
        let y : Solution = record { left = x.left; right = x.right; values = map (norm th) bare } in
        let e : test y ≡ true = (tells y i).1 (sorts_of_norms s (BySort s known) (variables p) bare sorts, subst (AgreesWith p q.bound) (sym values) agrees) in
        let same : as_matcher y ≡ x = λ k. record { left = x.left; right = x.right; values = values k } in
        subst (λ z. IsIn z (map as_matcher (keep test all))) same (in_map as_matcher y (keep test all) (in_keep test y all i e))

  module _ (test : Solution → Bool) (tells : (x : Solution) → IsIn x (solutions_within (terms_over s) p q.subject) → (test x ≡ true) ↔ IsAccepted s known q x) where
    sound_part : (x : Solution) → IsIn x (keep test (solutions_within (terms_over s) p q.subject)) → IsPart s (BySort s known) q (as_matcher x)
    sound_part x i =
        let a = from_keep test x (solutions_within (terms_over s) p q.subject) i in
        let h = (solutions_within_are_listed (terms_over s) lawful p sub bare).0 x (subst (λ t. IsIn x (solutions_within (terms_over s) p t)) (sym sub_norm) a.0) in
        let c = (tells x a.0).0 a.1 in
        record {
          bare = map (reading th) x.values;
          values = norms-readings th lawful.theories x.values h.0;
          solves = (h.1, sorts_of_readings s (BySort s known) lawful.theories (variables p) x.values h.0 c.0);
          agrees = c.1;
        }

    complete_part : (x : Matcher) → IsPart s (BySort s known) q x → IsIn x (map as_matcher (keep test (solutions_within (terms_over s) p q.subject)))
    complete_part x is =
        kept true test tells x is.bare is.values is.solves.1 is.agrees
        (subst (λ t. IsIn (record { left = x.left; right = x.right; values = map (norm th) is.bare }) (solutions_within (terms_over s) p t)) sub_norm ((solutions_within_are_listed (terms_over s) lawful p sub bare).1 is.bare x.left x.right is.solves.0))

    parts_left : AreLeftOf true s known q None (map as_matcher (keep test (solutions_within (terms_over s) p q.subject)))
    parts_left = are_left true test tells sound_part complete_part (subst (λ t. IsAscending (compare th p) (solutions_within (terms_over s) p t)) sub_norm ((solutions_within_are_listed (terms_over s) lawful p sub bare).2))

  module _ (test : Solution → Bool) (tells : (x : Solution) → IsIn x (solutions (terms_over s) p q.subject) → (test x ≡ true) ↔ IsAccepted s known q x) where
    sound_whole : (x : Solution) → IsIn x (keep test (solutions (terms_over s) p q.subject)) → IsWhole s (BySort s known) q (as_matcher x)
    sound_whole x i =
        let a = from_keep test x (solutions (terms_over s) p q.subject) i in
        let h = (solutions_are_listed (terms_over s) lawful p sub bare).0 x (subst (λ t. IsIn x (solutions (terms_over s) p t)) (sym sub_norm) a.0) in
        let c = (tells x a.0).0 a.1 in
        record {
          bare = map (reading th) x.values;
          values = norms-readings th lawful.theories x.values h.2;
          solves = (h.3, sorts_of_readings s (BySort s known) lawful.theories (variables p) x.values h.2 c.0);
          agrees = c.1;
          no_left = h.0;
          no_right = h.1;
        }

    complete_whole : (x : Matcher) → IsWhole s (BySort s known) q x → IsIn x (map as_matcher (keep test (solutions (terms_over s) p q.subject)))
    complete_whole x is =
        let plain_is : plain (map (norm th) is.bare) ≡ record { left = x.left; right = x.right; values = map (norm th) is.bare } = λ i. record { left = sym is.no_left i; right = sym is.no_right i; values = map (norm th) is.bare } in
        kept false test tells x is.bare is.values is.solves.1 is.agrees
        (subst (λ y. IsIn y (solutions (terms_over s) p q.subject)) plain_is
        (subst (λ t. IsIn (plain (map (norm th) is.bare)) (solutions (terms_over s) p t)) sub_norm ((solutions_are_listed (terms_over s) lawful p sub bare).1 is.bare is.solves.0)))

    wholes_left : AreLeftOf false s known q None (map as_matcher (keep test (solutions (terms_over s) p q.subject)))
    wholes_left = are_left false test tells sound_whole complete_whole (subst (λ t. IsAscending (compare th p) (solutions (terms_over s) p t)) sub_norm ((solutions_are_listed (terms_over s) lawful p sub bare).2))

pub listed_are_left : ListedAreLeft
listed_are_left false s lawful known q normal bare test tells = wholes_left s lawful known q normal bare test tells
listed_are_left true s lawful known q normal bare test tells = parts_left s lawful known q normal bare test tells
