-- The laws of the order of solutions, and of whole listings.
use Rattle.std.proofs.Common.{◌≡◌, ℕ, zero, suc, List, [], ◌∷◌, Bool, true, false, All, AllPairs, Contains, Option, None, Some, ⊎_elim, map, length, get_or, refl, sym, ap, ◌∙◌, subst, arith}
use Rattle.std.specs.Cmp.{IsTotalOrder, on_total}
use Rattle.std.proofs.lemmas.List.Elements.{All-nil, All-cons}
use Rattle.std.proofs.lemmas.List.Kept.{AllPairs-cons}
use Rattle.std.specs.declared.cmp.Ordering.{Ordering}
use Rattle.std.specs.declared.cmp.Ordering.TheVariants.{Less}
use Rattle.mau_terms.specs.Tree.{Tree}
use Rattle.mau_terms.specs.Norm.{norm}
use Rattle.mau_terms.specs.Bare.{IsLawful}
use Rattle.mau_terms.specs.Reading.{reading}
use Rattle.mau_terms.specs.Subst.{variables}
use Rattle.mau_terms.specs.Solution.{FitsAt, FitsWithin, assoc_top}
use Rattle.mau_terms.proofs.Solutions.{solutions_are_ordered, right_is_determined, length-map}
use Rattle.mau_terms.proofs.Ties.{ties_are_equal}
use Rattle.mau_signature.specs.Signature.{SignatureOf, theory_at, terms_over}
use Rattle.mau_sorts.specs.HasSort.{HasSort}
use Rattle.mau_listing.specs.Question.{Question, IsSolution}
use Rattle.mau_listing.specs.Matcher.{Matcher}
use Rattle.mau_listing.specs.Next.{matcher_cmp, IsBehind, IsNext, AreNext, last_of}
use Rattle.mau_listing.specs.Asked.{BySort}
use Rattle.mau_listing.specs.Laws.{MatchersAreOrdered, TiesAreOne, EntriesAreSorts, AllAreListed, FirstAscend}
use Rattle.mau_canon.proofs.Standing.{map-norm-norm}

pub matchers_are_ordered : MatchersAreOrdered
matchers_are_ordered th p = on_total (λ x. (x.left, x.values)) (solutions_are_ordered th p)

pub entries_are_sorts : EntriesAreSorts
entries_are_sorts s known nodes table is r t has =
    subst (λ u. HasSort s known u r) has.tree (((is.entries has.number has.entry has.at).1.exact r).0 has.has)

-- ---- ties

matcher_is : (x y : Matcher) → x.left ≡ y.left → x.right ≡ y.right → x.values ≡ y.values → x ≡ y
matcher_is x y l r v = λ i. record { left = l i; right = r i; values = v i }

-- what both kinds of solutions have
one_each : (c : Bool) (s : SignatureOf) (P : ℕ → Tree → Type 0) (q : Question) (x : Matcher) → IsSolution c s P q x →
    (bare : List Tree) × (map (norm (theory_at s)) bare ≡ x.values) × (length bare ≡ length (variables q.pattern))
one_each false s P q x is = (is.bare, is.values, is.solves.0.one_each)
one_each true s P q x is = (is.bare, is.values, by (assoc_top (theory_at s) (norm (theory_at s) q.pattern)) is.solves.0)
  where
    by : (o : Option ℕ) → FitsAt (terms_over s) o q.pattern (reading (theory_at s) q.subject) is.bare x.left x.right → length is.bare ≡ length (variables q.pattern)
    by (Some f) h = h.one_each
    by None h = h.0.one_each

-- the right contexts of two solutions with one left context and the same values are one
same_right : (c : Bool) (s : SignatureOf) → IsLawful (terms_over s) → (P : ℕ → Tree → Type 0) (q : Question) (x y : Matcher) →
    IsSolution c s P q x → IsSolution c s P q y → x.left ≡ y.left → x.values ≡ y.values → x.right ≡ y.right
same_right false s lawful P q x y is it l v = is.no_right ∙ sym it.no_right
same_right true s lawful P q x y is it l v =
    right_is_determined (terms_over s) lawful q.pattern (reading (theory_at s) q.subject) is.bare it.bare x.left x.right y.right
    (is.values ∙ v ∙ sym it.values) is.solves.0
    (subst (λ left. FitsWithin (terms_over s) q.pattern (reading (theory_at s) q.subject) it.bare left y.right) (sym l) it.solves.0)

pub ties_are_one : TiesAreOne
ties_are_one c s lawful known q x y is it tie =
    let th = theory_at s in
    let P = BySort s known in
    let one = one_each c s P q x is in
    let two = one_each c s P q y it in
    let long : length x.values ≡ length (variables q.pattern) = ap length (sym one.1) ∙ length-map (norm th) one.0 ∙ one.2 in
    let as_long : length y.values ≡ length (variables q.pattern) = ap length (sym two.1) ∙ length-map (norm th) two.0 ∙ two.2 in
    let both = ties_are_equal th lawful.theories q.pattern (x.left, x.values) (y.left, y.values) long as_long tie in
    let normal : (z : List Tree) (b : List Tree) → map (norm th) b ≡ z → map (norm th) z ≡ z = λ z b e. ap (map (norm th)) (sym e) ∙ map-norm-norm th lawful.theories b ∙ e in
    let v : x.values ≡ y.values = sym (normal x.values one.0 one.1) ∙ both.1 ∙ normal y.values two.0 two.1 in
    matcher_is x y both.0 (same_right c s lawful P q x y is it both.0 v) v

-- ---- whole listings

further : {A : Type 0} (y x : A) (ys : List A) → Contains ys x → Contains (y ∷ ys) x
further y x ys among = (suc among.0, let lt = among.1 in omega arith, among.2)

-- each solution behind the last one is among the next ones, where none is left
among_next : (Is : Matcher → Type 0) (cmp : Matcher → Matcher → Ordering) (last : Option Matcher) (xs : List Matcher) → AreNext Is cmp last xs → IsNext Is cmp (last_of last xs) None →
    (x : Matcher) → Is x → IsBehind cmp last x → Contains xs x
among_next Is cmp last [] are none x is behind = absurd (none x is behind)
among_next Is cmp last (y ∷ xs) are none x is behind =
    ⊎_elim
    (λ (less : cmp y x ≡ Less). further y x xs (among_next Is cmp (Some y) xs are.1 none x is less))
    (λ (same : y ≡ x). (zero, omega arith, same))
    (are.0.least x is behind)

pub all_are_listed : AllAreListed
all_are_listed c s known q xs first x is =
    among_next (IsSolution c s (BySort s known) q) (matcher_cmp (theory_at s) q.pattern) None xs first.next (first.no_more refl) x is tt

-- the next ones are solutions, and behind the one before them
next_are : (Is : Matcher → Type 0) (cmp : Matcher → Matcher → Ordering) (last : Option Matcher) (xs : List Matcher) → AreNext Is cmp last xs → All Is xs
next_are Is cmp last [] are = All-nil Is
next_are Is cmp last (x ∷ xs) are = All-cons Is x xs are.0.is_one (next_are Is cmp (Some x) xs are.1)

module _ (Is : Matcher → Type 0) (cmp : Matcher → Matcher → Ordering) (total : IsTotalOrder cmp) where
  next_behind : (x : Matcher) (xs : List Matcher) → AreNext Is cmp (Some x) xs → All (λ y. cmp x y ≡ Less) xs
  next_behind x [] are = All-nil (λ y. cmp x y ≡ Less)
  next_behind x (y ∷ ys) are =
      let later = next_behind y ys are.1 in
      All-cons (λ z. cmp x z ≡ Less) y ys are.0.behind (λ k d h. total.trans x y (get_or ys k d) are.0.behind (later k d h))

  next_ascend : (last : Option Matcher) (xs : List Matcher) → AreNext Is cmp last xs → AllPairs (λ x y. cmp x y ≡ Less) xs
  next_ascend last [] are = λ i j d h k. absurd (omega (arith, k))
  next_ascend last (x ∷ xs) are = AllPairs-cons (λ y z. cmp y z ≡ Less) x xs (next_behind x xs are.1) (next_ascend (Some x) xs are.1)

pub first_ascend : FirstAscend
first_ascend c s known q last xs others first =
    let Is = IsSolution c s (BySort s known) q in
    let cmp = matcher_cmp (theory_at s) q.pattern in
    (next_are Is cmp last xs first.next, next_ascend Is cmp (matchers_are_ordered (theory_at s) q.pattern) last xs first.next)
