-- What the first accepted solution of a widened pattern is among the solutions with contexts.
use Rattle.std.proofs.Common.{◌≡◌, ◌≤◌, ◌+◌, ◌⊎◌, ℕ, List, [], ◌++◌, length, length-append, Bool, true, false, Option, None, Some, inl, inr, refl, sym, ◌∙◌, ap, subst, arith}
use Rattle.std.specs.declared.cmp.Ordering.{Ordering}
use Rattle.std.specs.declared.cmp.Ordering.TheVariants.{Less, Equal, Greater}
use Rattle.mau_terms.specs.Tree.{Tree}
use Rattle.mau_terms.specs.Norm.{norm}
use Rattle.mau_terms.specs.Bare.{IsBare, IsLawful}
use Rattle.mau_terms.specs.Reading.{reading}
use Rattle.mau_terms.specs.Subst.{Variable, with_values}
use Rattle.mau_terms.specs.Solution.{list_under, over_list, IsListOf, FitsUnder, FitsAt, places}
use Rattle.mau_terms.specs.declared.theory.Theory.{Theory}
use Rattle.mau_terms.proofs.Normal.{IsNormal, norm_normal, normal_fixed}
use Rattle.mau_terms.proofs.Solutions.{length-map}
use Rattle.mau_terms.proofs.Finite.{length-arrange}
use Rattle.mau_terms.proofs.Ties.{places_length}
use Rattle.mau_terms.proofs.Wholes.{over_list_normal}
use Rattle.mau_poset.specs.Order.{kind_of}
use Rattle.mau_signature.specs.Signature.{SignatureOf, theory_at, terms_over}
use Rattle.mau_sorts.specs.HasSort.{Known, HasSort}
use Rattle.mau_listing.specs.Question.{Question, IsSolution, IsWhole, IsPart}
use Rattle.mau_listing.specs.Matcher.{Matcher}
use Rattle.mau_listing.specs.Next.{matcher_cmp, IsBehind, IsNext}
use Rattle.mau_listing.specs.Asked.{BySort}
use Rattle.mau_listing.proofs.Ordered.{ties_are_one}
use Rattle.mau_extend.specs.Widened.{widened, around, context_list, as_term, widened_question, CanBeWidened, CanBeArgument, HasShape, widened_found, IsNarrowed, IsWide, IsLeastAmong}
use Rattle.mau_extend.proofs.Widened.{Lacks, lacks}
use Rattle.mau_extend.proofs.Lists.{list_back}
use Rattle.mau_extend.proofs.OfKind.{top_assoc, pattern_applied}
use Rattle.mau_extend.proofs.KindSorts.{has_kind}
use Rattle.mau_extend.proofs.WideOrder.{then_last, wide_cmp}
use Rattle.mau_extend.proofs.OneNarrowed.{same_around, narrow_long, left_is, right_is, own_left_key, own_no_left, narrow_solves}
use Rattle.mau_extend.proofs.Widening.{widen, subject_list}

-- ---- one shape

module _ (s : SignatureOf) (lawful : IsLawful (terms_over s)) (kinds : (p : ℕ × ℕ) → s.numerals ≡ Some p → kind_of s.hierarchy p.0 ≡ kind_of s.hierarchy p.1) (known : Known) (q : Question)
    (normal : norm (theory_at s) q.subject ≡ q.subject) (bare : IsBare (terms_over s) (reading (theory_at s) q.subject)) (h k : Bool) (f : ℕ) (a b : Variable) (can : CanBeWidened s q h f a b)
    (first_sort : a.1 ≡ (terms_over s).result f) (last_sort : b.1 ≡ (terms_over s).result f) where
  abbrev th : ℕ → Theory
  th = theory_at s

  abbrev Is : Matcher → Type 0
  Is x = IsPart s (BySort s known) q x

  abbrev IsWideSolution : Matcher → Type 0
  IsWideSolution y = IsWhole s (BySort s known) (widened_question h k f a b q) y

  abbrev cmp : Matcher → Matcher → Ordering
  cmp = matcher_cmp (theory_at s) q.pattern

  abbrev wide : Tree
  wide = widened h k f (as_term a) q.pattern (as_term b)

  abbrev wide_order : Matcher → Matcher → Ordering
  wide_order = matcher_cmp (theory_at s) (widened h k f (as_term a) q.pattern (as_term b))

  abbrev wider : Matcher → Matcher
  wider x = widened_found h k (theory_at s f) f x

  assoc : (theory_at s f).assoc ≡ true
  assoc = top_assoc (terms_over s) lawful f q.pattern can.pattern can.top

  no_first : Lacks q.pattern a
  no_first = lacks q.pattern a can.first.free

  fits : (x : Matcher) → (is : IsPart s (BySort s known) q x) → FitsUnder (terms_over s) f q.pattern (reading (theory_at s) q.subject) is.bare x.left x.right
  fits x is = subst (λ o. FitsAt (terms_over s) o q.pattern (reading (theory_at s) q.subject) is.bare x.left x.right) can.top is.solves.0

  -- ---- solutions with contexts

  pub wider_solves : (x : Matcher) → IsPart s (BySort s known) q x → HasShape h k (theory_at s f) x → IsWhole s (BySort s known) (widened_question h k f a b q) (widened_found h k (theory_at s f) f x)
  wider_solves x is shape =
      widen s lawful (BySort s known) q h k f a b can normal bare x is shape.left shape.right
      (λ v n d.
      let has = has_kind s lawful kinds known v ((terms_over s).result f) (subst (IsNormal (theory_at s)) n (norm_normal (theory_at s) lawful.theories v)) d in
      (subst (HasSort s known v) (sym first_sort) has, subst (HasSort s known v) (sym last_sort) has))
      (widened_found h k (theory_at s f) f x) refl refl refl

  part_long : (x : Matcher) → IsPart s (BySort s known) q x → length x.values ≡ length (places (theory_at s) q.pattern)
  part_long x is = sym (ap length is.values) ∙ length-map (norm (theory_at s)) is.bare ∙ (fits x is).one_each ∙ sym (places_length (theory_at s) q.pattern)

  -- the list of the left context, as it is compared
  left_key : (x : Matcher) → IsPart s (BySort s known) q x → list_under (theory_at s f) f (norm (theory_at s) (over_list (theory_at s f) f x.left)) ≡ x.left
  left_key x is =
      let l = (fits x is).left_list in
      ap (list_under (theory_at s f) f) (normal_fixed (theory_at s) (over_list (theory_at s f) f x.left) (over_list_normal (theory_at s) lawful.theories f x.left l.pieces))
      ∙ list_back (theory_at s) lawful.theories f assoc x.left l

  list_here : (ts : List Tree) → IsListOf (theory_at s) f ts → list_under (theory_at s f) f (over_list (theory_at s f) f ts) ≡ ts
  list_here ts l = list_back (theory_at s) lawful.theories f assoc ts l

  pub part_wide : (x : Matcher) → IsPart s (BySort s known) q x → IsWide (theory_at s f) f q.subject x
  part_wide x is =
      let g = fits x is in
      let m = list_under (theory_at s f) f (norm (theory_at s) (with_values q.pattern is.bare)) in
      let e : length (list_under (theory_at s f) f q.subject) ≡ length x.left + (length m + length x.right) =
      ap length (subject_list s lawful (BySort s known) q h k f a b can normal bare is.bare x.left x.right g) ∙ length-arrange (theory_at s f).comm (x.left ++ (m ++ x.right)) ∙ three x.left m x.right in
      by g.part e
    where
      three : (us vs ws : List Tree) → length (us ++ (vs ++ ws)) ≡ length us + (length vs + length ws)
      three us vs ws = length-append us (vs ++ ws) ∙ ap (λ n. length us + n) (length-append vs ws)

      by : (2 ≤ length (list_under (theory_at s f) f (norm (theory_at s) (with_values q.pattern is.bare)))) ⊎ ((x.left ≡ []) × (x.right ≡ []))
          → length (list_under (theory_at s f) f q.subject) ≡ length x.left + (length (list_under (theory_at s f) f (norm (theory_at s) (with_values q.pattern is.bare))) + length x.right) → IsWide (theory_at s f) f q.subject x
      by (inl two) e = inr (omega (arith, two, e))
      by (inr none) e = let l : length x.left ≡ 0 = ap length none.0 in let r : length x.right ≡ 0 = ap length none.1 in inl (omega (arith, l, r))

  -- ---- solutions of the widened pattern

  module _ (y x : Matcher) (solves : IsWhole s (BySort s known) (widened_question h k f a b q) y) (is : IsNarrowed h k (theory_at s f) f y x) where
    -- compared with a solution with contexts
    module _ (z : Matcher) (part : IsPart s (BySort s known) q z) (shape : HasShape h k (theory_at s f) z) where
      compared : matcher_cmp (theory_at s) (widened h k f (as_term a) q.pattern (as_term b)) y (widened_found h k (theory_at s f) f z)
          ≡ then_last k (matcher_cmp (theory_at s) q.pattern x z) (list_under (theory_at s f) f (norm (theory_at s) is.right)) (list_under (theory_at s f) f (norm (theory_at s) (over_list (theory_at s f) f z.right)))
      compared =
          let applied = pattern_applied (terms_over s) lawful f q.pattern can.pattern can.top in
          wide_cmp (theory_at s) f assoc a b q.pattern no_first can.last.free can.apart applied.0 applied.1 applied.2 h k y (widened_found h k (theory_at s f) f z) x z is.left (over_list (theory_at s f) f z.left) is.right (over_list (theory_at s f) f z.right)
          solves.no_left refl is.values refl (narrow_long s lawful (BySort s known) q normal h k f a b can y x solves is) (part_long z part) (own_left_key s lawful (BySort s known) q normal h k f a b can y x solves is) (λ e. left_key z part) (own_no_left s lawful (BySort s known) q normal h k f a b can y x solves is) shape.left.none

      -- where they are one, so are the solutions
      pub same_narrowed : y ≡ widened_found h k (theory_at s f) f z → x ≡ z
      same_narrowed e =
          let g = fits z part in
          let same = same_around h k is.left (over_list (theory_at s f) f z.left) x.values z.values is.right (over_list (theory_at s f) f z.right) (sym is.values ∙ ap (λ (w : Matcher). w.values) e) in
          three (left_is s lawful (BySort s known) q normal h k f a b can y x solves is ∙ side h is.left z.left shape.left g.left_list same.first) (right_is s lawful (BySort s known) q normal h k f a b can y x solves is ∙ side k is.right z.right shape.right g.right_list same.last) same.middle
        where
          side : (c : Bool) (l : Tree) (ts : List Tree) → CanBeArgument c (theory_at s f) ts → IsListOf (theory_at s) f ts → (c ≡ true → l ≡ over_list (theory_at s f) f ts) → context_list c (theory_at s f) f l ≡ ts
          side true l ts d ls e = ap (list_under (theory_at s f) f) (e refl) ∙ list_here ts ls
          side false l ts d ls e = sym (d.none refl)

          three : x.left ≡ z.left → x.right ≡ z.right → x.values ≡ z.values → x ≡ z
          three l r v = λ i. record { left = l i; right = r i; values = v i }

      by_last : (c : Bool) (o : Ordering) (us ws : List Tree) → then_last c o us ws ≡ Less → (o ≡ Less) ⊎ (o ≡ Equal)
      by_last false o us ws e = inl e
      by_last true Less us ws e = inl refl
      by_last true Equal us ws e = inr refl
      by_last true Greater us ws e = cc

      -- what stands behind stands behind
      pub upto_narrowed : IsPart s (BySort s known) q x → (matcher_cmp (theory_at s) (widened h k f (as_term a) q.pattern (as_term b)) y (widened_found h k (theory_at s f) f z) ≡ Less) ⊎ (y ≡ widened_found h k (theory_at s f) f z)
          → (matcher_cmp (theory_at s) q.pattern x z ≡ Less) ⊎ (x ≡ z)
      upto_narrowed own (inr e) = inr (same_narrowed e)
      upto_narrowed own (inl l) = by (by_last k (matcher_cmp (theory_at s) q.pattern x z) (list_under (theory_at s f) f (norm (theory_at s) is.right)) (list_under (theory_at s f) f (norm (theory_at s) (over_list (theory_at s f) f z.right))) (sym compared ∙ l))
        where
          by : (matcher_cmp (theory_at s) q.pattern x z ≡ Less) ⊎ (matcher_cmp (theory_at s) q.pattern x z ≡ Equal) → (matcher_cmp (theory_at s) q.pattern x z ≡ Less) ⊎ (x ≡ z)
          by (inl e) = inl e
          by (inr e) = inr (ties_are_one true s lawful known q x z own part e)

  -- ---- step by step

  -- all solutions of this shape behind the last one stand behind this point
  abbrev pub IsAhead : Option Matcher → Option Matcher → Type 0
  IsAhead last given = (x : Matcher) → IsPart s (BySort s known) q x × HasShape h k (theory_at s f) x → IsBehind (matcher_cmp (theory_at s) q.pattern) last x
      → IsBehind (matcher_cmp (theory_at s) (widened h k f (as_term a) q.pattern (as_term b))) given (widened_found h k (theory_at s f) f x)

  module _ (last given : Option Matcher) (ahead : IsAhead last given) where
    abbrev Next : Option Matcher → Type 0
    Next o = IsNext (IsSolution false s (BySort s known) (widened_question h k f a b q)) (matcher_cmp (theory_at s) (widened h k f (as_term a) q.pattern (as_term b))) given o

    pub none_left : IsNext (IsSolution false s (BySort s known) (widened_question h k f a b q)) (matcher_cmp (theory_at s) (widened h k f (as_term a) q.pattern (as_term b))) given None
        → (x : Matcher) → IsPart s (BySort s known) q x × HasShape h k (theory_at s f) x → IsBehind (matcher_cmp (theory_at s) q.pattern) last x → ⊥
    none_left none x is behind = none (widened_found h k (theory_at s f) f x) (wider_solves x is.0 is.1) (ahead x is behind)

    module _ (y x : Matcher) (next : IsNext (IsSolution false s (BySort s known) (widened_question h k f a b q)) (matcher_cmp (theory_at s) (widened h k f (as_term a) q.pattern (as_term b))) given (Some y))
        (is : IsNarrowed h k (theory_at s f) f y x) where
      pub accepted : IsWide (theory_at s f) f q.subject x → IsBehind (matcher_cmp (theory_at s) q.pattern) last x
          → IsLeastAmong (IsPart s (BySort s known) q) (λ z. IsPart s (BySort s known) q z × HasShape h k (theory_at s f) z) (matcher_cmp (theory_at s) q.pattern) last x
      accepted w behind =
          let own = narrow_solves s lawful (BySort s known) q normal h k f a b can y x next.is_one is w in
          record {
            is_one = own;
            behind = behind;
            least = λ z other later.
                upto_narrowed y x next.is_one is z other.0 other.1 own
                (next.least (widened_found h k (theory_at s f) f z) (wider_solves z other.0 other.1) (ahead z other later));
          }

      pub skipped : (IsWide (theory_at s f) f q.subject x → IsBehind (matcher_cmp (theory_at s) q.pattern) last x → ⊥) → IsAhead last (Some y)
      skipped refused z other later =
          by (next.least (widened_found h k (theory_at s f) f z) (wider_solves z other.0 other.1) (ahead z other later))
        where
          by : (matcher_cmp (theory_at s) (widened h k f (as_term a) q.pattern (as_term b)) y (widened_found h k (theory_at s f) f z) ≡ Less) ⊎ (y ≡ widened_found h k (theory_at s f) f z)
              → matcher_cmp (theory_at s) (widened h k f (as_term a) q.pattern (as_term b)) y (widened_found h k (theory_at s f) f z) ≡ Less
          by (inl e) = e
          by (inr e) =
              let one : x ≡ z = same_narrowed y x next.is_one is z other.0 other.1 e in
              absurd (refused (subst (IsWide (theory_at s f) f q.subject) (sym one) (part_wide z other.0)) (subst (IsBehind (matcher_cmp (theory_at s) q.pattern) last) (sym one) later))

  -- ---- where to begin

  pub ahead_of_all : (last : Option Matcher) → IsAhead last None
  ahead_of_all last = λ x is later. tt

  -- behind a solution: its values, between its left context and any right one
  pub ahead_of_point : (x : Matcher) → IsPart s (BySort s known) q x → (h ≡ false → x.left ≡ []) → (r : Tree) (y : Matcher) → y.left ≡ [] → y.values ≡ around h k (over_list (theory_at s f) f x.left) x.values r → IsAhead (Some x) (Some y)
  ahead_of_point x is none r y no_left values = λ z other later.
      let applied = pattern_applied (terms_over s) lawful f q.pattern can.pattern can.top in
      wide_cmp (theory_at s) f assoc a b q.pattern no_first can.last.free can.apart applied.0 applied.1 applied.2 h k y (widened_found h k (theory_at s f) f z) x z (over_list (theory_at s f) f x.left) (over_list (theory_at s f) f z.left) r (over_list (theory_at s f) f z.right)
      no_left refl values refl (part_long x is) (part_long z other.0) (λ e. left_key x is) (λ e. left_key z other.0) none other.1.left.none
      ∙ ap (λ o. then_last k o (list_under (theory_at s f) f (norm (theory_at s) r)) (list_under (theory_at s f) f (norm (theory_at s) (over_list (theory_at s f) f z.right)))) later
      ∙ by k (list_under (theory_at s f) f (norm (theory_at s) r)) (list_under (theory_at s f) f (norm (theory_at s) (over_list (theory_at s f) f z.right)))
    where
      by : (c : Bool) (us ws : List Tree) → then_last c Less us ws ≡ Less
      by true us ws = refl
      by false us ws = refl
