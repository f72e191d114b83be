-- The least of two next solutions.
use Rattle.std.proofs.Common.{◌≡◌, ◌⊎◌, ℕ, List, length, true, Option, None, Some, IfSome, inl, inr, refl, sym, ◌∙◌, ap, subst}
use Rattle.std.specs.declared.cmp.Ordering.{Ordering}
use Rattle.std.specs.declared.cmp.Ordering.TheVariants.{Less, Equal, Greater}
use Rattle.std.specs.Ordering.{ordering_reverse}
use Rattle.std.specs.Cmp.{IsTotalOrder}
use Rattle.std.specs.Option.{option_map}
use Rattle.mau_terms.specs.Norm.{norm}
use Rattle.mau_terms.specs.Bare.{IsLawful}
use Rattle.mau_terms.specs.Reading.{reading}
use Rattle.mau_terms.specs.Solution.{FitsUnder, FitsAt, assoc_top}
use Rattle.mau_terms.specs.View.{tree_of}
use Rattle.mau_terms.proofs.Solutions.{length-map}
use Rattle.mau_signature.specs.Signature.{SignatureOf, theory_at, terms_over}
use Rattle.mau_store.specs.Node.{Node, Extends}
use Rattle.mau_sorts.specs.HasSort.{Known}
use Rattle.mau_sorts.specs.Table.{Table, KeepsEntries}
use Rattle.mau_listing.specs.declared.solution.Solution.{Solution}
use Rattle.mau_listing.specs.declared.places.Place.{Place}
use Rattle.mau_listing.specs.Question.{Question, IsPart}
use Rattle.mau_listing.specs.Matcher.{Matcher}
use Rattle.mau_listing.specs.Next.{matcher_cmp, IsBehind}
use Rattle.mau_listing.specs.Asked.{question_in, matcher_in, IsAskable, BySort, IsGiven}
use Rattle.mau_listing.proofs.Growth.{given_kept, last_found_same, trees_long}
use Rattle.mau_listing.proofs.Ordered.{ties_are_one, matchers_are_ordered}
use Rattle.mau_trial.specs.Tried.{asked_in, ArePlacesOf}
use Rattle.mau_trial.specs.declared.tried.Trial.{Trial}
use Rattle.mau_extend.specs.Widened.{IsNextAmong}
use Rattle.mau_extend.specs.Extended.{IsListed, IsLesser}
use Rattle.mau_extend.proofs.Looping.{named_long}

-- ---- orders

module _ {K : Type 0} (cmp : K → K → Ordering) (total : IsTotalOrder cmp) where
  less_or : (x y : K) → (cmp y x ≡ Less → ⊥) → (cmp x y ≡ Less) ⊎ (cmp x y ≡ Equal)
  less_or x y n = by (cmp y x) refl
    where
      by : (o : Ordering) → cmp y x ≡ o → (cmp x y ≡ Less) ⊎ (cmp x y ≡ Equal)
      by Less e = absurd (n e)
      by Equal e = inr (total.antisymm x y ∙ ap ordering_reverse e)
      by Greater e = inl (total.antisymm x y ∙ ap ordering_reverse e)

-- ---- two answers

module _ (s : SignatureOf) (lawful : IsLawful (terms_over s)) (known : Known) (q : Question) (last : Option Matcher) where
  abbrev Is : Matcher → Type 0
  Is = IsPart s (BySort s known) q

  abbrev cmp : Matcher → Matcher → Ordering
  cmp = matcher_cmp (theory_at s) q.pattern

  total : IsTotalOrder (matcher_cmp (theory_at s) q.pattern)
  total = matchers_are_ordered (theory_at s) q.pattern

  module _ (C C1 C2 : Matcher → Type 0) (split : (x : Matcher) → C x → C1 x ⊎ C2 x) (real : (x : Matcher) → C x → IsPart s (BySort s known) q x) where
    pub merged : (o1 o2 o : Option Matcher) → IsNextAmong (IsPart s (BySort s known) q) C1 (matcher_cmp (theory_at s) q.pattern) last o1 → IsNextAmong (IsPart s (BySort s known) q) C2 (matcher_cmp (theory_at s) q.pattern) last o2
        → IsLesser (matcher_cmp (theory_at s) q.pattern) o1 o2 o → IsNextAmong (IsPart s (BySort s known) q) C (matcher_cmp (theory_at s) q.pattern) last o
    merged None None o n1 n2 e =
        subst (IsNextAmong (IsPart s (BySort s known) q) C (matcher_cmp (theory_at s) q.pattern) last) (sym e)
        (λ x c behind. by x (split x c) behind)
      where
        by : (x : Matcher) → C1 x ⊎ C2 x → IsBehind (matcher_cmp (theory_at s) q.pattern) last x → ⊥
        by x (inl c) behind = n1 x c behind
        by x (inr c) behind = n2 x c behind
    merged None (Some y) o n1 n2 e =
        subst (IsNextAmong (IsPart s (BySort s known) q) C (matcher_cmp (theory_at s) q.pattern) last) (sym e)
        (record { is_one = n2.is_one; behind = n2.behind; least = λ z c behind. by z (split z c) behind })
      where
        by : (z : Matcher) → C1 z ⊎ C2 z → IsBehind (matcher_cmp (theory_at s) q.pattern) last z → (matcher_cmp (theory_at s) q.pattern y z ≡ Less) ⊎ (y ≡ z)
        by z (inl c) behind = absurd (n1 z c behind)
        by z (inr c) behind = n2.least z c behind
    merged (Some x) None o n1 n2 e =
        subst (IsNextAmong (IsPart s (BySort s known) q) C (matcher_cmp (theory_at s) q.pattern) last) (sym e)
        (record { is_one = n1.is_one; behind = n1.behind; least = λ z c behind. by z (split z c) behind })
      where
        by : (z : Matcher) → C1 z ⊎ C2 z → IsBehind (matcher_cmp (theory_at s) q.pattern) last z → (matcher_cmp (theory_at s) q.pattern x z ≡ Less) ⊎ (x ≡ z)
        by z (inl c) behind = n1.least z c behind
        by z (inr c) behind = absurd (n2 z c behind)
    merged (Some x) (Some y) o n1 n2 (inl e) =
        subst (IsNextAmong (IsPart s (BySort s known) q) C (matcher_cmp (theory_at s) q.pattern) last) (sym e.1)
        (record { is_one = n2.is_one; behind = n2.behind; least = λ z c behind. by z (split z c) behind })
      where
        further : (z : Matcher) → (matcher_cmp (theory_at s) q.pattern x z ≡ Less) ⊎ (x ≡ z) → (matcher_cmp (theory_at s) q.pattern y z ≡ Less) ⊎ (y ≡ z)
        further z (inl l) = inl (total.trans y x z e.0 l)
        further z (inr l) = inl (subst (λ w. matcher_cmp (theory_at s) q.pattern y w ≡ Less) l e.0)

        by : (z : Matcher) → C1 z ⊎ C2 z → IsBehind (matcher_cmp (theory_at s) q.pattern) last z → (matcher_cmp (theory_at s) q.pattern y z ≡ Less) ⊎ (y ≡ z)
        by z (inl c) behind = further z (n1.least z c behind)
        by z (inr c) behind = n2.least z c behind
    merged (Some x) (Some y) o n1 n2 (inr e) =
        subst (IsNextAmong (IsPart s (BySort s known) q) C (matcher_cmp (theory_at s) q.pattern) last) (sym e.1)
        (record { is_one = n1.is_one; behind = n1.behind; least = λ z c behind. by z (split z c) behind })
      where
        step : (z : Matcher) → (matcher_cmp (theory_at s) q.pattern x y ≡ Less) ⊎ (matcher_cmp (theory_at s) q.pattern x y ≡ Equal) → (matcher_cmp (theory_at s) q.pattern y z ≡ Less) ⊎ (y ≡ z)
            → (matcher_cmp (theory_at s) q.pattern x z ≡ Less) ⊎ (x ≡ z)
        step z (inl l) (inl m) = inl (total.trans x y z l m)
        step z (inl l) (inr m) = inl (subst (λ w. matcher_cmp (theory_at s) q.pattern x w ≡ Less) m l)
        step z (inr t) d =
            let one : x ≡ y = ties_are_one true s lawful known q x y n1.is_one n2.is_one t in
            subst (λ w. (matcher_cmp (theory_at s) q.pattern w z ≡ Less) ⊎ (w ≡ z)) (sym one) d

        by : (z : Matcher) → C1 z ⊎ C2 z → IsBehind (matcher_cmp (theory_at s) q.pattern) last z → (matcher_cmp (theory_at s) q.pattern x z ≡ Less) ⊎ (x ≡ z)
        by z (inl c) behind = n1.least z c behind
        by z (inr c) behind = step z (less_or (matcher_cmp (theory_at s) q.pattern) total x y e.0) (n2.least z c behind)

  -- fewer others
  pub fewer : (C D : Matcher → Type 0) → ((x : Matcher) → D x → C x) → (o : Option Matcher) → IsNextAmong (IsPart s (BySort s known) q) C (matcher_cmp (theory_at s) q.pattern) last o → IsNextAmong (IsPart s (BySort s known) q) D (matcher_cmp (theory_at s) q.pattern) last o
  fewer C D f None n = λ x d. n x (f x d)
  fewer C D f (Some x) n = record { is_one = n.is_one; behind = n.behind; least = λ z d. n.least z (f z d) }

-- ---- solutions in stores that grow

module _ (s : SignatureOf) (t : Trial) (old new : List Node) (before after : Table) (extends : Extends old new) (kept : KeepsEntries before after) (askable : IsAskable s old (asked_in t)) where
  pub some_kept : (o : Option Solution) → IfSome o (IsGiven true s old before (asked_in t)) → IfSome o (IsGiven true s new after (asked_in t))
  some_kept None h = tt
  some_kept (Some x) h = given_kept old new extends before after kept true s (asked_in t) askable x h

  pub some_same : (o : Option Solution) → IfSome o (IsGiven true s old before (asked_in t)) → option_map (matcher_in new) o ≡ option_map (matcher_in old) o
  some_same o h = last_found_same old new extends s true before (asked_in t) o h

module _ (s : SignatureOf) (t : Trial) (f : ℕ) (top : assoc_top (theory_at s) (norm (theory_at s) (tree_of t.pattern)) ≡ Some f) (ps : List Place) (places : ArePlacesOf s (tree_of t.pattern) ps) where
  -- what was given has a value for each place
  pub some_listed : (nodes : List Node) (table : Table) (o : Option Solution) → IfSome o (IsGiven true s nodes table (asked_in t)) → IfSome o (IsListed s nodes ps)
  some_listed nodes table None h = tt
  some_listed nodes table (Some x) h =
      let q = question_in nodes (asked_in t) in
      let fits : FitsUnder (terms_over s) f q.pattern (reading (theory_at s) q.subject) h.solves.bare (matcher_in nodes x).left (matcher_in nodes x).right =
      subst (λ o. FitsAt (terms_over s) o q.pattern (reading (theory_at s) q.subject) h.solves.bare (matcher_in nodes x).left (matcher_in nodes x).right) top h.solves.solves.0 in
      record {
        values = h.values;
        one_each =
            sym (trees_long nodes x.values) ∙ ap (λ ts. length ts) (sym h.solves.values) ∙ length-map (norm (theory_at s)) h.solves.bare ∙ fits.one_each
            ∙ sym (ap (λ xs. length xs) places.variables) ∙ named_long ps;
      }

-- one of two has what both have
pub either : {A : Type 0} (P : A → Type 0) (x y z : A) → (z ≡ x) ⊎ (z ≡ y) → P x → P y → P z
either P x y z (inl e) a b = subst P (sym e) a
either P x y z (inr e) a b = subst P (sym e) b
