-- What is shown, from one solution to the next; and that it is determined.
use Rattle.std.proofs.Common.{◌≡◌, ⊎_elim, ℕ, List, [], ◌∷◌, true, false, Option, None, Some, refl, sym, ap, ap₂, ◌∙◌, subst}
use Rattle.std.specs.Cmp.{IsTotalOrder}
use Rattle.std.specs.Ordering.{ordering_reverse}
use Rattle.std.specs.declared.cmp.Ordering.{Ordering}
use Rattle.std.specs.declared.cmp.Ordering.TheVariants.{Less, Equal, Greater}
use Rattle.mau_evaluation.specs.Run.{End, Outcome, done, ended}
use Rattle.mau_evaluation.specs.Evaluation.{Binding}
use Rattle.std.specs.Prelude.{map}
use Rattle.std.specs.List.{zip}
use Rattle.mau_terms.specs.Tree.{Tree}
use Rattle.mau_terms.specs.Subst.{variables}
use Rattle.mau_program.specs.declared.statements.Fragment.{Fragment}
use Rattle.mau_api.specs.Programs.{fragment_of}
use Rattle.mau_api.specs.Meanings.{Meanings}
use Rattle.mau_results.specs.Results.{DerivesNothing}
use Rattle.mau_listing.specs.Matcher.{Matcher}
use Rattle.mau_listing.specs.Next.{matcher_cmp, IsLeastBehind, IsNext}
use Rattle.mau_listing.specs.Question.{IsSolution}
use Rattle.mau_listing.proofs.Ordered.{matchers_are_ordered}
use Rattle.mau_signature.specs.Signature.{theory_at}
use Rattle.mau_conditional.specs.Where.{Ending, no_more, ends_by, wants_one, one_fewer, ShowsWhere, enough_shown, all_shown, one_shown, one_passed, asking_ends}
use Rattle.mau_conditional.specs.NextWhere.{NextOf, next_is, none_is_left, asking_ended, NextWhere, next_holds, nothing_next, next_ends, next_passed}
use Rattle.mau_conditional.specs.Meant.{HasDerivedSort, Asks}
use Rattle.mau_conditional.specs.Laws.{ShownOnce}

-- ---- the next solution is one

both_less : (o k : Ordering) → o ≡ ordering_reverse k → o ≡ Less → k ≡ Less → ⊥
both_less Less Less e h l = absurd cc
both_less Less Equal e h l = absurd cc
both_less Less Greater e h l = absurd cc
both_less Equal k e h l = absurd cc
both_less Greater k e h l = absurd cc

module _ (Is : Matcher → Type 0) (cmp : Matcher → Matcher → Ordering) (asks : Matcher → ℕ → Outcome (Option Binding) → Type 0)
    (one : (x : Matcher) (b : ℕ) (o k : Outcome (Option Binding)) → asks x b o → asks x b k → o ≡ k) (total : IsTotalOrder cmp) where
  next_once : (last : Option Matcher) (x y : Matcher) → IsNext Is cmp last (Some x) → IsNext Is cmp last (Some y) → x ≡ y
  next_once last x y p q =
      ⊎_elim
      (λ (before : cmp x y ≡ Less). ⊎_elim (λ (after : cmp y x ≡ Less). absurd (both_less (cmp x y) (cmp y x) (total.antisymm x y) before after)) (λ (same : y ≡ x). sym same) (q.least x p.is_one p.behind))
      (λ (same : x ≡ y). same) (p.least y q.is_one q.behind)

  not_none : (last : Option Matcher) (x : Matcher) → IsNext Is cmp last None → IsNext Is cmp last (Some x) → ⊥
  not_none last x none next = none x next.is_one next.behind

  -- ---- two listings

  record AreOne (f g : List Matcher) (e d : Ending) : Type 0 where
    found : f ≡ g
    ending : e ≡ d

  no_yes : (most : Option ℕ) → wants_one most ≡ false → wants_one most ≡ true → ⊥
  no_yes most h k = let e : false ≡ true = sym h ∙ k in cc

  module _ (last : Option Matcher) (b : ℕ) (x y : Matcher) (n : IsNext Is cmp last (Some x)) (k : IsNext Is cmp last (Some y)) where
    asked_same : (o o' : Outcome (Option Binding)) → asks x b o → asks y b o' → o ≡ o'
    asked_same o o' i j = one x b o o' i (subst (λ z. asks z b o') (sym (next_once last x y n k)) j)

    -- what is left for those behind
    yes_left : (σ τ : Binding) (r q left over : ℕ) → asks x b (done (Some σ) r left) → asks y b (done (Some τ) q over) → over ≡ left
    yes_left σ τ r q left over i j = let e = asked_same (done (Some σ) r left) (done (Some τ) q over) i j in cc

    no_left : (r q left over : ℕ) → asks x b (done None r left) → asks y b (done None q over) → over ≡ left
    no_left r q left over i j = let e = asked_same (done None r left) (done None q over) i j in cc

    yes_no : (σ : Binding) (r q left over : ℕ) → asks x b (done (Some σ) r left) → asks y b (done None q over) → ⊥
    yes_no σ r q left over i j = let e = asked_same (done (Some σ) r left) (done None q over) i j in cc

    yes_end : (σ : Binding) (r left : ℕ) (e : End) → asks x b (done (Some σ) r left) → asks y b (ended e) → ⊥
    yes_end σ r left e i j = let h = asked_same (done (Some σ) r left) (ended e) i j in cc

    no_end : (r left : ℕ) (e : End) → asks x b (done None r left) → asks y b (ended e) → ⊥
    no_end r left e i j = let h = asked_same (done None r left) (ended e) i j in cc

    same_end : (e d : End) → asks x b (ended e) → asks y b (ended d) → e ≡ d
    same_end e d i j = let h = asked_same (ended e) (ended d) i j in cc

    -- a listing behind one of them is one behind the other
    behind_same : (left over : ℕ) (most : Option ℕ) (found : List Matcher) (e : Ending) → over ≡ left → ShowsWhere Is cmp asks (Some y) over most found e → ShowsWhere Is cmp asks (Some x) left most found e
    behind_same left over most found e h s =
        subst (λ z. ShowsWhere Is cmp asks (Some z) left most found e) (sym (next_once last x y n k)) (subst (λ z. ShowsWhere Is cmp asks (Some y) z most found e) h s)

  once : (last : Option Matcher) (b : ℕ) (most : Option ℕ) (f g : List Matcher) (e d : Ending) → ShowsWhere Is cmp asks last b most f e → ShowsWhere Is cmp asks last b most g d → AreOne f g e d
  once last b most _ _ _ _ (enough_shown _ _ _ w1) (enough_shown _ _ _ w2) = record { found = refl; ending = refl }
  once last b most _ _ _ _ (enough_shown _ _ _ w1) (all_shown _ _ _ w2 n2) = absurd (no_yes most w1 w2)
  once last b most _ _ _ _ (enough_shown _ _ _ w1) (one_shown _ _ _ x2 s2 r2 l2 f2 e2 w2 n2 a2 h2) = absurd (no_yes most w1 w2)
  once last b most _ _ _ _ (enough_shown _ _ _ w1) (one_passed _ _ _ x2 r2 l2 f2 e2 w2 n2 a2 h2) = absurd (no_yes most w1 w2)
  once last b most _ _ _ _ (enough_shown _ _ _ w1) (asking_ends _ _ _ x2 e2 w2 n2 a2) = absurd (no_yes most w1 w2)
  once last b most _ _ _ _ (all_shown _ _ _ w1 n1) (enough_shown _ _ _ w2) = absurd (no_yes most w2 w1)
  once last b most _ _ _ _ (all_shown _ _ _ w1 n1) (all_shown _ _ _ w2 n2) = record { found = refl; ending = refl }
  once last b most _ _ _ _ (all_shown _ _ _ w1 n1) (one_shown _ _ _ x2 s2 r2 l2 f2 e2 w2 n2 a2 h2) = absurd (not_none last x2 n1 n2)
  once last b most _ _ _ _ (all_shown _ _ _ w1 n1) (one_passed _ _ _ x2 r2 l2 f2 e2 w2 n2 a2 h2) = absurd (not_none last x2 n1 n2)
  once last b most _ _ _ _ (all_shown _ _ _ w1 n1) (asking_ends _ _ _ x2 e2 w2 n2 a2) = absurd (not_none last x2 n1 n2)
  once last b most _ _ _ _ (one_shown _ _ _ x1 s1 r1 l1 f1 e1 w1 n1 a1 h1) (enough_shown _ _ _ w2) = absurd (no_yes most w2 w1)
  once last b most _ _ _ _ (one_shown _ _ _ x1 s1 r1 l1 f1 e1 w1 n1 a1 h1) (all_shown _ _ _ w2 n2) = absurd (not_none last x1 n2 n1)
  once last b most _ _ _ _ (one_shown _ _ _ x1 s1 r1 l1 f1 e1 w1 n1 a1 h1) (one_shown _ _ _ x2 s2 r2 l2 f2 e2 w2 n2 a2 h2) =
      let same = next_once last x1 x2 n1 n2 in
      let rest = once (Some x1) l1 (one_fewer most) f1 f2 e1 e2 h1 (behind_same last b x1 x2 n1 n2 l1 l2 (one_fewer most) f2 e2 (yes_left last b x1 x2 n1 n2 s1 s2 r1 r2 l1 l2 a1 a2) h2) in
      record { found = ap₂ (λ z fs. z ∷ fs) same rest.found; ending = rest.ending }
  once last b most _ _ _ _ (one_shown _ _ _ x1 s1 r1 l1 f1 e1 w1 n1 a1 h1) (one_passed _ _ _ x2 r2 l2 f2 e2 w2 n2 a2 h2) = absurd (yes_no last b x1 x2 n1 n2 s1 r1 r2 l1 l2 a1 a2)
  once last b most _ _ _ _ (one_shown _ _ _ x1 s1 r1 l1 f1 e1 w1 n1 a1 h1) (asking_ends _ _ _ x2 e2 w2 n2 a2) = absurd (yes_end last b x1 x2 n1 n2 s1 r1 l1 e2 a1 a2)
  once last b most _ _ _ _ (one_passed _ _ _ x1 r1 l1 f1 e1 w1 n1 a1 h1) (enough_shown _ _ _ w2) = absurd (no_yes most w2 w1)
  once last b most _ _ _ _ (one_passed _ _ _ x1 r1 l1 f1 e1 w1 n1 a1 h1) (all_shown _ _ _ w2 n2) = absurd (not_none last x1 n2 n1)
  once last b most _ _ _ _ (one_passed _ _ _ x1 r1 l1 f1 e1 w1 n1 a1 h1) (one_shown _ _ _ x2 s2 r2 l2 f2 e2 w2 n2 a2 h2) = absurd (yes_no last b x2 x1 n2 n1 s2 r2 r1 l2 l1 a2 a1)
  once last b most _ _ _ _ (one_passed _ _ _ x1 r1 l1 f1 e1 w1 n1 a1 h1) (one_passed _ _ _ x2 r2 l2 f2 e2 w2 n2 a2 h2) =
      once (Some x1) l1 most f1 f2 e1 e2 h1 (behind_same last b x1 x2 n1 n2 l1 l2 most f2 e2 (no_left last b x1 x2 n1 n2 r1 r2 l1 l2 a1 a2) h2)
  once last b most _ _ _ _ (one_passed _ _ _ x1 r1 l1 f1 e1 w1 n1 a1 h1) (asking_ends _ _ _ x2 e2 w2 n2 a2) = absurd (no_end last b x1 x2 n1 n2 r1 l1 e2 a1 a2)
  once last b most _ _ _ _ (asking_ends _ _ _ x1 e1 w1 n1 a1) (enough_shown _ _ _ w2) = absurd (no_yes most w2 w1)
  once last b most _ _ _ _ (asking_ends _ _ _ x1 e1 w1 n1 a1) (all_shown _ _ _ w2 n2) = absurd (not_none last x1 n2 n1)
  once last b most _ _ _ _ (asking_ends _ _ _ x1 e1 w1 n1 a1) (one_shown _ _ _ x2 s2 r2 l2 f2 e2 w2 n2 a2 h2) = absurd (yes_end last b x2 x1 n2 n1 s2 r2 l2 e1 a2 a1)
  once last b most _ _ _ _ (asking_ends _ _ _ x1 e1 w1 n1 a1) (one_passed _ _ _ x2 r2 l2 f2 e2 w2 n2 a2 h2) = absurd (no_end last b x2 x1 n2 n1 r2 l2 e1 a2 a1)
  once last b most _ _ _ _ (asking_ends _ _ _ x1 e1 w1 n1 a1) (asking_ends _ _ _ x2 e2 w2 n2 a2) = record { found = refl; ending = ap ends_by (same_end last b x1 x2 n1 n2 e1 e2 a1 a2) }

-- what is shown of the solutions in an order is determined
pub shown_alike : (Is : Matcher → Type 0) (cmp : Matcher → Matcher → Ordering) (asks : Matcher → ℕ → Outcome (Option Binding) → Type 0) →
    ((x : Matcher) (b : ℕ) (o k : Outcome (Option Binding)) → asks x b o → asks x b k → o ≡ k) → IsTotalOrder cmp →
    (last : Option Matcher) (b : ℕ) (most : Option ℕ) (f g : List Matcher) (e d : Ending) → ShowsWhere Is cmp asks last b most f e → ShowsWhere Is cmp asks last b most g d → (f ≡ g) × (e ≡ d)
shown_alike Is cmp asks one total last b most f g e d p q = let h = once Is cmp asks one total last b most f g e d p q in (h.found, h.ending)

-- where no membership is executable, one thing comes of asking
pub asked_once : (m : Meanings) → DerivesNothing m → (p : Tree) (c : List Fragment) (x : Matcher) (b : ℕ) (o k : Outcome (Option Binding)) → Asks m p c x b o → Asks m p c x b k → o ≡ k
asked_once m plain p c x b o k i j =
    let F : ℕ → Outcome (Option Binding) = λ n. m.solving n m.limit (map fragment_of c) (zip (variables p) x.values) b in
    sym i.3 ∙ (ap F (i.2 plain ∙ sym (j.2 plain)) ∙ j.3)

pub shown_once : ShownOnce
shown_once w s m plain c q =
    shown_alike (IsSolution w s (HasDerivedSort m) q) (matcher_cmp (theory_at s) q.pattern) (Asks m q.pattern c) (asked_once m plain q.pattern c) (matchers_are_ordered (theory_at s) q.pattern)

-- ---- from one solution to the next

module _ (Is : Matcher → Type 0) (cmp : Matcher → Matcher → Ordering) (asks : Matcher → ℕ → Outcome (Option Binding) → Type 0) where
  -- what is shown behind the next one for which the condition holds, is shown with it
  pub shows_next : (last : Option Matcher) (b : ℕ) (x : Matcher) (left : ℕ) → NextWhere Is cmp asks last b (next_is x) left → (most : Option ℕ) → wants_one most ≡ true → (found : List Matcher) (e : Ending)
      → ShowsWhere Is cmp asks (Some x) left (one_fewer most) found e → ShowsWhere Is cmp asks last b most (x ∷ found) e
  shows_next _ _ _ _ (next_holds last b x σ r left n a) most w found e h = one_shown last b most x σ r left found e w n a h
  shows_next _ _ z after (next_passed last b x r left o _ n a rest) most w found e h = one_passed last b most x r left (z ∷ found) e w n a (shows_next (Some x) left z after rest most w found e h)

  pub shows_none : (last : Option Matcher) (b left : ℕ) → NextWhere Is cmp asks last b none_is_left left → (most : Option ℕ) → wants_one most ≡ true → ShowsWhere Is cmp asks last b most [] no_more
  shows_none _ _ _ (nothing_next last b n) most w = all_shown last b most w n
  shows_none _ _ after (next_passed last b x r left o _ n a rest) most w = one_passed last b most x r left [] no_more w n a (shows_none (Some x) left after rest most w)

  pub shows_end : (last : Option Matcher) (b : ℕ) (e : End) (left : ℕ) → NextWhere Is cmp asks last b (asking_ended e) left → (most : Option ℕ) → wants_one most ≡ true → ShowsWhere Is cmp asks last b most [] (ends_by e)
  shows_end _ _ _ _ (next_ends last b x e left n a) most w = asking_ends last b most x e w n a
  shows_end _ _ e after (next_passed last b x r left o _ n a rest) most w = one_passed last b most x r left [] (ends_by e) w n a (shows_end (Some x) left e after rest most w)

-- ---- where the same are solutions, the same comes next

module _ (Is Are : Matcher → Type 0) (into : (x : Matcher) → Is x → Are x) (from : (x : Matcher) → Are x → Is x) (cmp : Matcher → Matcher → Ordering) (asks : Matcher → ℕ → Outcome (Option Binding) → Type 0) where
  next_as : (last : Option Matcher) (x : Matcher) → IsLeastBehind Is cmp last x → IsLeastBehind Are cmp last x
  next_as last x n = record { is_one = into x n.is_one; behind = n.behind; least = λ y is behind. n.least y (from y is) behind }

  pub next_where_as : (last : Option Matcher) (b : ℕ) (o : NextOf) (left : ℕ) → NextWhere Is cmp asks last b o left → NextWhere Are cmp asks last b o left
  next_where_as _ _ _ _ (next_holds last b x σ r left n a) = next_holds last b x σ r left (next_as last x n) a
  next_where_as _ _ _ _ (nothing_next last b n) = nothing_next last b (λ x is behind. n x (from x is) behind)
  next_where_as _ _ _ _ (next_ends last b x e left n a) = next_ends last b x e left (next_as last x n) a
  next_where_as _ _ _ _ (next_passed last b x r left o after n a rest) = next_passed last b x r left o after (next_as last x n) a (next_where_as (Some x) left o after rest)
