use Rattle.std.proofs.Common.{◌≡◌, ◌≤◌, ◌<◌, ◌+◌, ◌⊎◌, inl, inr, ◌∙◌, ℕ, length, Some, true, sym, ap, subst, arith, rules, vec_len}
use Rattle.std.proofs.lemmas.Option.{slice_get-get_or}
use Rattle.mau_terms.specs.declared.ids.TermId.{TermId}
use Rattle.mau_store.specs.View.{numbers}
use Rattle.mau_rules.specs.Walk.{is_frozen_at}
use Rattle.mau_rules.proofs.Walking.{number_there}
use Rattle.mau_rules.proofs.OpenTerms.{same_operator}
use Rattle.mau_rules.proofs.frames.next_argument.Goals as goal

pub loop-place-init : goal.loop-place-init
loop-place-init c = λ i from low. absurd (omega (arith, from, low))

pub is_frozen-requires : goal.is_frozen-requires
is_frozen-requires c = (c.requires.frame.under c.in-App.op.0 (numbers c.in-App.field-1.now) c.in-App.ensures.node).operator

up_to : (P : ℕ → Type 0) (n : ℕ) → ((i : ℕ) → i < n → P i) → P n → (i : ℕ) → i < n + 1 → P i
up_to P n h here i low = by (split i n low)
  where
    split : (i n : ℕ) → i < n + 1 → (i < n) ⊎ (n ≡ i)
    split i n low = grind (arith, low)

    by : (i < n) ⊎ (n ≡ i) → P i
    by (inl l) = h i l
    by (inr e) = subst P e here

pub loop-place-preserved : goal.loop-place-preserved
loop-place-preserved c = λ i from low.
    let z = is_frozen_at c.args.sig.now c.in-App.op.0 in
    let n = c.loop-place.place in
    up_to (λ j. c.args.at.now.next ≤ j → z j ≡ true) n (λ j l h. c.loop-place.invariant j h l) (λ h. sym (c.is_frozen.ensures n (omega arith)) ∙ c.if-not-is_frozen.false) i low from

pub returns-then-not-is_frozen-clause-some : goal.returns-then-not-is_frozen-clause-some
returns-then-not-is_frozen-clause-some c =
    let n = c.loop-place.place in
    let r = c.index.result.now in
    let xs = c.args.at.now.args.items in
    let long : vec_len c.args.at.now.args ≡ length xs = search rules in
    let low : n < length xs = omega (arith, c.loop-place-test.true, c.len-place-end.ensures, long) in
    record {
      operator = c.in-App.op.0;
      ids = numbers c.in-App.field-1.now;
      at = c.in-App.ensures.node;
      place = n;
      next = omega arith;
      from = c.loop-place.auto.place;
      frozen = c.loop-place.invariant;
      free = sym (c.is_frozen.ensures n (omega arith)) ∙ c.if-not-is_frozen.true;
      argument = number_there xs n r (slice_get-get_or xs n r low ∙ ap (λ (z : TermId). Some z) (sym c.index.ensures));
    }

pub returns-after-loop-place-clause-none : goal.returns-after-loop-place-clause-none
returns-after-loop-place-clause-none c = λ f ids at i from low.
    let same = same_operator c.in-App.op.0 f (numbers c.in-App.field-1.now) ids (sym c.in-App.ensures.node ∙ at) in
    subst (λ g. is_frozen_at c.args.sig.now g i ≡ true) same (c.loop-place.invariant i from (omega (arith, low, c.loop-place-test.false)))
