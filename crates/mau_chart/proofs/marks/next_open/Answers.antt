use Rattle.std.proofs.Common.{◌≡◌, ℕ, ◌+◌, ◌<◌, ◌≤◌, ◌⊎◌, inl, inr, List, Bool, Some, length, get_or, true, false, sym, ◌∙◌, ap, subst, arith}
use Rattle.std.specs.List.{slice_get}
use Rattle.std.proofs.Math.ListN.{get_or-eq_default}
use Rattle.std.proofs.lemmas.Bool.{cases_lt}
use Rattle.std.proofs.lemmas.Option.{slice_get-get_or, slice_get_within}
use Rattle.mau_chart.specs.declared.places.Place.{Place}
use Rattle.mau_chart.proofs.Step.{some_one}
use Rattle.mau_chart.proofs.marks.next_open.Goals as goal

abbrev nowhere : Place
nowhere = record { at = 0; end = 0 }

-- the place that stands there is the one that was read
read_there : (places : List Place) (z : ℕ) (p : Place) → slice_get places z ≡ Some p → p ≡ get_or places z nowhere
read_there places z p e = some_one p (get_or places z nowhere) (sym e ∙ slice_get-get_or places z nowhere (slice_get_within places z p e))

marked_more : (full : List Bool) (places : List Place) (from z : ℕ) → get_or full (get_or places z nowhere).end false ≡ true → ((y : ℕ) (p : Place) → from ≤ y → y < z → slice_get places y ≡ Some p → get_or full p.end false ≡ true) → (y : ℕ) (p : Place) → from ≤ y → y < z + 1 → slice_get places y ≡ Some p → get_or full p.end false ≡ true
marked_more full places from z f before y p l h e = by (cases_lt y z)
  where
    by : (y < z) ⊎ (z ≤ y) → get_or full p.end false ≡ true
    by (inl b) = before y p l b e
    by (inr b) =
        let same : y ≡ z = omega (arith, b, h) in
        ap (λ q. get_or full q.end false) (read_there places z p (ap (slice_get places) (sym same) ∙ e)) ∙ f

pub loop-z-preserved : goal.loop-z-preserved
loop-z-preserved c = marked_more c.args.full.now c.args.places.now c.args.from c.loop-z.z c.if-not-full-end.false c.loop-z.invariant

pub returns-then-end-full-clause-open : goal.returns-then-end-full-clause-open
returns-then-end-full-clause-open c p e =
    get_or-eq_default c.args.full.now false (subst (λ q. length c.args.full.now ≤ q.end) (sym (read_there c.args.places.now c.loop-z.z p e)) c.if-end-full.true)

pub returns-then-not-full-end-clause-open : goal.returns-then-not-full-end-clause-open
returns-then-not-full-end-clause-open c p e =
    ap (λ q. get_or c.args.full.now q.end false) (read_there c.args.places.now c.loop-z.z p e) ∙ c.if-not-full-end.true

pub returns-clause-open : goal.returns-clause-open
returns-clause-open c p e = absurd (omega (arith, slice_get_within c.args.places.now (length c.args.places.now) p e))
