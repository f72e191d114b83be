use Rattle.std.proofs.Common.{◌≤◌, take, add-one, sym, refl, subst, rules}
use Rattle.mau_resting.specs.Rests.{AreKnownBy}
use Rattle.mau_resting.proofs.Kept.{known_next, found_at}
use Rattle.mau_resting.proofs.levels.most.Goals.{then-known-most, else-known-most}
use Rattle.mau_resting.proofs.levels.most.Goals as goal

pub loop-i-preserved : goal.loop-i-preserved
loop-i-preserved c =
    let both : (c.loop-i.most ≤ c.if-known-most.most) × (c.in-Some.known.now ≤ c.if-known-most.most) =
    elim c.if-known-most.branch [ then-known-most w ↦ (search rules, search rules) | else-known-most w ↦ (search rules, search rules) ] in
    subst (λ n. AreKnownBy c.args.levels.now c.if-known-most.most (take n c.args.terms.now)) (sym (add-one c.loop-i.i))
    (known_next c.args.levels.now c.loop-i.most c.if-known-most.most both.0 c.in-Some.known.now c.loop-i.i _ c.args.terms.now c.loop-i-test.true
    (found_at c.args.levels.now c.args.levels.now _ _ c.in-Some.known.now refl c.in-Some.ensures.lookup.0 c.in-Some.ensures.lookup.1) c.if-known-eq0.false both.1 c.loop-i.invariant)
