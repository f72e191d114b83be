use Rattle.std.proofs.Common.{◌≡◌, ◌<◌, [], false, length, get_or, arith, sym, ◌∙◌, below_more}
use Rattle.std.proofs.lemmas.Option.{slice_get-get_or}
use Rattle.mau_terms.specs.Vars.{same_pair}
use Rattle.mau_docheck.proofs.Places.{place_is}
use Rattle.mau_docheck.proofs.holes.place_of.Goals as goal

pub returns-then-is_at : goal.returns-then-is_at
returns-then-is_at c =
    let ns = c.args.vars.now in
    let i = c.loop-i.i in
    let l : i < length ns = omega (arith, c.loop-i-test.true, c.len-count.ensures.counted) in
    place_is ns (c.args.name.now, c.args.sort) i (omega arith) c.loop-i.invariant (λ _. sym (c.is_at.ensures _ (slice_get-get_or ns i ([], 0) l)) ∙ c.if-is_at.true)

pub loop-i-preserved : goal.loop-i-preserved
loop-i-preserved c =
    let ns = c.args.vars.now in
    let i = c.loop-i.i in
    let l : i < length ns = omega (arith, c.loop-i-test.true, c.len-count.ensures.counted) in
    below_more (λ k. same_pair (c.args.name.now, c.args.sort) (get_or ns k ([], 0)) ≡ false) i c.loop-i.invariant (sym (c.is_at.ensures _ (slice_get-get_or ns i ([], 0) l)) ∙ c.if-is_at.false)

pub returns : goal.returns
returns c =
    let ns = c.args.vars.now in
    let e : c.len-count.result ≡ length ns = c.len-count.ensures.counted in
    place_is ns (c.args.name.now, c.args.sort) c.len-count.result (omega (arith, e))
    (λ k l. c.loop-i.invariant k (omega (arith, l, c.loop-i-test.false))) (λ l. absurd (omega (arith, l, e)))
