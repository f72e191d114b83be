use Rattle.std.proofs.Common.{◌≡◌, ◌<◌, arith, sym, ◌∙◌, refl, slice_get, below_more}
use Rattle.mau_prove.proofs.Copied.{same_lists}
use Rattle.mau_prove.proofs.certified.are_same.Goals as goal

pub loop-i-preserved : goal.loop-i-preserved
loop-i-preserved c = λ j l. below_more (λ k. slice_get c.args.first.now k ≡ slice_get c.args.second.now k) c.loop-i.i c.loop-i.invariant (c.if-not-is_same_at.ensures refl) j l

pub returns : goal.returns
returns c = λ e.
    same_lists c.args.first.now c.args.second.now (sym c.len.ensures.counted ∙ c.if-len.false ∙ c.len-2.ensures.counted)
    (λ j l. c.loop-i.invariant j (omega (arith, l, c.loop-i-test.false, c.len-i-end.ensures.counted)))
