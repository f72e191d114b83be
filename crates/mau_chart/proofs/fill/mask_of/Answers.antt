use Rattle.std.proofs.Common.{arith}
use Rattle.std.proofs.lemmas.Option.{slice_get_within}
use Rattle.mau_chart.proofs.Masks.{is_mask}
use Rattle.mau_chart.proofs.fill.mask_of.Goals as goal

pub returns : goal.returns
returns c = is_mask c.args.productions.now c.args.leaves.now c.loop-k-2.mask.items c.args.i c.loop-k-2.invariant.forms
    (λ k l e z. c.loop-k-2.invariant.leaves k l (omega (arith, slice_get_within c.args.leaves.now k l e, c.loop-k-2-test.false)) e z)
