use Rattle.std.proofs.Common.{ap, map, ◌∙◌}
use Rattle.std.proofs.lemmas.List.{take_all}
use Rattle.mau_leaves.specs.Given.{pair_by}
use Rattle.mau_leaves.proofs.given.pairs_of.Goals as goal

pub returns : goal.returns
returns c = c.loop-bound.invariant ∙ ap (map pair_by) (take_all c.loop-bound.bound-index c.args.values.now c.loop-bound-test.false)
