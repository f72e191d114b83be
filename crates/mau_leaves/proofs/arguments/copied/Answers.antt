use Rattle.std.proofs.Common.{◌∙◌}
use Rattle.std.proofs.lemmas.List.{take_all}
use Rattle.mau_leaves.proofs.arguments.copied.Goals as goal

pub returns : goal.returns
returns c = c.loop-variable.invariant ∙ take_all c.loop-variable.variable-index c.args.bound.now c.loop-variable-test.false
