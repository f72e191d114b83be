use Rattle.std.proofs.Common.{ap, map, ◌∙◌}
use Rattle.std.proofs.lemmas.List.{take_all}
use Rattle.mau_leaves.specs.Cursors.{bound_by}
use Rattle.mau_leaves.proofs.cursor.bounds.Goals as goal

pub returns : goal.returns
returns c = c.loop-variable.invariant ∙ ap (map bound_by) (take_all c.loop-variable.variable-index c.args.found.now c.loop-variable-test.false)
