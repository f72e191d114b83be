use Rattle.std.proofs.Common.{◌∙◌, sym}
use Rattle.mau_chart.proofs.Grouped.{groups_at-place, groups_at-past}
use Rattle.mau_chart.proofs.groups.groups_of.Goals as goal

pub returns-then-r-index : goal.returns-then-r-index
returns-then-r-index c = c.deref.ensures.value ∙ sym (groups_at-place c.args.index.now c.args.r c.index-index-r.result c.if-r-index.true c.index-index-r.is)

pub returns-else-r-index : goal.returns-else-r-index
returns-else-r-index c = sym (groups_at-past c.args.index.now c.args.r c.if-r-index.false)
