use Rattle.std.proofs.Common.{◌∙◌, ap, ap₂, take}
use Rattle.std.specs.List.{zip}
use Rattle.mau_cond.proofs.Pairs.{zipped_take}
use Rattle.mau_cond.proofs.bound.Bound.keep.Goals as goal

pub returns : goal.returns
returns c =
    let i = c.self.inside in
    ap₂ zip c.truncate.ensures.items c.truncate-2.ensures.items
    ∙ (zipped_take c.args.count i.variables.items i.values.items ∙ ap (take c.args.count) c.self.view_is)
