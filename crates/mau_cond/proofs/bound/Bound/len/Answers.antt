use Rattle.std.proofs.Common.{◌≡◌, ◌∙◌, ap, length, rules}
use Rattle.std.specs.Vec.{vec_len}
use Rattle.mau_cond.proofs.Pairs.{zipped_length}
use Rattle.mau_cond.proofs.bound.Bound.len.Goals as goal

pub returns : goal.returns
returns c =
    let i = c.self.inside in
    let long : vec_len i.variables ≡ length i.variables.items = search rules in
    c.len.ensures ∙ (long ∙ (zipped_length i.variables.items i.values.items c.self.invariant ∙ ap length c.self.view_is))
