use Rattle.std.proofs.Common.{◌∙◌, ap, sym, map}
use Rattle.mau_cond.proofs.Pairs.{firsts}
use Rattle.mau_cond.proofs.bound.Bound.variables.Goals as goal

pub returns : goal.returns
returns c =
    let i = c.self.inside in
    c.deref.ensures.value ∙ (sym (firsts i.variables.items i.values.items c.self.invariant) ∙ ap (map (λ b. b.0)) c.self.view_is)
