use Rattle.std.proofs.Common.{◌∙◌, ap, ap₂, ◌++◌, ◌∷◌, []}
use Rattle.std.specs.List.{zip}
use Rattle.mau_cond.proofs.Pairs.{zipped_end}
use Rattle.mau_cond.proofs.bound.Bound.push.Goals as goal

pub returns-in-Ok-push-clause-more : goal.returns-in-Ok-push-clause-more
returns-in-Ok-push-clause-more c =
    let i = c.self.inside in
    ap₂ zip c.in-Ok.ensures.items c.in-Ok-push.ensures.items
    ∙ (zipped_end i.variables.items i.values.items c.args.variable c.args.value c.self.invariant ∙ ap (λ bs. bs ++ (c.args.variable, c.args.value) ∷ []) c.self.view_is)
