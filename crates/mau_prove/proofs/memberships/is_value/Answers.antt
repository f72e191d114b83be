use Rattle.std.proofs.Common.{◌∙◌, ap}
use Rattle.mau_poset.specs.Order.{Hierarchy, kind_of}
use Rattle.mau_prove.proofs.Working.{kept_value}
use Rattle.mau_prove.proofs.memberships.is_value.Goals as goal

pub returns-in-Some-has : goal.returns-in-Some-has
returns-in-Some-has c nodes h true_here =
    let s = c.args.sig.now in
    kept_value s c.operators.ensures.lawful nodes c.in-Some.kept c.args.table.now c.args.variable c.args.id (c.in-Some.ensures s nodes h)
    (c.if-kept-kind_of.false ∙ c.kind_of.ensures.value ∙ ap (λ (z : Hierarchy). kind_of z c.args.variable.sort) c.poset-poset.ensures.value)
    c.in-Some-has.ensures.some (λ e at. (c.in-Some-has.ensures.value e at).0 true_here)
