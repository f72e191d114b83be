use Rattle.mau_module.proofs.Truthful.{true_is, true_sorts, true_bare}
use Rattle.mau_module.proofs.context.true_among.Goals as goal

pub operator-requires : goal.operator-requires
operator-requires c =
    true_sorts c.args.sorts.now c.args.signature.now c.requires.truth c.in_ok-decl.decl c.number_in.result c.in_ok-decl.ensures c.number_in.ensures.value c.requires.named

pub returns-in-Ok-clause-value : goal.returns-in-Ok-clause-value
returns-in-Ok-clause-value c = true_is c.args.signature.now c.args.sorts.now c.number_in.result c.in_ok-decl.decl c.in-Ok.op c.number_in.ensures.value c.in_ok-decl.ensures c.in-Ok.ensures.number

pub returns-in-Ok-clause-bare : goal.returns-in-Ok-clause-bare
returns-in-Ok-clause-bare c =
    true_bare c.args.sorts.now c.args.signature.now c.requires.truth c.in_ok-decl.decl c.number_in.result c.in_ok-decl.ensures c.number_in.ensures.value c.in-Ok.op c.in-Ok.ensures.number
