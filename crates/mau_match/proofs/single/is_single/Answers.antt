use Rattle.mau_match.proofs.Singles.{single}
use Rattle.mau_match.proofs.single.is_single.Goals as goal

pub returns : goal.returns
returns c = λ r known table.
    single c.args.sig.now c.args.op.0 c.args.sort c.requires.operator c.if-not-is_never_declared.ensures.some (c.is_never_declared.ensures.never c.if-not-is_never_declared.false) c.args.store.now c.args.sorts.now (c.is_never_settled.ensures r) known table
