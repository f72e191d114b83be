use Rattle.std.proofs.Common.{sym, subst}
use Rattle.mau_logic.specs.Lines.{all_numbered}
use Rattle.mau_check.specs.Said.{AreSaid}
use Rattle.mau_check.proofs.Leading.{chain_found, chain_missing}
use Rattle.mau_check.proofs.plain.chain.Goals as goal

pub returns-in-Ok-None : goal.returns-in-Ok-None
returns-in-Ok-None c before h = chain_missing c.args.sig.now (all_numbered before c.args.numbers.now) (rw c.in-Ok-None.field-0-is at (c.in-Ok-None.ensures.none c.args.sig.now c.args.store.now before h))

pub returns : goal.returns
returns c before h =
    let s = c.args.sig.now in
    let nodes = c.args.store.now in
    chain_found s nodes c.chained.result c.in-Ok-Some.uses.items (all_numbered before c.args.numbers.now) (rw c.in-Ok-Some.field-0-is at (c.in-Ok-Some.ensures.some s nodes before h))
    (λ ys k. c.chained.ensures ys (subst (λ us. AreSaid s nodes us ys) (sym c.deref.ensures.value) k))
