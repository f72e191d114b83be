use Rattle.std.proofs.Common.{arith, rules}
use Rattle.mau_module.specs.Stated.{IsHead}
use Rattle.mau_module.proofs.Alls.{all_more, all_whole}
use Rattle.mau_module.proofs.own.have_heads.Goals as goal

pub loop-membership-preserved : goal.loop-membership-preserved
loop-membership-preserved c =
    all_more (IsHead c.args.signature.now) c.args.memberships.now c.loop-membership.membership-index c.membership-item.result (omega arith) c.membership-item.is c.loop-membership.invariant (search rules)

pub returns-clause-yes : goal.returns-clause-yes
returns-clause-yes c = λ _. all_whole (IsHead c.args.signature.now) c.args.memberships.now c.loop-membership.membership-index (omega arith) c.loop-membership.invariant
