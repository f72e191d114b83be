use Rattle.std.proofs.Common.{subst}
use Rattle.mau_statement.specs.Conditions.{ConditionUnread}
use Rattle.mau_statement.specs.Long.{IsUnreadSomewhere}
use Rattle.mau_statement.specs.declared.fault.StatementFault.{StatementFault}
use Rattle.mau_statement.proofs.Handed.{handed}
use Rattle.mau_statement.proofs.long.has_many_variables.Goals as goal

pub returns-in-Err-has_many_behind-clause-fault : goal.returns-in-Err-has_many_behind-clause-fault
returns-in-Err-has_many_behind-clause-fault c =
    let ws = c.args.words.now in
    let x = c.args.context.now in
    let vars = c.pass_front.new.vars in
    handed (λ f. (e : StatementFault) × ConditionUnread ws x vars c.items.result.now e) (λ f. IsUnreadSomewhere ws x c.args.raw.now)
    (λ f u. (u.0, c.in-Ok.ensures.front.unread u.0 (subst (λ rs. ConditionUnread ws x vars rs u.0) c.items.ensures u.1))) c.in-Err-has_many_behind.fault c.in-Err-has_many_behind.ensures.fault
