use Rattle.std.proofs.Common.{subst}
use Rattle.mau_statement.specs.Parts.{PairUnread}
use Rattle.mau_statement.specs.Conditions.{ConditionUnread}
use Rattle.mau_statement.specs.Statements.{SidesUnread, sides_unread, condition_unread}
use Rattle.mau_statement.proofs.Handed.{returned, pair_moved, pair_read_moved}
use Rattle.mau_statement.proofs.reading.read_rule.Goals as goal

pub returns-in_err-left-clause-fault : goal.returns-in_err-left-clause-fault
returns-in_err-left-clause-fault c =
    let ws = c.args.words.now in
    let x = c.args.context.now in
    returned (PairUnread ws x c.items.result.now c.items-2.result.now c.new-vars.result) (SidesUnread ws x c.args.raw.now)
    c.from_residual.result c.in_err-left.field-0.0 c.from_residual.ensures.1 c.in_err-left.ensures.fault
    (λ f u. sides_unread f (pair_moved f c.items.ensures c.items-2.ensures c.new-vars.ensures u))

pub returns-in_err-cond-clause-fault : goal.returns-in_err-cond-clause-fault
returns-in_err-cond-clause-fault c =
    let ws = c.args.words.now in
    let x = c.args.context.now in
    let middle = c.read_pair.new.vars in
    let left = c.in_ok-left.left in
    let right = c.in_ok-left.right in
    let sides = pair_read_moved middle left right c.items.ensures c.items-2.ensures c.new-vars.ensures c.in_ok-left.ensures.pair in
    returned (ConditionUnread ws x middle c.items-3.result.now) (SidesUnread ws x c.args.raw.now)
    c.from_residual-in_err-cond.result c.in_err-cond.field-0.0 c.from_residual-in_err-cond.ensures.1 c.in_err-cond.ensures.fault
    (λ f u. condition_unread f middle left right sides (subst (λ rs. ConditionUnread ws x middle rs f) c.items-3.ensures u))
