use Rattle.mau_statement.specs.Parts.{PairUnread}
use Rattle.mau_statement.specs.Statements.{PartsUnread, sides_unread}
use Rattle.mau_statement.proofs.Handed.{handed, pair_moved, pair_read_moved}
use Rattle.mau_statement.proofs.Passing.{front_sides, sides_at_fault}
use Rattle.mau_statement.proofs.long.pass_sides.Goals as goal

pub returns-in-Ok-clause-front : goal.returns-in-Ok-clause-front
returns-in-Ok-clause-front c =
    let os = c.read_pair.new.vars in
    let a = c.in-Ok.field-0.0 in
    let b = c.in-Ok.field-0.1 in
    front_sides c.args.words.now c.args.context.now c.args.raw.now os a b c.requires.no_head c.requires.read
    (pair_read_moved os a b c.items.ensures c.items-2.ensures c.requires.none c.in-Ok.ensures.pair)

pub returns-clause-fault : goal.returns-clause-fault
returns-clause-fault c =
    let ws = c.args.words.now in
    let x = c.args.context.now in
    handed (PairUnread ws x c.items.result.now c.items-2.result.now c.args.vars.now) (PartsUnread ws x c.args.raw.now)
    (λ f u. sides_at_fault ws x c.args.raw.now f c.requires.no_head c.requires.read (sides_unread f (pair_moved f c.items.ensures c.items-2.ensures c.requires.none u)))
    c.in-Err.fault c.in-Err.ensures.fault
