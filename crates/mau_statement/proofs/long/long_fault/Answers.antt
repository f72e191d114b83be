use Rattle.std.proofs.Common.{Err, sym, subst}
use Rattle.mau_statement.specs.Faults.{IfFault}
use Rattle.mau_statement.specs.Statements.{StatementRead}
use Rattle.mau_statement.specs.Long.{IsPassed}
use Rattle.mau_statement.proofs.Passing.{tell_variables, tell_fragments, told_unread}
use Rattle.mau_statement.proofs.long.long_fault.Goals as goal

pub returns-then-many : goal.returns-then-many
returns-then-many c =
    let ws = c.args.words.now in
    let x = c.args.context.now in
    tell_variables ws x c.args.raw.now c.requires.long (subst (IsPassed ws x c.args.raw.now) c.if-many.true c.in-Ok.ensures.passed)

pub returns-else-many : goal.returns-else-many
returns-else-many c =
    let ws = c.args.words.now in
    let x = c.args.context.now in
    tell_fragments ws x c.args.raw.now c.requires.long (subst (IsPassed ws x c.args.raw.now) c.if-many.false c.in-Ok.ensures.passed)

pub returns-in-Err : goal.returns-in-Err
returns-in-Err c =
    let ws = c.args.words.now in
    let x = c.args.context.now in
    let raw = c.args.raw.now in
    subst (IfFault (λ f. StatementRead ws x raw (Err f))) (sym c.told_of.ensures) (told_unread ws x raw c.requires.long c.in-Err.fault c.in-Err.ensures.fault)
