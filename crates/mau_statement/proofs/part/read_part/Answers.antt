use Rattle.std.proofs.Common.{sym, subst, ◌∙◌}
use Rattle.mau_statement.specs.Faults.{IfFault}
use Rattle.mau_statement.specs.Parts.{PartUnread, nothing_there}
use Rattle.mau_statement.proofs.Handed.{part_fault}
use Rattle.mau_statement.proofs.part.read_part.Goals as goal

pub returns-then-is_empty-clause-fault : goal.returns-then-is_empty-clause-fault
returns-then-is_empty-clause-fault c =
    subst (IfFault (PartUnread c.args.words.now c.args.context.now.grammar c.args.tokens.now c.args.goal c.args.vars.now)) (sym c.no_term.ensures)
    (nothing_there (sym c.is_empty.ensures ∙ c.if-is_empty.true))

pub returns-in-Err-clause-fault : goal.returns-in-Err-clause-fault
returns-in-Err-clause-fault c =
    part_fault c.args.words.now c.args.context.now.grammar c.args.tokens.now c.args.goal c.args.vars.now (sym c.is_empty.ensures ∙ c.if-is_empty.false) c.in-Err.fault c.into.result c.in-Err.ensures.fault c.into.ensures
