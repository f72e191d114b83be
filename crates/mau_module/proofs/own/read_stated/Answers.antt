use Rattle.std.proofs.Common.{Err, sym, ◌∙◌}
use Rattle.mau_statement.specs.Statements.{StatementRead}
use Rattle.mau_definition.specs.Definitions.{around, DefinitionRead}
use Rattle.mau_module.specs.Stated.{StatedRead, statement_read, statement_unread, definition_read, definition_unread}
use Rattle.mau_module.proofs.Adding.{few_read}
use Rattle.mau_module.proofs.Owns.{handed_on, of_plain}
use Rattle.mau_module.proofs.own.read_stated.Goals as goal

pub returns-in-Ok-clause-read : goal.returns-in-Ok-clause-read
returns-in-Ok-clause-read c = definition_read c.in-Ok.definition (sym c.is_definition.ensures.value ∙ c.if-is_definition.true) c.in-Ok.ensures.read

pub returns-in-Err-clause-fault : goal.returns-in-Err-clause-fault
returns-in-Err-clause-fault c =
    let a = around c.args.words.now c.args.context.now c.args.labels.now c.args.names.now in
    handed_on (λ f. DefinitionRead a c.args.raw.now (Err f)) (λ f. StatedRead a c.args.raw.now (Err f))
    (λ f r. definition_unread f (sym c.is_definition.ensures.value ∙ c.if-is_definition.true) r) c.in-Err.fault c.in-Err.ensures.fault

pub returns-in-Ok-read_statement-clause-read : goal.returns-in-Ok-read_statement-clause-read
returns-in-Ok-read_statement-clause-read c =
    statement_read c.in-Ok-read_statement.statement (sym c.is_definition.ensures.value ∙ c.if-is_definition.false) c.in-Ok-read_statement.ensures.read

pub returns-in-Ok-read_statement-clause-lawful : goal.returns-in-Ok-read_statement-clause-lawful
returns-in-Ok-read_statement-clause-lawful c =
    (c.in-Ok-read_statement.ensures.lawful, few_read c.args.words.now c.args.context.now c.args.raw.now c.in-Ok-read_statement.statement c.in-Ok-read_statement.ensures.read)

pub returns-in-Err-read_statement-clause-fault : goal.returns-in-Err-read_statement-clause-fault
returns-in-Err-read_statement-clause-fault c =
    let a = around c.args.words.now c.args.context.now c.args.labels.now c.args.names.now in
    of_plain (λ f. StatementRead c.args.words.now c.args.context.now c.args.raw.now (Err f)) (λ f. StatedRead a c.args.raw.now (Err f))
    (λ f r. statement_unread f (sym c.is_definition.ensures.value ∙ c.if-is_definition.false) r) c.in-Err-read_statement.fault c.of_statement.result c.of_statement.ensures
    c.in-Err-read_statement.ensures.fault
