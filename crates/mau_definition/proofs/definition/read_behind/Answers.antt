use Rattle.std.proofs.Common.{[], Ok, Err, sym, subst, ◌∙◌}
use Rattle.mau_statement.specs.Conditions.{ConditionReads, ConditionUnread}
use Rattle.mau_definition.specs.Definitions.{around, BodyRead, DefinitionUnread, condition_unread}
use Rattle.mau_strattext.specs.Strategies.{IfTold}
use Rattle.mau_definition.specs.Faults.{IfFault}
use Rattle.mau_definition.specs.Inner.{IsBodyFault}
use Rattle.mau_definition.proofs.Told.{statement_told, body_told}
use Rattle.mau_definition.proofs.definition.read_behind.Goals as goal

pub returns-in-Err-clause-fault : goal.returns-in-Err-clause-fault
returns-in-Err-clause-fault c =
    let a = around c.args.words.now c.args.context.now c.args.labels.now c.args.names.now in
    statement_told (ConditionUnread a.words a.context c.args.vars c.items.result.now) (DefinitionUnread a c.args.raw.now)
    (λ f u. condition_unread c.args.call c.args.vars f c.requires.call (subst (λ zs. ConditionUnread a.words a.context c.args.vars zs f) c.items.ensures u))
    c.in-Err.fault c.of_statement.result c.of_statement.ensures c.in-Err.ensures.fault

pub returns-in-Err-read_body-clause-fault : goal.returns-in-Err-read_body-clause-fault
returns-in-Err-read_body-clause-fault c =
    let a = around c.args.words.now c.args.context.now c.args.labels.now c.args.names.now in
    let raw = c.args.raw.now in
    let l = c.read_condition.new.vars in
    body_told a raw c.args.call c.args.vars l c.in-Ok.cond c.requires.call
    (subst (λ zs. ConditionReads a.words a.context c.args.vars zs l c.in-Ok.cond) c.items.ensures c.in-Ok.ensures.condition) c.in-Err-read_body.fault c.body_fault.result
    (subst (λ zs. IfTold (λ g. IfFault (IsBodyFault c.args.call.args zs g) c.body_fault.result) c.in-Err-read_body.fault) c.items-in-Err-read_body.ensures c.body_fault.ensures.first)
    c.body_fault.ensures.memory
    (subst (λ ts. IfTold (λ f. BodyRead a ts l l (Err f)) c.in-Err-read_body.fault) c.items-2.ensures c.in-Err-read_body.ensures.fault)
