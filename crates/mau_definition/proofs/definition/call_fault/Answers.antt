use Rattle.std.proofs.Common.{[], Err, sym, ◌∙◌}
use Rattle.mau_statement.specs.Conditions.{ConditionReads, ConditionUnread}
use Rattle.mau_definition.specs.Definitions.{CallOf, DefinitionUnread, condition_unread_first, no_call_read}
use Rattle.mau_definition.proofs.Told.{statement_told, strategy_told, told_of, cond_as, uncond_as}
use Rattle.mau_definition.proofs.definition.call_fault.Goals as goal

pub returns-in-Ok : goal.returns-in-Ok
returns-in-Ok c = λ a w x told.
    strategy_told (λ g. CallOf a c.args.raw.now [] [] (Err g)) (DefinitionUnread a c.args.raw.now)
    (λ g u. no_call_read g _ _ u (cond_as a c.args.raw.now c.args.words.now c.args.context.now _ _ _ _ w x c.new-vars.ensures c.items.ensures c.in-Ok.ensures.condition))
    c.args.fault c.of_strategy.result c.of_strategy.ensures told

pub returns-in-Err : goal.returns-in-Err
returns-in-Err c = λ a w x told.
    statement_told (ConditionUnread c.args.words.now c.args.context.now c.new-vars.result c.items.result.now) (DefinitionUnread a c.args.raw.now)
    (λ f u. condition_unread_first c.args.fault f
    (told_of (λ g. CallOf a c.args.raw.now [] [] (Err g)) c.args.fault (sym c.is_memory_of_strategy.ensures ∙ c.if-is_memory_of_strategy.false) told)
    (uncond_as a c.args.raw.now c.args.words.now c.args.context.now c.new-vars.result c.items.result.now f w x c.new-vars.ensures c.items.ensures u))
    c.in-Err.first c.of_statement.result c.of_statement.ensures c.in-Err.ensures.fault
