use Rattle.std.proofs.Common.{◌≡◌, sym, subst, ◌∙◌}
use Rattle.mau_statement.specs.declared.fault.StatementFault.TheVariants.{UnboundVariable}
use Rattle.mau_definition.specs.Faults.{IfFault}
use Rattle.mau_definition.specs.Inner.{IsBodyFault, unbound_first, body_alone}
use Rattle.mau_definition.specs.declared.fault.DefinitionFault.TheVariants.{Statement}
use Rattle.mau_definition.proofs.Told.{told_at, strategy_at}
use Rattle.mau_definition.proofs.definition.body_fault.Goals as goal

pub returns-in-Ok-true-clause-first : goal.returns-in-Ok-true-clause-first
returns-in-Ok-true-clause-first c =
    told_at (λ g. IfFault (IsBodyFault c.args.args.now c.args.cond.now g) c.of_strategy.result) c.args.fault
    (subst (IfFault (IsBodyFault c.args.args.now c.args.cond.now c.args.fault)) (sym c.of_strategy.ensures)
    (strategy_at (IsBodyFault c.args.args.now c.args.cond.now) (λ g. body_alone (sym c.in-Ok-true.ensures ∙ c.in-Ok-true.field-0-test)) c.args.fault))

pub returns-in-Ok-false-clause-first : goal.returns-in-Ok-false-clause-first
returns-in-Ok-false-clause-first c =
    told_at (λ g. IfFault (IsBodyFault c.args.args.now c.args.cond.now g) (Statement UnboundVariable)) c.args.fault (unbound_first (sym c.in-Ok-false.ensures ∙ c.in-Ok-false.field-0-test))
