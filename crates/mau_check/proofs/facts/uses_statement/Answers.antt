use Rattle.std.proofs.Common.{◌↔◌, IfOk, sym, subst}
use Rattle.std.specs.Prelude.{IsTrue}
use Rattle.mau_logic.specs.Justified.{UsesStatement}
use Rattle.mau_check.proofs.facts.uses_statement.Goals as goal

pub returns-then-rule-clause-uses : goal.returns-then-rule-clause-uses
returns-then-rule-clause-uses c d t u vs us named =
    subst (λ b. IfOk c.uses_rule.result (λ yes. IsTrue yes ↔ UsesStatement c.args.program.now b c.args.number d t u vs us)) (sym c.if-rule.true) (c.uses_rule.ensures.uses d t u vs us named)

pub returns-clause-uses : goal.returns-clause-uses
returns-clause-uses c d t u vs us named =
    subst (λ b. IfOk c.uses_equation.result (λ yes. IsTrue yes ↔ UsesStatement c.args.program.now b c.args.number d t u vs us)) (sym c.if-rule.false) (c.uses_equation.ensures.uses d t u vs us named)
