use Rattle.std.proofs.Common.{◌≡◌, Some, None, inl, inr, subst}
use Rattle.mau_api.specs.Variables.{numbered}
use Rattle.mau_check.proofs.Naming.{numbered_is, not_numbered}
use Rattle.mau_check.proofs.facts.rule_at.Goals as goal
use Rattle.mau_check.proofs.facts.rule_at.Goals.{then-number-eq0-via-then-number-eq0, then-number-eq0-via-else-number-eq0+then-number-rules}

pub returns-then-number-eq0-clause-none : goal.returns-then-number-eq0-clause-none
returns-then-number-eq0-clause-none c =
    subst (λ xs. numbered xs c.args.number ≡ None) c.items-rules.ensures
    (elim c.then-number-eq0.branch [
      | then-number-eq0-via-then-number-eq0 w ↦ not_numbered c.items-rules.result.now c.args.number (inl w.if-number-eq0.true)
      | then-number-eq0-via-else-number-eq0+then-number-rules w ↦ not_numbered c.items-rules.result.now c.args.number (inr w.if-number-rules.true)
    ])

pub returns-clause-some : goal.returns-clause-some
returns-clause-some c =
    subst (λ xs. numbered xs c.args.number ≡ Some c.index-rules-number.result) c.items-rules.ensures
    (numbered_is c.items-rules.result.now c.args.number c.index-rules-number.result c.if-number-eq0.false c.if-number-rules.false c.index-rules-number.is)
