use Rattle.std.proofs.Common.{◌≡◌, List, None, sym, ◌∙◌, subst}
use Rattle.mau_program.specs.declared.statements.Rule.{Rule}
use Rattle.mau_ruleitems.specs.Conditions.{rewriting_condition}
use Rattle.mau_ruleitems.proofs.NoReach.{runnable}
use Rattle.mau_ruleitems.proofs.rewriting.is_runnable.Goals as goal

pub returns-in-None : goal.returns-in-None
returns-in-None c = λ t.
    runnable c.args.program.now c.requires c.operators.ensures.lawful
    (subst (λ (qs : List Rule). rewriting_condition qs ≡ None) c.items.ensures (sym c.rewriting_condition.ensures ∙ c.in-None.is))
