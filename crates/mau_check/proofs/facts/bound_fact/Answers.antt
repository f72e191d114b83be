use Rattle.std.proofs.Common.{IfOk, subst}
use Rattle.std.specs.Prelude.{IfSome, IfNone}
use Rattle.mau_check.specs.Named.{IsBoundBy, BindsAll}
use Rattle.mau_check.proofs.facts.bound_fact.Goals as goal

pub returns-clause-some : goal.returns-clause-some
returns-clause-some c s nodes terms before h k =
    let f = c.args.fact.now in
    subst (λ vs. IfOk c.bound_by.result (λ o. IfSome o (IsBoundBy s nodes terms before f.term vs f.uses))) c.items.ensures
    (subst (λ us. IfOk c.bound_by.result (λ o. IfSome o (IsBoundBy s nodes terms before f.term c.items.result.now us))) c.items-2.ensures (c.bound_by.ensures.some s nodes terms before h k))

pub returns-clause-none : goal.returns-clause-none
returns-clause-none c s nodes terms before h k =
    let f = c.args.fact.now in
    subst (λ vs. IfOk c.bound_by.result (λ o. IfNone o (BindsAll s terms before f.term vs f.uses → ⊥))) c.items.ensures
    (subst (λ us. IfOk c.bound_by.result (λ o. IfNone o (BindsAll s terms before f.term c.items.result.now us → ⊥))) c.items-2.ensures (c.bound_by.ensures.none s nodes terms before h k))
