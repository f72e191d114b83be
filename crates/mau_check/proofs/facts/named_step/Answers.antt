use Rattle.std.proofs.Common.{ℕ, List, IfOk, ap₂, subst}
use Rattle.std.specs.Prelude.{IfSome, IfNone}
use Rattle.mau_check.specs.Named.{Numbers, IsNamedBy, NameAll}
use Rattle.mau_check.proofs.facts.named_step.Goals as goal

pub returns-clause-some : goal.returns-clause-some
returns-clause-some c s nodes terms before h k =
    let f = c.args.fact.now in
    let F = λ (vs us : List ℕ). let n : Numbers = record { context = f.context; from = f.from; to = f.to; values = vs; uses = us } in n in
    subst (λ n. IfOk c.named_by.result (λ o. IfSome o (IsNamedBy s nodes terms before n))) (ap₂ F c.items.ensures c.items-2.ensures) (c.named_by.ensures.some s nodes terms before h k)

pub returns-clause-none : goal.returns-clause-none
returns-clause-none c s nodes terms before h k =
    let f = c.args.fact.now in
    let F = λ (vs us : List ℕ). let n : Numbers = record { context = f.context; from = f.from; to = f.to; values = vs; uses = us } in n in
    subst (λ n. IfOk c.named_by.result (λ o. IfNone o (NameAll s terms before n → ⊥))) (ap₂ F c.items.ensures c.items-2.ensures) (c.named_by.ensures.none s nodes terms before h k)
