use Rattle.std.proofs.Common.{ℕ, List, [], IfOk, subst}
use Rattle.std.specs.Prelude.{IfSome, IfNone}
use Rattle.mau_check.specs.Named.{Numbers, IsNamedBy, NameAll}
use Rattle.mau_check.proofs.built.named_built.Goals as goal

pub returns-clause-some : goal.returns-clause-some
returns-clause-some c s nodes terms h =
    let f = c.args.fact.now in
    let F = λ (vs : List ℕ). let n : Numbers = record { context = f.context; from = f.from; to = f.to; values = vs; uses = [] } in n in
    subst (λ vs. IfOk c.named_by.result (λ o. IfSome o (IsNamedBy s nodes terms [] (F vs)))) c.items.ensures (c.named_by.ensures.some s nodes terms [] h tt)

pub returns-clause-none : goal.returns-clause-none
returns-clause-none c s nodes terms h =
    let f = c.args.fact.now in
    let F = λ (vs : List ℕ). let n : Numbers = record { context = f.context; from = f.from; to = f.to; values = vs; uses = [] } in n in
    subst (λ vs. IfOk c.named_by.result (λ o. IfNone o (NameAll s terms [] (F vs) → ⊥))) c.items.ensures (c.named_by.ensures.none s nodes terms [] h tt)
