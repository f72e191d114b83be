use Rattle.std.proofs.Common.{subst}
use Rattle.mau_formula.specs.Operators.{operators}
use Rattle.mau_store.specs.Trees.{tree_at}
use Rattle.mau_check.specs.declared.check.Judgement.TheVariants.{Accepted}
use Rattle.mau_check.specs.Judged.{IsJudgement}
use Rattle.mau_prove.proofs.Concluded.{proved, if_all}
use Rattle.mau_prove.proofs.certified.is_proof.Goals as goal

pub returns-in-Ok-Accepted-default-Some : goal.returns-in-Ok-Accepted-default-Some
returns-in-Ok-Accepted-default-Some g c =
    let p = c.args.program.now in
    let hooks = operators c.args.hooks.now in
    let x = c.args.section.now in
    let is = c.in-Ok-Accepted-default-Some in
    let judged = subst (λ o. IsJudgement p hooks x (Accepted is.field-0-0 o)) is.field-0-1-is (subst (IsJudgement p hooks x) is.field-0-is is.ensures) in
    if_all c.leads.result c.leads.ensures.variables c.leads.ensures.from c.leads.ensures.to
    (proved p hooks c.args.vars.now x is.field-0-0 is.conclusion (tree_at c.args.store.now c.args.start.0) (tree_at c.args.store.now c.args.end.0) judged)
