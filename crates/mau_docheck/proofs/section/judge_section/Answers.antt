use Rattle.std.proofs.Common.{subst}
use Rattle.mau_formula.specs.Operators.{operators}
use Rattle.mau_check.specs.Judged.{IsJudgement}
use Rattle.mau_docheck.proofs.section.judge_section.Goals as goal

pub write_judgement-requires : goal.write_judgement-requires
write_judgement-requires g c =
    let hooks = operators c.args.hooks.now in
    (hooks, subst (λ p. IsJudgement p hooks c.args.section.now c.in-Ok.judgement) c.program.ensures c.in-Ok.ensures)

pub returns-in-Ok : goal.returns-in-Ok
returns-in-Ok g c =
    let hooks = operators c.args.hooks.now in
    c.write_judgement.ensures hooks (subst (λ p. IsJudgement p hooks c.args.section.now c.in-Ok.judgement) c.program.ensures c.in-Ok.ensures)
