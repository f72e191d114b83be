use Rattle.std.proofs.Common.{reverse}
use Rattle.mau_strattext.proofs.BuildSteps.{form_next}
use Rattle.mau_strattext.proofs.build.build_next.Goals as goal

pub returns-in-Ok-clause-answer : goal.returns-in-Ok-clause-answer
returns-in-Ok-clause-answer c =
    form_next c.args.setting.now c.args.under_top c.opens_top.result c.args.first c.args.behind.now (reverse c.args.stack.now.items) (reverse c.make.new.stack.items) c.args.vars.now
    c.in-Ok.ensures.made c.opens_top.ensures
