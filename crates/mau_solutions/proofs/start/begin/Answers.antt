use Rattle.mau_strat.specs.Forms.{strategy_at}
use Rattle.mau_stratrun.specs.Courses.{state_in}
use Rattle.mau_solutions.proofs.Beginning.{first_reached}
use Rattle.mau_solutions.proofs.start.begin.Goals as goal

pub returns-in-Ok-clause-reached : goal.returns-in-Ok-clause-reached
returns-in-Ok-clause-reached g c =
    first_reached (state_in (g.X.Leaves.world c.in-Ok.begun.course.leaves) c.in-Ok.begun.course.forms c.in-Ok.begun.course.interner) c.in-Ok.begun.walk.listed ((g.X.Leaves.world c.args.leaves).setting.tree c.args.term.0)
    (strategy_at (g.X.Leaves.world c.args.leaves).setting.fixed.leaf c.args.forms c.args.strategy.0) c.in-Ok.ensures.alone c.in-Ok.ensures.began
