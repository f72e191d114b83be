use Rattle.std.proofs.Common.{Ok, Err, sym, subst}
use Rattle.mau_stratrun.specs.Courses.{state_in}
use Rattle.mau_solutions.specs.Standing.{reached_of, GoesBy, Came}
use Rattle.mau_solutions.proofs.Growing.{same_reached}
use Rattle.mau_solutions.proofs.next.next_solution.Goals as goal

pub returns-in-Ok-clause-came : goal.returns-in-Ok-clause-came
returns-in-Ok-clause-came g c m defs k =
    let s = (state_in (g.X.Leaves.world c.args.run.now.course.leaves) c.args.run.now.course.forms c.args.run.now.course.interner) in
    let t = (state_in (g.X.Leaves.world c.ask.new.run.course.leaves) c.ask.new.run.course.forms c.ask.new.run.course.interner) in
    let run = c.requires.run in
    let by : GoesBy m defs t.setting.fixed c.args.run.now.limit = subst (λ f. GoesBy m defs f c.args.run.now.limit) (sym c.ask.ensures.larger.fixed) k in
    let same = same_reached s t run.course.facts.state c.ask.ensures.larger c.args.run.now.walk.listed run.listed.configs run.listed.some in
    subst (λ r. Came m defs r (reached_of t c.ask.new.run.walk.listed) t.setting.tree (Ok c.in-Ok.next)) same (subst (Came m defs (reached_of t c.args.run.now.walk.listed) (reached_of t c.ask.new.run.walk.listed) t.setting.tree) c.in-Ok.is (c.ask.ensures.came m defs by))

pub returns-in-Err-clause-came : goal.returns-in-Err-clause-came
returns-in-Err-clause-came g c m defs k =
    let s = (state_in (g.X.Leaves.world c.args.run.now.course.leaves) c.args.run.now.course.forms c.args.run.now.course.interner) in
    let t = (state_in (g.X.Leaves.world c.ask.new.run.course.leaves) c.ask.new.run.course.forms c.ask.new.run.course.interner) in
    let run = c.requires.run in
    let by : GoesBy m defs t.setting.fixed c.args.run.now.limit = subst (λ f. GoesBy m defs f c.args.run.now.limit) (sym c.ask.ensures.larger.fixed) k in
    let same = same_reached s t run.course.facts.state c.ask.ensures.larger c.args.run.now.walk.listed run.listed.configs run.listed.some in
    subst (λ r. Came m defs r (reached_of t c.ask.new.run.walk.listed) t.setting.tree (Err c.in-Err.e)) same (subst (Came m defs (reached_of t c.args.run.now.walk.listed) (reached_of t c.ask.new.run.walk.listed) t.setting.tree) c.in-Err.is (c.ask.ensures.came m defs by))
