use Rattle.std.proofs.Common.{get_or, sym, subst}
use Rattle.mau_stratrun.specs.States.{config_in}
use Rattle.mau_stratrun.specs.Branches.{IsAtPlace}
use Rattle.mau_stratrun.specs.Courses.{state_in, AnswersBy, IsCourse}
use Rattle.mau_stratrun.proofs.Keeping.{begins, nexts}
use Rattle.mau_stratrun.proofs.Placing.{at_place, entry_within, listed_kept, solution_kept}
use Rattle.mau_stratrun.proofs.Stepping.{more_by, due_by}
use Rattle.mau_stratrun.proofs.course.CourseSuccessors.successor.Goals as goal

pub go_on-requires-clause-place : goal.go_on-requires-clause-place
go_on-requires-clause-place g c =
    let given = c.requires.given in
    subst (λ n. IsAtPlace (state_in (g.X.Leaves.world c.args.self.now.leaves) c.args.self.now.forms c.args.self.now.interner) (config_in (state_in (g.X.Leaves.world c.args.self.now.leaves) c.args.self.now.forms c.args.self.now.interner) n) c.args.listed.now c.args.at) (sym c.at-number.ensures)
    (at_place (state_in (g.X.Leaves.world c.args.self.now.leaves) c.args.self.now.forms c.args.self.now.interner) c.requires.ready.1.facts.state c.args.listed.now c.requires.ready.2 c.args.entry c.args.at c.requires.entry c.requires.reached c.requires.behind given.0 given.1 given.2 given.3)

pub returns-clause-more : goal.returns-clause-more
returns-clause-more g c given b n =
    more_by (state_in (g.X.Leaves.world c.args.self.now.leaves) c.args.self.now.forms c.args.self.now.interner) (state_in (g.X.Leaves.world c.go_on.new.self.leaves) c.go_on.new.self.forms c.go_on.new.self.interner) c.requires.ready.1.facts.state c.go_on.ensures.step.larger (get_or c.args.listed.now c.args.entry 0) (entry_within (state_in (g.X.Leaves.world c.args.self.now.leaves) c.args.self.now.forms c.args.self.now.interner) c.requires.ready.1.facts.state c.args.listed.now c.requires.ready.2 c.args.entry c.requires.entry) c.args.at given b n c.go_on.result
    (subst (λ m. AnswersBy (state_in (g.X.Leaves.world c.args.self.now.leaves) c.args.self.now.forms c.args.self.now.interner) (config_in (state_in (g.X.Leaves.world c.args.self.now.leaves) c.args.self.now.forms c.args.self.now.interner) m) c.args.at (state_in (g.X.Leaves.world c.go_on.new.self.leaves) c.go_on.new.self.forms c.go_on.new.self.interner) c.go_on.result) c.at-number.ensures c.go_on.ensures.step.answer)

pub returns-clause-due : goal.returns-clause-due
returns-clause-due g c given b n =
    due_by (state_in (g.X.Leaves.world c.args.self.now.leaves) c.args.self.now.forms c.args.self.now.interner) (state_in (g.X.Leaves.world c.go_on.new.self.leaves) c.go_on.new.self.forms c.go_on.new.self.interner) c.requires.ready.1.facts.state c.go_on.ensures.step.larger (get_or c.args.listed.now c.args.entry 0) (entry_within (state_in (g.X.Leaves.world c.args.self.now.leaves) c.args.self.now.forms c.args.self.now.interner) c.requires.ready.1.facts.state c.args.listed.now c.requires.ready.2 c.args.entry c.requires.entry) c.args.at given b n c.go_on.result
    (subst (λ m. AnswersBy (state_in (g.X.Leaves.world c.args.self.now.leaves) c.args.self.now.forms c.args.self.now.interner) (config_in (state_in (g.X.Leaves.world c.args.self.now.leaves) c.args.self.now.forms c.args.self.now.interner) m) c.args.at (state_in (g.X.Leaves.world c.go_on.new.self.leaves) c.go_on.new.self.forms c.go_on.new.self.interner) c.go_on.result) c.at-number.ensures c.go_on.ensures.step.answer)

pub returns-clause-ready : goal.returns-clause-ready
returns-clause-ready g c = (
  c.go_on.ensures.ready,
  subst (λ bs. IsCourse (g.X.Leaves.world c.go_on.new.self.leaves) c.go_on.new.self.forms bs c.go_on.new.self.interner c.go_on.new.self.kept.items) (sym c.go_on.ensures.bodies) c.go_on.ensures.step.course,
  listed_kept (state_in (g.X.Leaves.world c.args.self.now.leaves) c.args.self.now.forms c.args.self.now.interner) (state_in (g.X.Leaves.world c.go_on.new.self.leaves) c.go_on.new.self.forms c.go_on.new.self.interner) c.requires.ready.1.facts.state c.go_on.ensures.step.larger c.args.listed.now c.requires.ready.2,
)

pub returns-clause-kept_begins : goal.returns-clause-kept_begins
returns-clause-kept_begins g c e cs b = begins (state_in (g.X.Leaves.world c.args.self.now.leaves) c.args.self.now.forms c.args.self.now.interner) (state_in (g.X.Leaves.world c.go_on.new.self.leaves) c.go_on.new.self.forms c.go_on.new.self.interner) c.requires.ready.1.facts.state c.go_on.ensures.step.larger e cs b

pub returns-clause-kept_next : goal.returns-clause-kept_next
returns-clause-kept_next g c e cs b = nexts (state_in (g.X.Leaves.world c.args.self.now.leaves) c.args.self.now.forms c.args.self.now.interner) (state_in (g.X.Leaves.world c.go_on.new.self.leaves) c.go_on.new.self.forms c.go_on.new.self.interner) c.requires.ready.1.facts.state c.go_on.ensures.step.larger e cs b

pub returns-clause-kept_solves : goal.returns-clause-kept_solves
returns-clause-kept_solves g c x i = solution_kept (state_in (g.X.Leaves.world c.args.self.now.leaves) c.args.self.now.forms c.args.self.now.interner) (state_in (g.X.Leaves.world c.go_on.new.self.leaves) c.go_on.new.self.forms c.go_on.new.self.interner) c.requires.ready.1.facts.state c.go_on.ensures.step.larger c.args.listed.now c.requires.ready.2 x i
