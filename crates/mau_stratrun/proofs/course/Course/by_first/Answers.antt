use Rattle.std.proofs.Common.{◌<◌, [], length, sym, subst}
use Rattle.std.proofs.lemmas.Option.{slice_get_within}
use Rattle.mau_strat.specs.declared.configs.Config.{Config}
use Rattle.mau_stratrun.specs.States.{config_in}
use Rattle.mau_stratrun.specs.Moves.{Answers}
use Rattle.mau_stratrun.specs.Turns.{KindIs}
use Rattle.mau_stratrun.specs.Branches.{IsBranchAt, IsAtPlace}
use Rattle.mau_stratrun.specs.Courses.{state_in}
use Rattle.mau_stratrun.proofs.FormKinds.{in_all}
use Rattle.mau_stratrun.proofs.Adding.{config_is}
use Rattle.mau_stratrun.proofs.Places.{todo_placed, todo_named}
use Rattle.mau_stratrun.proofs.Keepable.{known_term}
use Rattle.mau_stratrun.proofs.Stepping.{by_memory, plain_step}
use Rattle.mau_stratrun.proofs.course.Course.by_first.Goals as goal

pub kind_of-requires : goal.kind_of-requires
kind_of-requires g c = todo_named c.args.self.now.interner _ _ c.requires.course.facts.state.within c.args.config.todo.0 c.args.own c.args.rest.0 c.requires.todo c.requires.own

pub by_lead-requires-clause-values : goal.by_lead-requires-clause-values
by_lead-requires-clause-values g c = todo_placed c.args.self.now.interner c.requires.course.facts.state.interned c.args.config.todo.0 c.args.own c.args.rest.0 c.requires.todo c.requires.own

pub by_lead-requires-clause-frames : goal.by_lead-requires-clause-frames
by_lead-requires-clause-frames g c = (in_all (λ (x : Config). (x.todo.0 < length c.args.self.now.interner.todos) × (x.frames.0 < length c.args.self.now.interner.frames)) c.args.self.now.interner.configs c.args.number c.args.config c.requires.course.facts.state.interned.configs c.requires.config).1

pub by_branch-answer-requires-clause-values : goal.by_branch-answer-requires-clause-values
by_branch-answer-requires-clause-values g c = todo_placed c.args.self.now.interner c.requires.course.facts.state.interned c.args.config.todo.0 c.args.own c.args.rest.0 c.requires.todo c.requires.own

pub by_branch-answer-requires-clause-frames : goal.by_branch-answer-requires-clause-frames
by_branch-answer-requires-clause-frames g c = (in_all (λ (x : Config). (x.todo.0 < length c.args.self.now.interner.todos) × (x.frames.0 < length c.args.self.now.interner.frames)) c.args.self.now.interner.configs c.args.number c.args.config c.requires.course.facts.state.interned.configs c.requires.config).1

pub by_turns-answer-requires-clause-values : goal.by_turns-answer-requires-clause-values
by_turns-answer-requires-clause-values g c = todo_placed c.args.self.now.interner c.requires.course.facts.state.interned c.args.config.todo.0 c.args.own c.args.rest.0 c.requires.todo c.requires.own

pub by_turns-answer-requires-clause-frames : goal.by_turns-answer-requires-clause-frames
by_turns-answer-requires-clause-frames g c = (in_all (λ (x : Config). (x.todo.0 < length c.args.self.now.interner.todos) × (x.frames.0 < length c.args.self.now.interner.frames)) c.args.self.now.interner.configs c.args.number c.args.config c.requires.course.facts.state.interned.configs c.requires.config).1

pub by_lead-requires-clause-lead : goal.by_lead-requires-clause-lead
by_lead-requires-clause-lead g c = subst (KindIs (g.X.Leaves.world c.args.self.now.leaves).setting.fixed.leaf (g.X.Leaves.world c.args.self.now.leaves).setting.fixed.leaves c.args.self.now.forms c.args.own.form.0) c.in-ByCursor.is (c.kind_of.ensures.kind (g.X.Leaves.world c.args.self.now.leaves).setting.fixed.leaf (g.X.Leaves.world c.args.self.now.leaves).setting.fixed.leaves c.requires.course.facts.state.leaves c.requires.course.facts.state.fixed.kinds)

pub by_branch-answer-requires-clause-todos : goal.by_branch-answer-requires-clause-todos
by_branch-answer-requires-clause-todos g c = slice_get_within c.args.self.now.interner.todos 0 [] c.requires.course.facts.state.no_todos

pub by_turns-answer-requires-clause-form : goal.by_turns-answer-requires-clause-form
by_turns-answer-requires-clause-form g c = (subst (KindIs (g.X.Leaves.world c.args.self.now.leaves).setting.fixed.leaf (g.X.Leaves.world c.args.self.now.leaves).setting.fixed.leaves c.args.self.now.forms c.args.own.form.0) c.in-ByTurns.is (c.kind_of.ensures.kind (g.X.Leaves.world c.args.self.now.leaves).setting.fixed.leaf (g.X.Leaves.world c.args.self.now.leaves).setting.fixed.leaves c.requires.course.facts.state.leaves c.requires.course.facts.state.fixed.kinds)).0

pub by_turns-answer-requires-clause-inner : goal.by_turns-answer-requires-clause-inner
by_turns-answer-requires-clause-inner g c = (subst (KindIs (g.X.Leaves.world c.args.self.now.leaves).setting.fixed.leaf (g.X.Leaves.world c.args.self.now.leaves).setting.fixed.leaves c.args.self.now.forms c.args.own.form.0) c.in-ByTurns.is (c.kind_of.ensures.kind (g.X.Leaves.world c.args.self.now.leaves).setting.fixed.leaf (g.X.Leaves.world c.args.self.now.leaves).setting.fixed.leaves c.requires.course.facts.state.leaves c.requires.course.facts.state.fixed.kinds)).2

pub returns-in-ByBranch-clause-step : goal.returns-in-ByBranch-clause-step
returns-in-ByBranch-clause-step g c =
    let term = known_term (g.X.Leaves.world c.args.self.now.leaves) c.args.self.now.forms c.args.self.now.interner c.args.self.now.bodies.items c.requires.course.facts c.args.number c.args.config c.requires.config in
    let below = (g.met.X.Leaves.laws c.args.self.now.leaves c.requires.ready).terms c.args.config.term.0 term in
    let same = config_is (state_in (g.X.Leaves.world c.args.self.now.leaves) c.args.self.now.forms c.args.self.now.interner) c.args.number c.args.config c.requires.config in
    let kind = subst (KindIs (g.X.Leaves.world c.args.self.now.leaves).setting.fixed.leaf (g.X.Leaves.world c.args.self.now.leaves).setting.fixed.leaves c.args.self.now.forms c.args.own.form.0) c.in-ByBranch.is (c.kind_of.ensures.kind (g.X.Leaves.world c.args.self.now.leaves).setting.fixed.leaf (g.X.Leaves.world c.args.self.now.leaves).setting.fixed.leaves c.requires.course.facts.state.leaves c.requires.course.facts.state.fixed.kinds) in
    let branch : IsBranchAt (state_in (g.X.Leaves.world c.args.self.now.leaves) c.args.self.now.forms c.args.self.now.interner) c.args.own.form.0 (record { test = c.in-ByBranch.test; then = c.in-ByBranch.then; other = c.in-ByBranch.other }) = (kind.0, todo_named c.args.self.now.interner _ _ c.requires.course.facts.state.within c.args.config.todo.0 c.args.own c.args.rest.0 c.requires.todo c.requires.own, kind.1, kind.2, kind.3) in
    let place = subst (λ x. IsAtPlace (state_in (g.X.Leaves.world c.args.self.now.leaves) c.args.self.now.forms c.args.self.now.interner) x c.args.listed.now c.args.at) same c.requires.place in
    plain_step (g.X.Leaves.world c.args.self.now.leaves) (g.met.X.Leaves.laws c.args.self.now.leaves c.requires.ready) c.args.self.now.forms c.args.self.now.forms c.args.self.now.interner c.by_branch-answer.new.interner c.args.self.now.bodies.items c.args.self.now.kept.items (config_in (state_in (g.X.Leaves.world c.args.self.now.leaves) c.args.self.now.forms c.args.self.now.interner) c.args.number) c.args.at c.args.config.term.0 c.by_room.result c.requires.course (c.by_branch-answer.ensures.goes (g.X.Leaves.world c.args.self.now.leaves).setting c.args.self.now.forms c.requires.course.facts.state below branch) term
    (by_memory (state_in (g.X.Leaves.world c.args.self.now.leaves) c.args.self.now.forms c.args.self.now.interner) (config_in (state_in (g.X.Leaves.world c.args.self.now.leaves) c.args.self.now.forms c.args.self.now.interner) c.args.number) c.args.at (state_in (g.X.Leaves.world c.args.self.now.leaves) c.args.self.now.forms c.by_branch-answer.new.interner) c.by_branch-answer.result c.by_room.result c.by_room.ensures.ok c.by_room.ensures.end
    (subst (λ x. Answers (state_in (g.X.Leaves.world c.args.self.now.leaves) c.args.self.now.forms c.args.self.now.interner) x c.args.at (state_in (g.X.Leaves.world c.args.self.now.leaves) c.args.self.now.forms c.by_branch-answer.new.interner) c.by_branch-answer.result) (sym same) (c.by_branch-answer.ensures.answer (g.X.Leaves.world c.args.self.now.leaves).setting c.args.self.now.forms c.requires.course.facts.state below branch place)))

pub returns-in-ByTurns-clause-step : goal.returns-in-ByTurns-clause-step
returns-in-ByTurns-clause-step g c =
    let term = known_term (g.X.Leaves.world c.args.self.now.leaves) c.args.self.now.forms c.args.self.now.interner c.args.self.now.bodies.items c.requires.course.facts c.args.number c.args.config c.requires.config in
    let below = (g.met.X.Leaves.laws c.args.self.now.leaves c.requires.ready).terms c.args.config.term.0 term in
    let same = config_is (state_in (g.X.Leaves.world c.args.self.now.leaves) c.args.self.now.forms c.args.self.now.interner) c.args.number c.args.config c.requires.config in
    let kind = subst (KindIs (g.X.Leaves.world c.args.self.now.leaves).setting.fixed.leaf (g.X.Leaves.world c.args.self.now.leaves).setting.fixed.leaves c.args.self.now.forms c.args.own.form.0) c.in-ByTurns.is (c.kind_of.ensures.kind (g.X.Leaves.world c.args.self.now.leaves).setting.fixed.leaf (g.X.Leaves.world c.args.self.now.leaves).setting.fixed.leaves c.requires.course.facts.state.leaves c.requires.course.facts.state.fixed.kinds) in
    plain_step (g.X.Leaves.world c.args.self.now.leaves) (g.met.X.Leaves.laws c.args.self.now.leaves c.requires.ready) c.args.self.now.forms c.by_turns-answer.new.forms c.args.self.now.interner c.by_turns-answer.new.interner c.args.self.now.bodies.items c.args.self.now.kept.items (config_in (state_in (g.X.Leaves.world c.args.self.now.leaves) c.args.self.now.forms c.args.self.now.interner) c.args.number) c.args.at c.args.config.term.0 c.by_room-in-ByTurns.result c.requires.course (c.by_turns-answer.ensures.goes (g.X.Leaves.world c.args.self.now.leaves).setting c.requires.course.facts.state below kind.1) term
    (by_memory (state_in (g.X.Leaves.world c.args.self.now.leaves) c.args.self.now.forms c.args.self.now.interner) (config_in (state_in (g.X.Leaves.world c.args.self.now.leaves) c.args.self.now.forms c.args.self.now.interner) c.args.number) c.args.at (state_in (g.X.Leaves.world c.args.self.now.leaves) c.by_turns-answer.new.forms c.by_turns-answer.new.interner) c.by_turns-answer.result c.by_room-in-ByTurns.result c.by_room-in-ByTurns.ensures.ok c.by_room-in-ByTurns.ensures.end
    (subst (λ x. Answers (state_in (g.X.Leaves.world c.args.self.now.leaves) c.args.self.now.forms c.args.self.now.interner) x c.args.at (state_in (g.X.Leaves.world c.args.self.now.leaves) c.by_turns-answer.new.forms c.by_turns-answer.new.interner) c.by_turns-answer.result) (sym same) (c.by_turns-answer.ensures.answer (g.X.Leaves.world c.args.self.now.leaves).setting c.requires.course.facts.state below kind.1)))
