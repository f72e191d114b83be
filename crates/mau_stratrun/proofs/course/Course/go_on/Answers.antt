use Rattle.std.proofs.Common.{◌≡◌, ◌<◌, [], ◌∷◌, length, sym, subst, rules, arith}
use Rattle.mau_strat.specs.Sharing.{list_at}
use Rattle.mau_strat.specs.declared.configs.Config.{Config}
use Rattle.mau_stratrun.specs.States.{config_in}
use Rattle.mau_stratrun.specs.Moves.{Answers}
use Rattle.mau_stratrun.specs.Courses.{state_in}
use Rattle.mau_stratrun.proofs.FormKinds.{in_all}
use Rattle.mau_stratrun.proofs.Adding.{config_is}
use Rattle.mau_stratrun.proofs.Keepable.{known_term}
use Rattle.mau_stratrun.proofs.Stepping.{by_memory, plain_step}
use Rattle.mau_stratrun.proofs.course.Course.go_on.Goals as goal

pub todo_parts-requires : goal.todo_parts-requires
todo_parts-requires g c = (in_all (λ (x : Config). (x.todo.0 < length c.args.self.now.interner.todos) × (x.frames.0 < length c.args.self.now.interner.frames)) c.args.self.now.interner.configs c.args.number c.config-config.result c.requires.course.facts.state.interned.configs c.config-config.ensures.config).0

pub outside-answer-requires-clause-frames : goal.outside-answer-requires-clause-frames
outside-answer-requires-clause-frames g c = (in_all (λ (x : Config). (x.todo.0 < length c.args.self.now.interner.todos) × (x.frames.0 < length c.args.self.now.interner.frames)) c.args.self.now.interner.configs c.args.number c.config-config.result c.requires.course.facts.state.interned.configs c.config-config.ensures.config).1

pub outside-answer-requires-clause-done : goal.outside-answer-requires-clause-done
outside-answer-requires-clause-done g c = let e : list_at c.args.self.now.interner.todos c.config-config.result.todo.0 ≡ [] = search rules in e

pub by_first-requires-clause-own : goal.by_first-requires-clause-own
by_first-requires-clause-own g c = let e : list_at c.args.self.now.interner.todos c.config-config.result.todo.0 ≡ c.in-Some.own ∷ list_at c.args.self.now.interner.todos c.in-Some.rest.0 = search rules in e

pub by_first-requires-clause-rest : goal.by_first-requires-clause-rest
by_first-requires-clause-rest g c =
    let within = (in_all (λ (x : Config). (x.todo.0 < length c.args.self.now.interner.todos) × (x.frames.0 < length c.args.self.now.interner.frames)) c.args.self.now.interner.configs c.args.number c.config-config.result c.requires.course.facts.state.interned.configs c.config-config.ensures.config).0 in
    let older : c.in-Some.rest.0 < c.config-config.result.todo.0 = search rules in
    omega arith

pub returns-in-None-clause-step : goal.returns-in-None-clause-step
returns-in-None-clause-step g c =
    let term = known_term (g.X.Leaves.world c.args.self.now.leaves) c.args.self.now.forms c.args.self.now.interner c.args.self.now.bodies.items c.requires.course.facts c.args.number c.config-config.result c.config-config.ensures.config in
    let below = (g.met.X.Leaves.laws c.args.self.now.leaves c.requires.ready).terms c.config-config.result.term.0 term in
    let same = config_is (state_in (g.X.Leaves.world c.args.self.now.leaves) c.args.self.now.forms c.args.self.now.interner) c.args.number c.config-config.result c.config-config.ensures.config in
    plain_step (g.X.Leaves.world c.args.self.now.leaves) (g.met.X.Leaves.laws c.args.self.now.leaves c.requires.ready) c.args.self.now.forms c.args.self.now.forms c.args.self.now.interner c.outside-answer.new.interner c.args.self.now.bodies.items c.args.self.now.kept.items (config_in (state_in (g.X.Leaves.world c.args.self.now.leaves) c.args.self.now.forms c.args.self.now.interner) c.args.number) c.args.at c.config-config.result.term.0 c.by_room.result c.requires.course (c.outside-answer.ensures.goes (g.X.Leaves.world c.args.self.now.leaves).setting c.args.self.now.forms c.requires.course.facts.state below) term
    (by_memory (state_in (g.X.Leaves.world c.args.self.now.leaves) c.args.self.now.forms c.args.self.now.interner) (config_in (state_in (g.X.Leaves.world c.args.self.now.leaves) c.args.self.now.forms c.args.self.now.interner) c.args.number) c.args.at (state_in (g.X.Leaves.world c.args.self.now.leaves) c.args.self.now.forms c.outside-answer.new.interner) c.outside-answer.result c.by_room.result c.by_room.ensures.ok c.by_room.ensures.end
    (subst (λ x. Answers (state_in (g.X.Leaves.world c.args.self.now.leaves) c.args.self.now.forms c.args.self.now.interner) x c.args.at (state_in (g.X.Leaves.world c.args.self.now.leaves) c.args.self.now.forms c.outside-answer.new.interner) c.outside-answer.result) (sym same) (c.outside-answer.ensures.answer (g.X.Leaves.world c.args.self.now.leaves).setting c.args.self.now.forms c.requires.course.facts.state below)))
