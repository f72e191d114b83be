use Rattle.mau_strat.proofs.Interning.{bound_adds, bound_within}
use Rattle.mau_strat.proofs.configs.Interner.add_bound.Goals as goal

pub returns-clause-within : goal.returns-clause-within
returns-clause-within c terms strategies within value =
    bound_within (record { bindings = c.self.inside.bindings; todos = c.self.inside.todos; frames = c.self.inside.frames; configs = c.self.inside.configs }) c.args.self.now c.self.view_is terms strategies within c.add.new.self c.args.first c.args.rest.0 c.add.ensures.added c.requires.rest value

pub returns-clause-adds : goal.returns-clause-adds
returns-clause-adds c = bound_adds (record { bindings = c.self.inside.bindings; todos = c.self.inside.todos; frames = c.self.inside.frames; configs = c.self.inside.configs }) c.args.self.now c.self.view_is c.add.new.self c.args.first c.args.rest.0 c.add.ensures.added
