use Rattle.mau_strat.proofs.Interning.{config_adds, config_grows, config_in, config_within}
use Rattle.mau_strat.proofs.configs.Interner.add_config.Goals as goal

pub returns-clause-grows : goal.returns-clause-grows
returns-clause-grows c =
    config_grows (record { bindings = c.self.inside.bindings; todos = c.self.inside.todos; frames = c.self.inside.frames; configs = c.self.inside.configs }) c.args.self.now c.self.view_is c.add.new.self c.args.config c.add.ensures.added

pub returns-clause-interned : goal.returns-clause-interned
returns-clause-interned c =
    config_in (record { bindings = c.self.inside.bindings; todos = c.self.inside.todos; frames = c.self.inside.frames; configs = c.self.inside.configs }) c.args.self.now c.self.view_is c.self.invariant c.add.new.self c.args.config c.add.ensures.added c.add.ensures.once c.requires.todo c.requires.frames

pub returns-clause-within : goal.returns-clause-within
returns-clause-within c terms strategies within term =
    config_within (record { bindings = c.self.inside.bindings; todos = c.self.inside.todos; frames = c.self.inside.frames; configs = c.self.inside.configs }) c.args.self.now c.self.view_is terms strategies within c.add.new.self c.args.config c.add.ensures.added term

pub returns-clause-adds : goal.returns-clause-adds
returns-clause-adds c = config_adds (record { bindings = c.self.inside.bindings; todos = c.self.inside.todos; frames = c.self.inside.frames; configs = c.self.inside.configs }) c.args.self.now c.self.view_is c.add.new.self c.args.config c.add.ensures.added
