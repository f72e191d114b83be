use Rattle.std.proofs.Common.{inl, refl, ◌∙◌}
use Rattle.std.proofs.lemmas.Option.{slice_get_within}
use Rattle.mau_stratrun.proofs.FormKinds.{if_ok}
use Rattle.mau_stratrun.proofs.Adding.{grown_state, grows_through, entered_from, goes_by, configs_by}
use Rattle.mau_stratrun.proofs.ahead.enter.Goals as goal

pub returns-in-Err-clause-goes : goal.returns-in-Err-clause-goes
returns-in-Err-clause-goes c g forms h p t = goes_by g forms c.args.interner.now c.ahead.new.interner c.args.term.0 (c.ahead.ensures.state g forms h p) c.ahead.ensures.grows c.ahead.ensures.bindings (inl c.ahead.ensures.configs)

pub returns-clause-config : goal.returns-clause-config
returns-clause-config c g forms h p =
    if_ok c.add_config.result c.add_config.ensures.ok
    (λ n e. entered_from g forms c.args.interner.now c.ahead.new.interner c.add_config.new.self (c.ahead.ensures.state g forms h p) h c.ahead.ensures.grows c.add_config.ensures.grows c.args.term c.in-Ok.todo c.args.frames n
    c.in-Ok.ensures.id c.requires.frames e c.args.own c.args.first c.args.rest.0 (c.in-Ok.ensures.todos g forms h p))

pub returns-clause-number : goal.returns-clause-number
returns-clause-number c = if_ok c.add_config.result c.add_config.ensures.ok (λ n e. slice_get_within c.add_config.new.self.configs n (record { term = c.args.term; todo = c.in-Ok.todo; frames = c.args.frames }) e)

pub returns-clause-goes : goal.returns-clause-goes
returns-clause-goes c g forms h p t =
    let s1 = c.ahead.ensures.state g forms h p in
    goes_by g forms c.args.interner.now c.add_config.new.self c.args.term.0
    (grown_state g forms c.ahead.new.interner c.add_config.new.self s1 c.add_config.ensures.grows c.add_config.ensures.interned (c.add_config.ensures.within g.terms _ s1.within t))
    (grows_through c.args.interner.now c.ahead.new.interner c.add_config.new.self c.ahead.ensures.grows c.add_config.ensures.grows)
    (c.add_config.ensures.adds.1 ∙ c.ahead.ensures.bindings)
    (configs_by c.args.interner.now c.ahead.new.interner c.add_config.new.self (record { term = c.args.term; todo = c.in-Ok.todo; frames = c.args.frames }) c.args.term.0 refl c.ahead.ensures.configs c.add_config.ensures.adds.0)
