use Rattle.std.proofs.Common.{◌≡◌, ◌<◌, IfOk, length, get_or, All, refl, sym, ◌∙◌, subst}
use Rattle.std.proofs.lemmas.List.Elements.{All-nil}
use Rattle.std.proofs.lemmas.Option.{slice_get-get_or}
use Rattle.mau_strat.specs.declared.configs.StrategyId.{StrategyId}
use Rattle.mau_stratrun.specs.Yields.{after}
use Rattle.mau_stratrun.specs.Worlds.{yield_of}
use Rattle.mau_stratrun.specs.States.{todos_in, frames_in, config_in}
use Rattle.mau_stratrun.specs.Moves.{state_of, GoesTo}
use Rattle.mau_stratrun.specs.Courses.{IsDefined, term_on, values_on}
use Rattle.mau_stratrun.proofs.FormKinds.{if_ok}
use Rattle.mau_stratrun.proofs.Places.{one_named}
use Rattle.mau_stratrun.proofs.Adding.{goes_through, goes_wider}
use Rattle.mau_stratrun.proofs.Entering.{body_config}
use Rattle.mau_stratrun.proofs.cursor.enter_yield.Goals as goal

pub returns-in-Term-clause-config : goal.returns-in-Term-clause-config
returns-in-Term-clause-config c g forms h b t v =
    subst (λ y. IfOk c.enter.result (λ n. config_in (state_of g forms c.enter.new.interner) n ≡ after (todos_in (state_of g forms c.args.interner.now) c.args.rest.0) (frames_in (state_of g forms c.args.interner.now) c.args.config.frames.0) (yield_of g (g.tree c.args.config.term.0) y)))
    (sym c.in-Term.is) (c.enter.ensures.config g forms h (All-nil (λ e. e < length forms)))

pub returns-in-Term-clause-goes : goal.returns-in-Term-clause-goes
returns-in-Term-clause-goes c g forms h b t v =
    subst (λ y. GoesTo g forms c.args.interner.now forms c.enter.new.interner (term_on c.args.config y) (values_on y)) (sym c.in-Term.is)
    (c.enter.ensures.goes g forms h (All-nil (λ e. e < length forms)) (subst (λ y. term_on c.args.config y < g.terms) c.in-Term.is t))

pub returns-in-Err-clause-goes : goal.returns-in-Err-clause-goes
returns-in-Err-clause-goes c g forms h b t v =
    let vs = subst (All (λ x. x.value.0 < g.terms)) (sym c.deref.ensures.value) (subst (λ y. All (λ x. x.value.0 < g.terms) (values_on y)) c.in-Body.is v) in
    let mid = c.put_values.ensures.goes g forms c.args.config.term.0 h vs in
    subst (λ y. GoesTo g forms c.args.interner.now forms c.put_values.new.interner (term_on c.args.config y) (values_on y)) (sym c.in-Body.is)
    (subst (GoesTo g forms c.args.interner.now forms c.put_values.new.interner c.args.config.term.0) c.deref.ensures.value mid)

pub returns-in-Ok-clause-config : goal.returns-in-Ok-clause-config
returns-in-Ok-clause-config c g forms h b t v =
    let vs = subst (All (λ x. x.value.0 < g.terms)) (sym c.deref.ensures.value) (subst (λ y. All (λ x. x.value.0 < g.terms) (values_on y)) c.in-Body.is v) in
    let mid = c.put_values.ensures.goes g forms c.args.config.term.0 h vs in
    let form : StrategyId = get_or c.args.bodies.now c.in-Body.body.definition (record { 0 = 0 }) in
    let defined = subst (IsDefined (length c.args.bodies.now)) c.in-Body.is c.requires.defined in
    let number = b.numbers c.in-Body.body.definition form (slice_get-get_or c.args.bodies.now c.in-Body.body.definition (record { 0 = 0 }) defined) in
    let named = one_named _ form.0 number.0 in
    subst (λ y. IfOk c.enter-in-Body.result (λ n. config_in (state_of g forms c.enter-in-Body.new.interner) n ≡ after (todos_in (state_of g forms c.args.interner.now) c.args.rest.0) (frames_in (state_of g forms c.args.interner.now) c.args.config.frames.0)
    (yield_of g (g.tree c.args.config.term.0) y))) (sym c.in-Body.is)
    (if_ok c.enter-in-Body.result (c.enter-in-Body.ensures.config g forms mid.state named)
    (λ n q. body_config g forms c.args.interner.now c.put_values.new.interner h c.put_values.ensures.grows (g.tree c.args.config.term.0) c.in-Body.body (record { form = form; calls = c.in-Body.body.calls; values = c.in-Ok.values })
    c.args.rest.0 c.args.config.frames.0 c.requires.rest c.requires.frames number.1 refl (c.in-Ok.ensures.list ∙ c.deref.ensures.value) _ q))

pub returns-in-Ok-clause-goes : goal.returns-in-Ok-clause-goes
returns-in-Ok-clause-goes c g forms h b t v =
    let vs = subst (All (λ x. x.value.0 < g.terms)) (sym c.deref.ensures.value) (subst (λ y. All (λ x. x.value.0 < g.terms) (values_on y)) c.in-Body.is v) in
    let mid = c.put_values.ensures.goes g forms c.args.config.term.0 h vs in
    let form : StrategyId = get_or c.args.bodies.now c.in-Body.body.definition (record { 0 = 0 }) in
    let defined = subst (IsDefined (length c.args.bodies.now)) c.in-Body.is c.requires.defined in
    let number = b.numbers c.in-Body.body.definition form (slice_get-get_or c.args.bodies.now c.in-Body.body.definition (record { 0 = 0 }) defined) in
    let named = one_named _ form.0 number.0 in
    let known = subst (λ y. term_on c.args.config y < g.terms) c.in-Body.is t in
    let last = goes_wider g forms c.put_values.new.interner c.enter-in-Body.new.interner c.args.config.term.0 c.deref.result.now (c.enter-in-Body.ensures.goes g forms mid.state named known) in
    subst (λ y. GoesTo g forms c.args.interner.now forms c.enter-in-Body.new.interner (term_on c.args.config y) (values_on y)) (sym c.in-Body.is)
    (subst (GoesTo g forms c.args.interner.now forms c.enter-in-Body.new.interner c.args.config.term.0) c.deref.ensures.value
    (goes_through g forms c.args.interner.now forms c.put_values.new.interner forms c.enter-in-Body.new.interner c.args.config.term.0 c.deref.result.now mid last))
