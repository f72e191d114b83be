use Rattle.std.proofs.Common.{[], length, subst}
use Rattle.mau_strat.specs.Forms.{strategy_at}
use Rattle.mau_stratrun.specs.Turns.{turns, IsTurnAt}
use Rattle.mau_stratrun.proofs.Adding.{goes_through, forms_go}
use Rattle.mau_stratrun.proofs.Places.{more_forms, turned_some, turned_none}
use Rattle.mau_stratrun.proofs.outside.by_turns.Goals as goal

pub returns-in-Ok-clause-answer : goal.returns-in-Ok-clause-answer
returns-in-Ok-clause-answer c g h t has given b n =
    let moved = more_forms g c.args.forms.now c.turn_at.new.forms c.args.interner.now c.turn_at.ensures.extends c.turn_at.ensures.forms (c.turn_at.ensures.leaves _ h.leaves) h in
    let turn = subst (IsTurnAt (strategy_at g.fixed.leaf c.turn_at.new.forms) (length c.turn_at.new.forms) (turns (strategy_at g.fixed.leaf c.args.forms.now c.args.own.form.0)) c.args.at) c.in-Ok-Some.field-0-is (c.in-Ok-Some.ensures.turn g.fixed.leaf has) in
    (c.in-Ok.ensures.number, turned_some g c.args.forms.now c.turn_at.new.forms c.args.interner.now h c.turn_at.ensures.extends c.args.config c.args.own c.args.rest.0 c.requires.parts c.requires.values c.requires.rest c.requires.frames has c.in-Ok-Some.first c.args.at turn _ (c.in-Ok.ensures.config g c.turn_at.new.forms moved turn.1) given b n)

pub returns-in-Ok-clause-goes : goal.returns-in-Ok-clause-goes
returns-in-Ok-clause-goes c g h t has =
    let moved = more_forms g c.args.forms.now c.turn_at.new.forms c.args.interner.now c.turn_at.ensures.extends c.turn_at.ensures.forms (c.turn_at.ensures.leaves _ h.leaves) h in
    let turn = subst (IsTurnAt (strategy_at g.fixed.leaf c.turn_at.new.forms) (length c.turn_at.new.forms) (turns (strategy_at g.fixed.leaf c.args.forms.now c.args.own.form.0)) c.args.at) c.in-Ok-Some.field-0-is (c.in-Ok-Some.ensures.turn g.fixed.leaf has) in
    goes_through g c.args.forms.now c.args.interner.now c.turn_at.new.forms c.args.interner.now c.turn_at.new.forms c.enter.new.interner c.args.config.term.0 []
    (forms_go g c.args.forms.now c.turn_at.new.forms c.args.interner.now c.args.config.term.0 moved c.turn_at.ensures.extends) (c.enter.ensures.goes g c.turn_at.new.forms moved turn.1 t)

pub returns-in-Err-enter-clause-goes : goal.returns-in-Err-enter-clause-goes
returns-in-Err-enter-clause-goes c g h t has =
    let moved = more_forms g c.args.forms.now c.turn_at.new.forms c.args.interner.now c.turn_at.ensures.extends c.turn_at.ensures.forms (c.turn_at.ensures.leaves _ h.leaves) h in
    let turn = subst (IsTurnAt (strategy_at g.fixed.leaf c.turn_at.new.forms) (length c.turn_at.new.forms) (turns (strategy_at g.fixed.leaf c.args.forms.now c.args.own.form.0)) c.args.at) c.in-Ok-Some.field-0-is (c.in-Ok-Some.ensures.turn g.fixed.leaf has) in
    goes_through g c.args.forms.now c.args.interner.now c.turn_at.new.forms c.args.interner.now c.turn_at.new.forms c.enter.new.interner c.args.config.term.0 []
    (forms_go g c.args.forms.now c.turn_at.new.forms c.args.interner.now c.args.config.term.0 moved c.turn_at.ensures.extends) (c.enter.ensures.goes g c.turn_at.new.forms moved turn.1 t)

pub returns-in-Ok-None-clause-answer : goal.returns-in-Ok-None-clause-answer
returns-in-Ok-None-clause-answer c g h t has given b n =
    let turn = subst (IsTurnAt (strategy_at g.fixed.leaf c.turn_at.new.forms) (length c.turn_at.new.forms) (turns (strategy_at g.fixed.leaf c.args.forms.now c.args.own.form.0)) c.args.at) c.in-Ok-None.field-0-is (c.in-Ok-None.ensures.turn g.fixed.leaf has) in
    turned_none g c.args.forms.now c.turn_at.new.forms c.args.interner.now h c.turn_at.ensures.extends c.args.config c.args.own c.args.rest.0 c.requires.parts c.requires.values c.requires.rest c.requires.frames has c.args.at turn given b n

pub returns-in-Ok-None-clause-goes : goal.returns-in-Ok-None-clause-goes
returns-in-Ok-None-clause-goes c g h t has =
    let moved = more_forms g c.args.forms.now c.turn_at.new.forms c.args.interner.now c.turn_at.ensures.extends c.turn_at.ensures.forms (c.turn_at.ensures.leaves _ h.leaves) h in
    forms_go g c.args.forms.now c.turn_at.new.forms c.args.interner.now c.args.config.term.0 moved c.turn_at.ensures.extends

pub returns-in-Err-clause-goes : goal.returns-in-Err-clause-goes
returns-in-Err-clause-goes c g h t has =
    let moved = more_forms g c.args.forms.now c.turn_at.new.forms c.args.interner.now c.turn_at.ensures.extends c.turn_at.ensures.forms (c.turn_at.ensures.leaves _ h.leaves) h in
    forms_go g c.args.forms.now c.turn_at.new.forms c.args.interner.now c.args.config.term.0 moved c.turn_at.ensures.extends
