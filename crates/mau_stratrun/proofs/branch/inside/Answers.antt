use Rattle.std.proofs.Common.{[], ◌∷◌, ◌++◌, sym, subst, arith}
use Rattle.mau_stratrun.specs.Yields.{BeginsBy}
use Rattle.mau_stratrun.specs.Moves.{state_of, made_in}
use Rattle.mau_stratrun.proofs.Keeping.{longer}
use Rattle.mau_stratrun.proofs.Adding.{goes_through}
use Rattle.mau_stratrun.proofs.Places.{one_named}
use Rattle.mau_stratrun.proofs.Deciding.{first_successor, into_is}
use Rattle.mau_stratrun.proofs.branch.inside.Goals as goal

pub returns-in-Err-clause-goes : goal.returns-in-Err-clause-goes
returns-in-Err-clause-goes c g forms h t at = c.frames_of.ensures.goes g forms h t at.1 at.3

pub enter-requires-clause-values : goal.enter-requires-clause-values
enter-requires-clause-values c = omega (arith, longer c.args.interner.now.bindings c.frames_of.new.interner.bindings c.frames_of.ensures.grows.bindings, c.requires.values)

pub enter-requires-clause-rest : goal.enter-requires-clause-rest
enter-requires-clause-rest c = omega (arith, longer c.args.interner.now.todos c.frames_of.new.interner.todos c.frames_of.ensures.grows.todos, c.requires.todos)

pub returns-in-Ok-enter-clause-answer : goal.returns-in-Ok-enter-clause-answer
returns-in-Ok-enter-clause-answer c g forms h t at given b n =
    let first = c.frames_of.ensures.goes g forms h t at.1 at.3 in
    let is = into_is g forms c.args.interner.now c.frames_of.new.interner c.args.config c.args.own c.args.rest.0 c.args.parts h first.state c.frames_of.ensures.grows c.requires.own at c.requires.values c.requires.rest c.requires.frames _ c.in-Ok.frames.0 (c.in-Ok.ensures.frames g forms h) (c.in-Ok-enter.ensures.config g forms first.state (one_named _ c.args.parts.test.0 at.2)) in
    (c.in-Ok-enter.ensures.number, subst (λ x. BeginsBy g.fixed (made_in (state_of g forms c.args.interner.now) c.args.config) (given ++ x ∷ [])) (sym is) (first_successor g forms c.args.interner.now c.args.config c.args.own c.args.rest.0 c.args.parts h c.requires.own at given b n))

pub returns-in-Ok-enter-clause-goes : goal.returns-in-Ok-enter-clause-goes
returns-in-Ok-enter-clause-goes c g forms h t at =
    let first = c.frames_of.ensures.goes g forms h t at.1 at.3 in
    goes_through g forms c.args.interner.now forms c.frames_of.new.interner forms c.enter.new.interner c.args.config.term.0 [] first (c.enter.ensures.goes g forms first.state (one_named _ c.args.parts.test.0 at.2) t)

pub returns-in-Err-enter-clause-goes : goal.returns-in-Err-enter-clause-goes
returns-in-Err-enter-clause-goes c g forms h t at =
    let first = c.frames_of.ensures.goes g forms h t at.1 at.3 in
    goes_through g forms c.args.interner.now forms c.frames_of.new.interner forms c.enter.new.interner c.args.config.term.0 [] first (c.enter.ensures.goes g forms first.state (one_named _ c.args.parts.test.0 at.2) t)
