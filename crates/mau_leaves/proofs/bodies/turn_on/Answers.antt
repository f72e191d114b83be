use Rattle.std.proofs.Common.{Option, Some, None, IsSome, refl, sym, ap, ◌∙◌, subst}
use Rattle.mau_store.specs.Trees.{trees_at}
use Rattle.mau_store.specs.View.{numbers}
use Rattle.mau_store.proofs.Growth.{extension_is_preorder}
use Rattle.mau_sorts.proofs.Settling.{kept_same}
use Rattle.mau_leaves.specs.declared.arguments.ArgumentSearch.{ArgumentSearch}
use Rattle.mau_leaves.proofs.bodies.turn_on.Goals as goal

pub ask_on-requires-clause-search : goal.ask_on-requires-clause-search
ask_on-requires-clause-search g c = (c.args.values.now, c.requires.search)

pub ask_on-requires-clause-within : goal.ask_on-requires-clause-within
ask_on-requires-clause-within g c = c.is_begun.ensures.begun c.if-is_begun.true

pub returns-then-is_begun-clause-turn : goal.returns-then-is_begun-clause-turn
returns-then-is_begun-clause-turn g c = λ k. c.ask_on.ensures.turn k c.args.name.now c.args.values.now c.requires.search

pub returns-then-is_begun-clause-search : goal.returns-then-is_begun-clause-search
returns-then-is_begun-clause-search g c = c.ask_on.ensures.search c.args.values.now c.requires.search

pub returns-in-Some-clause-turn : goal.returns-in-Some-clause-turn
returns-in-Some-clause-turn g c = λ k. c.match_on.ensures.turn k c.args.name.now

pub returns-in-None-clause-turn : goal.returns-in-None-clause-turn
returns-in-None-clause-turn g c = λ k. c.begin_definition.ensures.turn c.args.limit k (g.E.Evaluator.meanings c.args.evaluator.now).hooks c.args.store.now (trees_at c.args.store.now (numbers c.args.values.now))
