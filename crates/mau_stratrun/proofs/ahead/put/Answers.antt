use Rattle.std.proofs.Common.{◌∷◌}
use Rattle.std.proofs.lemmas.Option.{slice_get_within}
use Rattle.mau_strat.specs.Sharing.{list_at}
use Rattle.mau_stratrun.proofs.FormKinds.{if_ok}
use Rattle.mau_stratrun.proofs.Adding.{grown_state, put_todos}
use Rattle.mau_stratrun.proofs.ahead.put.Goals as goal

pub returns-clause-todos : goal.returns-clause-todos
returns-clause-todos c g forms h = if_ok c.add_todo.result c.add_todo.ensures.ok (λ id e. put_todos g forms c.args.interner.now c.add_todo.new.self c.args.own c.args.form c.args.rest.0 id.0 c.add_todo.ensures.adds.1 e)

pub returns-clause-id : goal.returns-clause-id
returns-clause-id c = if_ok c.add_todo.result c.add_todo.ensures.ok (λ id e. slice_get_within c.add_todo.new.self.todos id.0 (record { form = c.args.form; calls = c.args.own.calls; values = c.args.own.values } ∷ list_at c.args.interner.now.todos c.args.rest.0) e)

pub returns-clause-state : goal.returns-clause-state
returns-clause-state c g forms h p = grown_state g forms c.args.interner.now c.add_todo.new.self h c.add_todo.ensures.grows c.add_todo.ensures.interned (c.add_todo.ensures.within g.terms _ h.within p)
