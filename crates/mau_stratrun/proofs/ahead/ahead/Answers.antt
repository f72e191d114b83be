use Rattle.std.proofs.Common.{◌<◌, [], length, All, subst}
use Rattle.std.proofs.lemmas.List.Elements.{All-head}
use Rattle.mau_stratrun.specs.Turns.{ids_of}
use Rattle.mau_stratrun.proofs.FormKinds.{if_ok}
use Rattle.mau_stratrun.proofs.Adding.{two_todos, first_in, next_in}
use Rattle.mau_stratrun.proofs.ahead.ahead.Goals as goal

pub returns-in-Err-clause-state : goal.returns-in-Err-clause-state
returns-in-Err-clause-state c g forms h p = c.put-in-Two.ensures.state g forms h (next_in forms c.args.first c.in-Two.form c.in-Two.next c.in-Two.is p)

pub returns-in-One-clause-state : goal.returns-in-One-clause-state
returns-in-One-clause-state c g forms h p = c.put.ensures.state g forms h (All-head (λ e. e < length forms) c.in-One.form.0 [] (subst (λ x. All (λ e. e < length forms) (ids_of x)) c.in-One.is p))

pub returns-in-Ok-clause-todos : goal.returns-in-Ok-clause-todos
returns-in-Ok-clause-todos c g forms h p =
    let s1 = c.put-in-Two.ensures.state g forms h (next_in forms c.args.first c.in-Two.form c.in-Two.next c.in-Two.is p) in
    if_ok c.put-in-Two-2.result (c.put-in-Two-2.ensures.todos g forms s1)
    (λ id e. two_todos g forms c.args.interner.now c.put-in-Two.new.interner c.put-in-Two-2.new.interner c.args.own c.args.first c.in-Two.form c.in-Two.next c.in-Two.is c.args.rest.0 c.in-Ok.behind.0 id.0 c.put-in-Two.ensures.bindings (c.in-Ok.ensures.todos g forms h) e)

pub returns-in-Ok-clause-state : goal.returns-in-Ok-clause-state
returns-in-Ok-clause-state c g forms h p =
    c.put-in-Two-2.ensures.state g forms (c.put-in-Two.ensures.state g forms h (next_in forms c.args.first c.in-Two.form c.in-Two.next c.in-Two.is p)) (first_in forms c.args.first c.in-Two.form c.in-Two.next c.in-Two.is p)
