use Rattle.std.proofs.Common.{length, eqb-true, sym, subst, ◌∙◌}
use Rattle.mau_store.specs.Node.{AreOf}
use Rattle.mau_store.specs.View.{numbers}
use Rattle.mau_syntactic.proofs.Taken.{is_over, other_count, below_all, older_there}
use Rattle.mau_syntactic.proofs.pattern.take_operator.Goals as goal

pub returns-then-args-count-clause-refused : goal.returns-then-args-count-clause-refused
returns-then-args-count-clause-refused c = λ _.
    other_count c.args.store.now c.args.op.0 c.in-App.top.0 c.in-App.args.now _ c.args.count c.in-App.ensures.tree c.if-args-count.true

pub returns-then-eq-clause-taken : goal.returns-then-eq-clause-taken
returns-then-eq-clause-taken c = λ _.
    is_over c.args.store.now c.args.op.0 c.in-App.top.0 c.in-App.args.now c.args.stack.now.items c.push_all.new.stack.items _ c.args.count c.in-App.ensures.tree
    (eqb-true c.in-App.top.0 c.args.op.0 (sym c.eq.ensures ∙ c.if-eq.true)) c.if-args-count.false c.in_ok-push_all-in-App.ensures

pub returns-then-eq-clause-stack : goal.returns-then-eq-clause-stack
returns-then-eq-clause-stack c =
    let n = length c.args.store.now in
    subst (λ xs. AreOf c.args.store.now (numbers xs)) (sym c.in_ok-push_all-in-App.ensures)
    (below_all n c.args.stack.now.items c.in-App.args.now c.requires.stack (older_there n c.args.id.0 (numbers c.in-App.args.now) c.in-App.ensures.older c.requires.there))
