use Rattle.std.proofs.Common.{List, refl, sym, ap, ◌∙◌, subst}
use Rattle.mau_program.specs.declared.program.Program as Typed
use Rattle.mau_store.specs.Node.{Node}
use Rattle.mau_store.specs.Trees.{tree_at}
use Rattle.mau_strat.specs.Forms.{strategy_at}
use Rattle.mau_stratforms.specs.Meanings.{meaning_of}
use Rattle.mau_leaves.specs.declared.cursor.RunLeaves.{RunLeaves}
use Rattle.mau_leaves.specs.Cursors.{leaf_at}
use Rattle.mau_stratitems.specs.declared.kept.RestingRun.{RestingRun}
use Rattle.mau_stratitems.specs.Kept.{reached_at, CanRunAt}
use Rattle.mau_stratitems.proofs.Beginning.{leaves_in, leaves_apart, leaf_kinds, bodies_in, made_of, begins_at, can_run}
use Rattle.mau_stratitems.proofs.start.begin.Goals as goal

pub new-giver-requires-clause-apart : goal.new-giver-requires-clause-apart
new-giver-requires-clause-apart g c =
    let made = c.in_ok-made.made in
    let ds = c.args.program.now.strategies in
    leaves_apart ds c.args.strategy.now made.forms c.items.result.now made.bodies.items made.strategy.0
    (made_of ds ds c.args.strategy.now made.forms made.leaves c.items.result.now made.bodies.items made.strategy.0 refl c.items.ensures.leaves c.in_ok-made.ensures) c.tables_tell_apart.ensures

pub new-giver-requires-clause-kinds : goal.new-giver-requires-clause-kinds
new-giver-requires-clause-kinds g c =
    let made = c.in_ok-made.made in
    let ds = c.args.program.now.strategies in
    leaf_kinds ds c.args.strategy.now made.forms c.items.result.now made.bodies.items made.strategy.0
    (made_of ds ds c.args.strategy.now made.forms made.leaves c.items.result.now made.bodies.items made.strategy.0 refl c.items.ensures.leaves c.in_ok-made.ensures) c.tables_tell_apart.ensures

pub begin-requires-clause-forms : goal.begin-requires-clause-forms
begin-requires-clause-forms g c =
    let made = c.in_ok-made.made in
    let x = c.new-giver.result in
    leaves_in x.program.now.strategies c.args.strategy.now made.forms x.leaves.now made.bodies.items made.strategy.0
    (made_of c.args.program.now.strategies x.program.now.strategies c.args.strategy.now made.forms made.leaves x.leaves.now made.bodies.items made.strategy.0
    (ap (λ (q : Typed.Program). q.strategies) c.new-giver.ensures.parts.0) (c.new-giver.ensures.parts.1 ∙ c.items.ensures.leaves) c.in_ok-made.ensures)

pub begin-requires-clause-bodies : goal.begin-requires-clause-bodies
begin-requires-clause-bodies g c =
    let made = c.in_ok-made.made in
    let x = c.new-giver.result in
    bodies_in g.L.Lister.asked g.L.Lister.given g.L.Lister.is_for g.L.Lister.with_context x.program.now (g.E.Evaluator.meanings x.evaluator) x.leaves.now x.store (g.E.Evaluator.table x.evaluator)
    c.args.strategy.now made.forms made.bodies.items made.strategy.0
    (made_of c.args.program.now.strategies x.program.now.strategies c.args.strategy.now made.forms made.leaves x.leaves.now made.bodies.items made.strategy.0
    (ap (λ (q : Typed.Program). q.strategies) c.new-giver.ensures.parts.0) (c.new-giver.ensures.parts.1 ∙ c.items.ensures.leaves) c.in_ok-made.ensures)

pub returns-in_ok-run-in-Ok-clause-reached : goal.returns-in_ok-run-in-Ok-clause-reached
returns-in_ok-run-in-Ok-clause-reached g c =
    let made = c.in_ok-made.made in
    let x = c.new-giver.result in
    let b = c.in-Ok.begun in
    let k : RestingRun g.row.L.Denot = record {
      run = record {
        walk = b.walk;
        course = record { alloc = b.course.alloc; leaves = record { listing = record {} }; forms = b.course.forms; bodies = b.course.bodies; interner = b.course.interner; kept = b.course.kept };
        limit = c.args.limit;
      };
      leaves = made.leaves;
      store = b.course.leaves.store;
    } in
    let parts = c.new-giver.ensures.parts in
    let made_in = made_of c.args.program.now.strategies c.args.program.now.strategies c.args.strategy.now made.forms made.leaves x.leaves.now made.bodies.items made.strategy.0
    refl (parts.1 ∙ c.items.ensures.leaves) c.in_ok-made.ensures in
    ap reached_at c.in_ok-run-in-Ok.ensures ∙ begins_at k b.course.leaves.leaves.now (ap (λ (r : RunLeaves g.row.E.Denot g.row.L.Denot). r.leaves.now) c.in-Ok.ensures.leaves ∙ (parts.1 ∙ c.items.ensures.leaves))
    (strategy_at (leaf_at x.leaves.now) made.forms made.strategy.0) (meaning_of c.args.strategy.now) (tree_at x.store c.args.term.0) (tree_at c.args.store c.args.term.0)
    c.in-Ok.ensures.reached made_in.strategy.1 (ap (λ (ns : List Node). tree_at ns c.args.term.0) parts.2)

pub returns-in_ok-run-in-Ok-clause-run : goal.returns-in_ok-run-in-Ok-clause-run
returns-in_ok-run-in-Ok-clause-run g c =
    let made = c.in_ok-made.made in
    let b = c.in-Ok.begun in
    let e = b.course.leaves.evaluator in
    let k : RestingRun g.row.L.Denot = record {
      run = record {
        walk = b.walk;
        course = record { alloc = b.course.alloc; leaves = record { listing = record {} }; forms = b.course.forms; bodies = b.course.bodies; interner = b.course.interner; kept = b.course.kept };
        limit = c.args.limit;
      };
      leaves = made.leaves;
      store = b.course.leaves.store;
    } in
    let parts = c.new-giver.ensures.parts in
    let same = ap (λ (r : RunLeaves g.row.E.Denot g.row.L.Denot). r.evaluator) c.in-Ok.ensures.leaves ∙ c.new-giver.ensures.evaluator.0 in
    subst (CanRunAt g.L.Lister.asked g.L.Lister.given g.L.Lister.is_for g.L.Lister.with_context c.args.program.now (g.E.Evaluator.meanings e) (g.E.Evaluator.table e)) (sym c.in_ok-run-in-Ok.ensures)
    (can_run k b.course.leaves.leaves.now (ap (λ (r : RunLeaves g.row.E.Denot g.row.L.Denot). r.leaves.now) c.in-Ok.ensures.leaves ∙ (parts.1 ∙ c.items.ensures.leaves))
    g.L.Lister.asked g.L.Lister.given g.L.Lister.is_for g.L.Lister.with_context b.course.leaves.program.now c.args.program.now (g.E.Evaluator.meanings e) b.course.leaves.limit (g.E.Evaluator.table e)
    (ap (λ (r : RunLeaves g.row.E.Denot g.row.L.Denot). r.program.now) c.in-Ok.ensures.leaves ∙ parts.0)
    (c.requires.limit ∙ sym (ap (λ (z : g.row.E.Denot). (g.E.Evaluator.meanings z).limit) same))
    c.in-Ok.ensures.ready.0 c.in-Ok.ensures.run)
