use Rattle.std.proofs.Common.{sym, subst}
use Rattle.mau_store.specs.Trees.{tree_at}
use Rattle.mau_solutions.specs.Standing.{Came}
use Rattle.mau_stratitems.specs.declared.kept.RestingRun.{RestingRun}
use Rattle.mau_stratitems.specs.Kept.{reached_at, reached_by, CanRunAt}
use Rattle.mau_stratitems.specs.Shown.{definitions_of, ComesTo}
use Rattle.mau_stratitems.proofs.next.next_shown.Goals as goal

pub returns-in_ok-run-in-Ok-clause-came : goal.returns-in_ok-run-in-Ok-clause-came
returns-in_ok-run-in-Ok-clause-came g c =
    let m = g.E.Evaluator.meanings c.args.evaluator in
    let old = reached_by c.args.run in
    let rest = c.ask-rest.result.0 in
    let came = subst (λ (r : RestingRun g.row.L.Denot). Came m (definitions_of c.args.program.now) (reached_at r) (reached_at rest) (tree_at rest.store) c.ask-rest.result.2)
    c.into_inner-rest.ensures c.ask-rest.ensures.came in
    subst (λ (r : RestingRun g.row.L.Denot). ComesTo c.args.program.now m old (reached_at r) r.store c.with_sort-next.result) (sym c.in_ok-run-in-Ok.ensures)
    (c.with_sort-next.ensures m old (reached_at rest) c.ask-rest.ensures.meanings
    (subst (Came m (definitions_of c.args.program.now) old (reached_at rest) (tree_at rest.store)) c.in-Ok.is came))

pub returns-in_ok-run-in-Ok-clause-run : goal.returns-in_ok-run-in-Ok-clause-run
returns-in_ok-run-in-Ok-clause-run g c =
    let e = c.ask-rest.result.1 in
    subst (CanRunAt g.L.Lister.asked g.L.Lister.given g.L.Lister.is_for g.L.Lister.with_context c.args.program.now (g.E.Evaluator.meanings e) (g.E.Evaluator.table e)) (sym c.in_ok-run-in-Ok.ensures)
    c.ask-rest.ensures.run
