use Rattle.std.proofs.Common.{◌≡◌, ◌+◌, refl, sym, subst, rules}
use Rattle.mau_store.specs.Trees.{tree_at}
use Rattle.mau_program.specs.declared.program.Program.{Program}
use Rattle.mau_stratitems.specs.declared.kept.RestingRun.{RestingRun}
use Rattle.mau_stratitems.specs.Kept.{reached_by}
use Rattle.mau_stratitems.specs.Shown.{ComesTo, GivesSolution, GivesEnd}
use Rattle.mau_module.specs.Lawful.{program_of}
use Rattle.mau_session.specs.KeptStrategy.{ending_of, CameTo}
use Rattle.mau_session.proofs.searching.show_next.Goals as goal

pub write_solution-requires-clause-there : goal.write_solution-requires-clause-there
write_solution-requires-clause-there g c =
    let p = program_of c.args.module.now in
    let e = g.E.Evaluator.meanings c.args.search.evaluator in
    let old = reached_by c.args.search.run in
    let new = reached_by c.in_ok-shown.shown.run in
    let nodes = c.deref.result.now.store in
    let gives : GivesSolution p e old new nodes c.in-Ok.term.0 c.in-Ok.sort = subst (CameTo p e old new nodes) c.in-Ok.is
    (c.came_of.ensures p e old new nodes
    (subst (λ (r : RestingRun g.row.L.Denot). ComesTo p e old new r.store c.in_ok-shown.shown.next) (sym c.deref.ensures)
    (subst (λ (q : Program). ComesTo q e old new c.in_ok-shown.shown.run.rest.value.store c.in_ok-shown.shown.next) c.program.ensures c.in_ok-shown.ensures.came))) in
    gives.term.within.there

pub returns-in_ok-write_solution-in-Ok-clause-shown : goal.returns-in_ok-write_solution-in-Ok-clause-shown
returns-in_ok-write_solution-in-Ok-clause-shown g c =
    let p = program_of c.args.module.now in
    let e = g.E.Evaluator.meanings c.args.search.evaluator in
    let old = reached_by c.args.search.run in
    let new = reached_by c.in_ok-shown.shown.run in
    let nodes = c.deref.result.now.store in
    let gives : GivesSolution p e old new nodes c.in-Ok.term.0 c.in-Ok.sort = subst (CameTo p e old new nodes) c.in-Ok.is
    (c.came_of.ensures p e old new nodes
    (subst (λ (r : RestingRun g.row.L.Denot). ComesTo p e old new r.store c.in_ok-shown.shown.next) (sym c.deref.ensures)
    (subst (λ (q : Program). ComesTo q e old new c.in_ok-shown.shown.run.rest.value.store c.in_ok-shown.shown.next) c.program.ensures c.in_ok-shown.ensures.came))) in
    let number : c.in_ok-number-in-Ok.number ≡ c.args.search.shown + 1 = search rules in
    record {
      term = tree_at nodes c.in-Ok.term.0;
      sort = c.in-Ok.sort;
      solution = gives.solution;
      shown = gives.shown;
      count = number;
      gained = c.in_ok-write_solution-in-Ok.ensures;
    }

pub returns-in-Err-clause-shown : goal.returns-in-Err-clause-shown
returns-in-Err-clause-shown g c =
    let p = program_of c.args.module.now in
    let e = g.E.Evaluator.meanings c.args.search.evaluator in
    let old = reached_by c.args.search.run in
    let new = reached_by c.in_ok-shown.shown.run in
    let nodes = c.in_ok-shown.shown.run.rest.value.store in
    let gives : GivesEnd p e old new nodes (ending_of c.in-Err.end) = subst (CameTo p e old new nodes) c.in-Err.is
    (c.came_of.ensures p e old new nodes (subst (λ (q : Program). ComesTo q e old new nodes c.in_ok-shown.shown.next) c.program.ensures c.in_ok-shown.ensures.came)) in
    record { passed = gives.passed; passes = gives.passes; stands = gives.stands; cause = gives.cause; count = refl; gained = refl }
