use Rattle.std.proofs.Common.{List, refl, sym, ap, ◌∙◌, subst}
use Rattle.mau_store.specs.Trees.{tree_at}
use Rattle.mau_program.specs.declared.program.Program as Typed
use Rattle.mau_program.specs.Trees.{StrategyOf}
use Rattle.mau_api.specs.Programs.{program_over}
use Rattle.mau_stratrun.specs.Settings.{Fixed}
use Rattle.mau_solutions.specs.Standing.{Came}
use Rattle.mau_stratitems.specs.Kept.{reached_over, CanRunOver}
use Rattle.mau_stratitems.specs.Shown.{definitions_of}
use Rattle.mau_stratitems.proofs.Standing.{ready_with}
use Rattle.mau_stratitems.proofs.ask.ask_watched.Goals as goal

pub next_solution-next-requires-clause-run : goal.next_solution-next-requires-clause-run
next_solution-next-requires-clause-run g c =
    let m = g.E.Evaluator.meanings c.args.evaluator in
    let table = g.E.Evaluator.table c.args.evaluator in
    let run : CanRunOver g.L.Lister.asked g.L.Lister.given g.L.Lister.is_for g.L.Lister.with_context c.args.program.now m c.items.result.now table c.args.run =
    subst (λ (l : List StrategyOf). CanRunOver g.L.Lister.asked g.L.Lister.given g.L.Lister.is_for g.L.Lister.with_context c.args.program.now m l table c.args.run) (sym c.items.ensures.leaves) c.requires.run in
    run.running

pub returns-clause-asked : goal.returns-clause-asked
returns-clause-asked g c =
    let m = g.E.Evaluator.meanings c.args.evaluator in
    let defs = definitions_of c.args.program.now in
    let r = c.next_solution-next.new.run in
    let x = r.course.leaves.leaves in
    let ready = c.next_solution-next.ensures.ready in
    let limit = c.next_solution-next.ensures.limit ∙ (c.requires.run.ready.limit ∙ sym (ap (λ (f : Fixed). f.budget) c.next_solution-next.ensures.fixed)) in
    let came = c.next_solution-next.ensures.came m defs (record {
      program = ap (λ (q : Typed.Program). program_over q m.hooks) (sym c.requires.run.ready.goes_by.program);
      definitions = refl;
      levels = refl;
      budget = refl;
      entries = c.requires.run.ready.limit;
    }) in
    record {
      program = x.program.now;
      leaves = x.leaves.now;
      stay = ready.1;
      run = record {
        ready = ready_with g.L.Lister.with_context x.program.now (g.E.Evaluator.meanings x.evaluator) x.leaves.now x.limit r.limit x.store ready.0.0 limit;
        running = c.next_solution-next.ensures.run;
      };
      came = subst (λ (l : List StrategyOf). Came m defs (reached_over l c.args.run) (reached_over x.leaves.now (record {
        run = record { walk = r.walk; course = record { alloc = r.course.alloc; leaves = record { listing = record {} }; forms = r.course.forms; bodies = r.course.bodies; interner = r.course.interner; kept = r.course.kept }; limit = r.limit };
        leaves = c.args.run.leaves;
        store = x.store;
      })) (tree_at x.store) c.next_solution-next.result) c.items.ensures.leaves came;
      term = c.next_solution-next.ensures.term;
    }
