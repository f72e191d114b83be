use Rattle.std.proofs.Common.{ap, ◌∙◌, subst}
use Rattle.std.specs.Option.{option_map}
use Rattle.mau_store.specs.Trees.{tree_at}
use Rattle.mau_sorts.specs.SortSets.{shown_sort}
use Rattle.mau_sorts.specs.Table.{Table, entry_at}
use Rattle.mau_solutions.specs.Standing.{CameOf}
use Rattle.mau_stratitems.specs.Shown.{definitions_of}
use Rattle.mau_stratitems.specs.Asked.{IsValue}
use Rattle.mau_stratitems.proofs.Giving.{sort_shown}
use Rattle.mau_stratitems.proofs.next.with_sort.Goals as goal

pub returns-in-Solution : goal.returns-in-Solution
returns-in-Solution g c = λ m old new same came.
    let p = c.args.program.now in
    let nodes = c.args.store.now in
    let table = g.E.Evaluator.table c.args.evaluator.now in
    let id = c.in-Solution.term in
    let value = subst (IsValue p nodes table) c.in-Solution.is c.requires.term in
    record {
      solution = subst (CameOf m (definitions_of p) old new (tree_at nodes)) c.in-Solution.is came;
      shown = sort_shown p m (g.E.Evaluator.meanings c.args.evaluator.now) same c.requires.program nodes table (g.met.E.Evaluator.derived c.args.evaluator.now nodes c.requires.fits)
          c.shown_sort-sort.ensures.poset id.0 value.0 c.shown_sort-sort.result (c.shown_sort-sort.ensures.shown ∙ ap (λ (t : Table). option_map shown_sort (entry_at t id.0)) c.sorts.ensures.value);
      term = value.0;
    }
