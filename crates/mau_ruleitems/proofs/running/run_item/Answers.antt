use Rattle.std.proofs.Common.{◌≡◌, Err, ap, ap₂, ◌∙◌, subst}
use Rattle.std.specs.Option.{option_map}
use Rattle.mau_terms.specs.declared.ids.TermId.{TermId}
use Rattle.mau_sorts.specs.SortSets.{shown_sort}
use Rattle.mau_sorts.specs.Table.{Table, entry_at}
use Rattle.mau_evaluation.specs.Run.{stopped, too_deep, overflowed}
use Rattle.mau_api.specs.Meanings.{Meanings}
use Rattle.mau_api.specs.Answers.{uses_results, IsDerivedTable}
use Rattle.mau_results.specs.Runs.{run_by}
use Rattle.mau_results.proofs.RunAnswers.{runs_stay}
use Rattle.mau_rules.specs.Runs.{stand_of}
use Rattle.mau_ruleitems.proofs.RunAnswered.{run_given, run_ended, run_sort}
use Rattle.mau_ruleitems.proofs.running.run_item.Goals as goal

pub returns-in-Ok-clause-allowed : goal.returns-in-Ok-clause-allowed
returns-in-Ok-clause-allowed g c =
    let m = g.E.Evaluator.meanings c.args.evaluator.now in
    let s = stand_of c.args.store.now c.args.run.now in
    let p = c.args.program.now in
    let nodes = c.run_rules.new.store in
    let run = c.run_rules.new.run in
    let table = g.E.Evaluator.table c.run_rules.new.evaluator in
    let derived : IsDerivedTable m nodes table = subst (λ (n : Meanings). IsDerivedTable n nodes table) c.run_rules.ensures.meanings (g.met.E.Evaluator.derived c.run_rules.new.evaluator nodes c.run_rules.ensures.fits) in
    let at : c.in-Ok.value.term ≡ run.term = c.in-Ok.ensures.term in
    let its = run_sort p m c.requires.goes_by c.shown_sort-sort.ensures.poset nodes table derived run c.run_rules.ensures.run c.shown_sort-sort.result
    (c.shown_sort-sort.ensures.shown ∙ ap₂ (λ (t : Table) (x : TermId). option_map shown_sort (entry_at t x.0)) c.sorts.ensures.value at) in
    run_given m (g.met.E.Evaluator.laws c.args.evaluator.now) (run_by m c.args.kind c.args.most s) (runs_stay m c.args.kind c.args.most s) (uses_results m (g.W.StepWatcher.wanted c.args.watcher.now))
    c.args.limit c.requires.limit nodes run c.run_rules.result c.run_rules.ensures.exact c.run_rules.ensures.allowed c.in-Ok.end c.in-Ok.value c.in-Ok.is c.shown_sort-sort.result its

pub returns-in-Err-Stopped-clause-allowed : goal.returns-in-Err-Stopped-clause-allowed
returns-in-Err-Stopped-clause-allowed g c =
    let m = g.E.Evaluator.meanings c.args.evaluator.now in
    let s = stand_of c.args.store.now c.args.run.now in
    run_ended m (g.met.E.Evaluator.laws c.args.evaluator.now) (run_by m c.args.kind c.args.most s) (runs_stay m c.args.kind c.args.most s) (uses_results m (g.W.StepWatcher.wanted c.args.watcher.now))
    c.args.limit c.requires.limit c.run_rules.new.store c.run_rules.new.run c.run_rules.result c.run_rules.ensures.exact c.run_rules.ensures.allowed stopped (c.in-Err-Stopped.is ∙ ap Err c.in-Err-Stopped.field-0-is)

pub returns-in-Err-TooDeep-clause-allowed : goal.returns-in-Err-TooDeep-clause-allowed
returns-in-Err-TooDeep-clause-allowed g c =
    let m = g.E.Evaluator.meanings c.args.evaluator.now in
    let s = stand_of c.args.store.now c.args.run.now in
    run_ended m (g.met.E.Evaluator.laws c.args.evaluator.now) (run_by m c.args.kind c.args.most s) (runs_stay m c.args.kind c.args.most s) (uses_results m (g.W.StepWatcher.wanted c.args.watcher.now))
    c.args.limit c.requires.limit c.run_rules.new.store c.run_rules.new.run c.run_rules.result c.run_rules.ensures.exact c.run_rules.ensures.allowed too_deep (c.in-Err-TooDeep.is ∙ ap Err c.in-Err-TooDeep.field-0-is)

pub returns-in-Err-Overflow-clause-allowed : goal.returns-in-Err-Overflow-clause-allowed
returns-in-Err-Overflow-clause-allowed g c =
    let m = g.E.Evaluator.meanings c.args.evaluator.now in
    let s = stand_of c.args.store.now c.args.run.now in
    run_ended m (g.met.E.Evaluator.laws c.args.evaluator.now) (run_by m c.args.kind c.args.most s) (runs_stay m c.args.kind c.args.most s) (uses_results m (g.W.StepWatcher.wanted c.args.watcher.now))
    c.args.limit c.requires.limit c.run_rules.new.store c.run_rules.new.run c.run_rules.result c.run_rules.ensures.exact c.run_rules.ensures.allowed overflowed (c.in-Err-Overflow.is ∙ ap Err c.in-Err-Overflow.field-0-is)
