use Rattle.std.proofs.Common.{map, false, Some, Ok, sym, ap, subst}
use Rattle.mau_terms.specs.Tree.{Tree}
use Rattle.mau_rules.specs.Walk.{opened, around_all}
use Rattle.mau_rules.proofs.Paths.{opened_kept}
use Rattle.mau_leaves.specs.Steps.{Passes, Throughout}
use Rattle.mau_leaves.specs.Top.{left_around, IsNextResult}
use Rattle.mau_evaluation.specs.Engine.{engine_of}
use Rattle.mau_api.specs.Programs.{program_over}
use Rattle.mau_leaves.specs.AtPlace.{use_at}
use Rattle.mau_leaves.proofs.Tables.{over_of}
use Rattle.mau_leaves.proofs.TopTurns.{some_use}
use Rattle.mau_leaves.proofs.TopSteps.{top_with, top_grown, given_top, still_top, value_given, value_ends}
use Rattle.mau_leaves.proofs.top.give.Goals as goal

pub use_value-requires-clause-place : goal.use_value-requires-clause-place
use_value-requires-clause-place g c = c.requires.top.place

pub use_value-requires-clause-found : goal.use_value-requires-clause-found
use_value-requires-clause-found g c = c.requires.top.stands c.requires.due

pub returns-in-Ok-clause-next : goal.returns-in-Ok-clause-next
returns-in-Ok-clause-next g c = λ chosen.
    let m = g.E.Evaluator.meanings c.args.evaluator.now in
    let p = c.args.program.now in
    let old = c.args.store.now in
    let before = g.E.Evaluator.table c.args.evaluator.now in
    let top = c.args.top.now in
    let new = c.use_value.new.store in
    let after = g.E.Evaluator.table c.use_value.new.evaluator in
    let over = over_of p m (g.E.Evaluator.meanings c.use_value.new.evaluator) c.use_value.ensures.meanings c.requires.goes_by.program new after (g.met.E.Evaluator.derived c.use_value.new.evaluator new c.use_value.ensures.fits) in
    let used = some_use (use_at g.L.Lister.asked g.L.Lister.given p old top.place) (c.requires.top.stands c.requires.due) in
    let w = c.requires.walk in
    let same = ap (around_all (λ v. v)) (opened_kept old new c.use_value.ensures.extends w.0 c.args.way.now top.place.term.0 w.1.path) in
    subst (λ (a : Tree → Tree). IsNextResult (program_over p m.hooks) c.args.limit (left_around g.L.Lister.asked g.L.Lister.given p m.hooks chosen (around_all (λ v. v) (map (opened old) c.args.way.now)) old top) (left_around g.L.Lister.asked g.L.Lister.given p m.hooks chosen a new (top_with top.place false)) new (Ok (Some c.in-Ok.value))) (sym same)
    (value_given g.L.Lister.asked g.L.Lister.given g.L.Lister.is_for g.L.Lister.with_context p c.requires.runnable m old before top c.requires.top (around_all (λ v. v) (map (opened old) c.args.way.now)) new after c.use_value.ensures.extends c.use_value.ensures.kept over c.requires.due used.0 used.1 chosen c.args.limit c.in-Ok.value (c.in-Ok.ensures.valued used.0 (engine_of (program_over p m.hooks) 0 0 0) used.1))

pub returns-in-Ok-clause-top : goal.returns-in-Ok-clause-top
returns-in-Ok-clause-top g c =
    let m = g.E.Evaluator.meanings c.args.evaluator.now in
    let p = c.args.program.now in
    let old = c.args.store.now in
    let before = g.E.Evaluator.table c.args.evaluator.now in
    let top = c.args.top.now in
    let new = c.use_value.new.store in
    let after = g.E.Evaluator.table c.use_value.new.evaluator in
    let over = over_of p m (g.E.Evaluator.meanings c.use_value.new.evaluator) c.use_value.ensures.meanings c.requires.goes_by.program new after (g.met.E.Evaluator.derived c.use_value.new.evaluator new c.use_value.ensures.fits) in
    given_top g.L.Lister.asked g.L.Lister.given g.L.Lister.is_for g.L.Lister.with_context p c.requires.runnable m old before top c.requires.top (around_all (λ v. v) (map (opened old) c.args.way.now)) new after c.use_value.ensures.extends c.use_value.ensures.kept over

pub returns-in-Err-clause-next : goal.returns-in-Err-clause-next
returns-in-Err-clause-next g c = λ chosen.
    let m = g.E.Evaluator.meanings c.args.evaluator.now in
    let p = c.args.program.now in
    let old = c.args.store.now in
    let before = g.E.Evaluator.table c.args.evaluator.now in
    let top = c.args.top.now in
    let new = c.use_value.new.store in
    let after = g.E.Evaluator.table c.use_value.new.evaluator in
    let over = over_of p m (g.E.Evaluator.meanings c.use_value.new.evaluator) c.use_value.ensures.meanings c.requires.goes_by.program new after (g.met.E.Evaluator.derived c.use_value.new.evaluator new c.use_value.ensures.fits) in
    let used = some_use (use_at g.L.Lister.asked g.L.Lister.given p old top.place) (c.requires.top.stands c.requires.due) in
    let w = c.requires.walk in
    let same = ap (around_all (λ v. v)) (opened_kept old new c.use_value.ensures.extends w.0 c.args.way.now top.place.term.0 w.1.path) in (
      subst (λ (a : Tree → Tree). Throughout (engine_of (program_over p m.hooks)) (left_around g.L.Lister.asked g.L.Lister.given p m.hooks chosen (around_all (λ v. v) (map (opened old) c.args.way.now)) old top) (λ L. Passes (left_around g.L.Lister.asked g.L.Lister.given p m.hooks chosen (around_all (λ v. v) (map (opened old) c.args.way.now)) old top L) (left_around g.L.Lister.asked g.L.Lister.given p m.hooks chosen a new top L))) (sym same)
          (still_top g.L.Lister.asked g.L.Lister.given g.L.Lister.is_for g.L.Lister.with_context p c.requires.runnable m old before top c.requires.top (around_all (λ v. v) (map (opened old) c.args.way.now)) new after c.use_value.ensures.extends c.use_value.ensures.kept over chosen),
      value_ends g.L.Lister.asked g.L.Lister.given g.L.Lister.is_for g.L.Lister.with_context p c.requires.runnable m old before top c.requires.top (around_all (λ v. v) (map (opened old) c.args.way.now)) new after c.use_value.ensures.extends c.use_value.ensures.kept over c.requires.due used.0 used.1 chosen c.args.limit c.in-Err.end (c.in-Err.ensures.valued used.0 (engine_of (program_over p m.hooks) 0 0 0) used.1),
    )

pub returns-in-Err-clause-top : goal.returns-in-Err-clause-top
returns-in-Err-clause-top g c =
    let m = g.E.Evaluator.meanings c.args.evaluator.now in
    let p = c.args.program.now in
    let old = c.args.store.now in
    let before = g.E.Evaluator.table c.args.evaluator.now in
    let top = c.args.top.now in
    let new = c.use_value.new.store in
    let after = g.E.Evaluator.table c.use_value.new.evaluator in
    let over = over_of p m (g.E.Evaluator.meanings c.use_value.new.evaluator) c.use_value.ensures.meanings c.requires.goes_by.program new after (g.met.E.Evaluator.derived c.use_value.new.evaluator new c.use_value.ensures.fits) in
    top_grown g.L.Lister.asked g.L.Lister.given g.L.Lister.is_for g.L.Lister.with_context p c.requires.runnable m old before top c.requires.top (around_all (λ v. v) (map (opened old) c.args.way.now)) new after c.use_value.ensures.extends c.use_value.ensures.kept over
