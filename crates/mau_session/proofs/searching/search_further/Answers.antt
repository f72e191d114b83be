use Rattle.std.proofs.Common.{◌≡◌, All, refl, sym, ◌∙◌, subst}
use Rattle.mau_formula.specs.Operators.{operators}
use Rattle.mau_built_ins.specs.NativeNumerals.{GivesNumerals}
use Rattle.mau_program.specs.LawfulPrograms.{IsLawfulProgram}
use Rattle.mau_stratitems.specs.Kept.{reached_by}
use Rattle.mau_session.specs.Environment.{environment_of}
use Rattle.mau_session.specs.KeptStrategy.{ending_of, search_of}
use Rattle.mau_session.specs.KeptState.{outcome_of}
use Rattle.mau_session.proofs.AskedBy.{meant_in}
use Rattle.mau_session.proofs.Begun.{kept_for}
use Rattle.mau_session.proofs.Searched.{limit_is, gains_ended, goes_on_kept, runs_kept}
use Rattle.mau_session.proofs.searching.search_further.Goals as goal

pub with_sorts-requires-clause-lawful : goal.with_sorts-requires-clause-lawful
with_sorts-requires-clause-lawful g c = subst IsLawfulProgram (sym c.program.ensures) c.requires.lawful

pub with_sorts-requires-clause-numerals : goal.with_sorts-requires-clause-numerals
with_sorts-requires-clause-numerals g c = subst (All GivesNumerals) (sym c.new-natives.ensures) c.requires.numerals

pub list_solutions-requires-clause-run : goal.list_solutions-requires-clause-run
list_solutions-requires-clause-run g c =
    let m = c.args.module.now in
    let ops = operators c.args.session.now.hooks.now in
    let limit = c.args.session.now.limit in
    let same = meant_in m ops _ limit c.program.result.now _ c.in_ok-evaluator.ensures.meanings c.new-natives.ensures c.program.ensures in
    runs_kept m ops limit _ same c.args.searching.run _ c.args.searching.sorts c.in_ok-evaluator.ensures.table c.requires.ready

pub list_solutions-requires-clause-fits : goal.list_solutions-requires-clause-fits
list_solutions-requires-clause-fits g c =
    c.in_ok-evaluator.ensures.fits c.args.searching.run.rest.value.store
    (kept_for c.args.module.now c.program.result.now c.program.ensures c.args.searching.run.rest.value.store c.args.searching.sorts (operators c.new-natives.result.table.now) (operators c.args.session.now.hooks.now)
    c.new-natives.ensures c.args.session.now.limit c.requires.ready.kept)

pub list_solutions-requires-clause-limit : goal.list_solutions-requires-clause-limit
list_solutions-requires-clause-limit g c =
    let m = c.args.module.now in
    let ops = operators c.args.session.now.hooks.now in
    let limit = c.args.session.now.limit in
    let same = meant_in m ops _ limit c.program.result.now _ c.in_ok-evaluator.ensures.meanings c.new-natives.ensures c.program.ensures in
    limit_is m ops limit _ same

pub returns-clause-gained : goal.returns-clause-gained
returns-clause-gained g c =
    let m = c.args.module.now in
    let ops = operators c.args.session.now.hooks.now in
    let limit = c.args.session.now.limit in
    let same = meant_in m ops _ limit c.program.result.now _ c.in_ok-evaluator.ensures.meanings c.new-natives.ensures c.program.ensures in
    gains_ended m ops limit _ same (search_of c.args.searching) c.args.most c.args.out.now.items c.list_solutions.new.out.items (reached_by c.in_ok-search.search.run) c.in_ok-search.search.shown
    (ending_of c.in_ok-search.end) (outcome_of c.left_by_search.result) c.in_ok-search.ensures.ended c.left_by_search.ensures.left

pub returns-clause-ready : goal.returns-clause-ready
returns-clause-ready g c =
    let m = c.args.module.now in
    let ops = operators c.args.session.now.hooks.now in
    let limit = c.args.session.now.limit in
    let same = meant_in m ops _ limit c.program.result.now _ c.in_ok-evaluator.ensures.meanings c.new-natives.ensures c.program.ensures in
    let own = c.in_ok-search.ensures.meanings ∙ same in
    let run = c.in_ok-search.search.run in
    c.left_by_search.ensures.ready (environment_of ops limit) m
    (goes_on_kept m ops limit _ own run _ c.into_sorts-sorts.result c.into_sorts-sorts.ensures.table c.in_ok-search.ensures.run (c.into_sorts-sorts.ensures.kept run.rest.value.store c.in_ok-search.ensures.fits))
