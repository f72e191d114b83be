use Rattle.std.proofs.Common.{◌≡◌, ℕ, List, All, refl, sym, ap, ◌∙◌, subst}
use Rattle.mau_terms.specs.View.{tree_of}
use Rattle.mau_formula.specs.Operator.{Operator}
use Rattle.mau_formula.specs.Operators.{operators}
use Rattle.mau_built_ins.specs.NativeNumerals.{GivesNumerals}
use Rattle.mau_program.specs.LawfulPrograms.{IsLawfulProgram}
use Rattle.mau_sorts.specs.Table.{Table}
use Rattle.mau_api.specs.Meanings.{Meanings}
use Rattle.mau_reducer.specs.KeptTables.{IsKept}
use Rattle.mau_session.specs.Environment.{environment_of, meanings_in}
use Rattle.mau_session.specs.Next.{GainsShown}
use Rattle.mau_session.specs.KeptQuery.{query_of, IsReady}
use Rattle.mau_session.specs.KeptWhere.{ending_of, GainsShownWhere}
use Rattle.mau_session.specs.KeptState.{outcome_of}
use Rattle.mau_session.specs.Gains.{gains_solutions, gains_sorts_end, gains_solutions_where, gains_sorts_end_where}
use Rattle.mau_session.proofs.Answering.{gains_listing}
use Rattle.mau_session.proofs.AskedBy.{meant_in, gains_listing_where}
use Rattle.mau_session.proofs.Begun.{goes_in, over_as, ready_as, known_as, ends_as, goes_as, kept_as, kept_for, can_be_asked}
use Rattle.mau_session.proofs.asking.list_further.Goals as goal

pub with_sorts-requires-clause-lawful : goal.with_sorts-requires-clause-lawful
with_sorts-requires-clause-lawful g c =
    subst IsLawfulProgram (sym c.program-program.ensures) c.requires.lawful

pub with_sorts-requires-clause-numerals : goal.with_sorts-requires-clause-numerals
with_sorts-requires-clause-numerals g c =
    subst (All GivesNumerals) (sym c.new-natives.ensures) c.requires.numerals

pub show_query-requires-clause-ready : goal.show_query-requires-clause-ready
show_query-requires-clause-ready g c =
    subst (λ (t : Table). IsReady c.args.module.now.signature t c.args.query) (sym c.in_ok-evaluator.ensures.table) c.requires.ready.ready

pub show_query-requires-clause-fits : goal.show_query-requires-clause-fits
show_query-requires-clause-fits g c =
    c.in_ok-evaluator.ensures.fits c.args.query.store (kept_for c.args.module.now c.program-program.result.now c.program-program.ensures c.args.query.store c.args.sorts (operators c.new-natives.result.table.now) (operators c.args.session.now.hooks.now) c.new-natives.ensures c.args.session.now.limit c.requires.ready.kept)

pub show_query-requires-clause-goes : goal.show_query-requires-clause-goes
show_query-requires-clause-goes g c =
    let m = c.args.module.now in
    let ops = operators c.args.session.now.hooks.now in
    let limit = c.args.session.now.limit in
    let same = meant_in m ops _ limit c.program-program.result.now _ c.in_ok-evaluator.ensures.meanings c.new-natives.ensures c.program-program.ensures in
    goes_as m ops limit _ same (goes_in m ops limit c.requires.lawful c.requires.ready.ready.query.lawful)

pub returns-clause-gained : goal.returns-clause-gained
returns-clause-gained g c =
    let m = c.args.module.now in
    let ops = operators c.args.session.now.hooks.now in
    let limit = c.args.session.now.limit in
    let same = meant_in m ops _ limit c.program-program.result.now _ c.in_ok-evaluator.ensures.meanings c.new-natives.ensures c.program-program.ensures in
    let e = meanings_in (environment_of ops limit) m in
    let old = c.args.out.now.items in
    let new = c.show_query.new.out.items in
    let q = query_of c.args.query in
    let next = query_of c.show_query.new.query in
    let ended = c.in_ok-has_ended.has_ended in
    let shown = subst (λ (n : Meanings). GainsShown m n q next c.args.most old new ended) same c.in_ok-has_ended.ensures.shown in
    gains_listing m e q q next c.args.most (outcome_of c.left_by.result) old new ended refl shown c.left_by.ensures.left

pub returns-clause-ready : goal.returns-clause-ready
returns-clause-ready g c =
    let m = c.args.module.now in
    let ops = operators c.args.session.now.hooks.now in
    let limit = c.args.session.now.limit in
    let same = meant_in m ops _ limit c.program-program.result.now _ c.in_ok-evaluator.ensures.meanings c.new-natives.ensures c.program-program.ensures in
    let own = c.show_query.ensures.meanings ∙ same in
    let next = c.show_query.new.query in
    c.left_by.ensures.ready (environment_of ops limit) m (record {
      ready = subst (λ (t : Table). IsReady m.signature t next) (sym c.into_sorts.ensures.table) c.in_ok-has_ended.ensures.ready;
      kept = kept_as m ops limit _ own next.store c.into_sorts.result (c.into_sorts.ensures.kept next.store c.in_ok-has_ended.ensures.fits);
    })
