use Rattle.std.proofs.Common.{◌≡◌, ℕ, List, All, sym, ap, ◌∙◌, subst}
use Rattle.mau_terms.specs.View.{tree_of}
use Rattle.mau_formula.specs.Operator.{Operator}
use Rattle.mau_formula.specs.Operators.{operators}
use Rattle.mau_built_ins.specs.NativeNumerals.{GivesNumerals}
use Rattle.mau_program.specs.LawfulPrograms.{IsLawfulProgram}
use Rattle.mau_sorts.specs.Table.{Table}
use Rattle.mau_api.specs.Meanings.{Meanings}
use Rattle.mau_reducer.specs.KeptTables.{IsKept}
use Rattle.mau_session.specs.Environment.{environment_of, meanings_in}
use Rattle.mau_session.specs.Next.{GainsShown}
use Rattle.mau_session.specs.KeptQuery.{query_of, IsReady}
use Rattle.mau_session.specs.KeptWhere.{ending_of, GainsShownWhere}
use Rattle.mau_session.specs.KeptState.{outcome_of}
use Rattle.mau_session.specs.Gains.{gains_solutions, gains_sorts_end, gains_solutions_where, gains_sorts_end_where}
use Rattle.mau_session.proofs.Answering.{gains_listing}
use Rattle.mau_session.proofs.AskedBy.{meant_in, gains_listing_where}
use Rattle.mau_session.proofs.Begun.{goes_in, over_as, ready_as, known_as, ends_as, goes_as, kept_as, can_be_asked}
use Rattle.mau_session.proofs.asking.list_first.Goals as goal

pub new-requires-clause-lawful : goal.new-requires-clause-lawful
new-requires-clause-lawful g c =
    subst IsLawfulProgram (sym c.program-program.ensures) c.requires.lawful

pub new-requires-clause-numerals : goal.new-requires-clause-numerals
new-requires-clause-numerals g c =
    subst (All GivesNumerals) (sym c.new-natives.ensures) c.requires.numerals

pub settle_subject-requires-clause-query : goal.settle_subject-requires-clause-query
settle_subject-requires-clause-query g c =
    let m = c.args.module.now in
    let ops = operators c.args.session.now.hooks.now in
    let limit = c.args.session.now.limit in
    let same = meant_in m ops _ limit c.program-program.result.now _ c.in_ok-evaluator.ensures.meanings c.new-natives.ensures c.program-program.ensures in
    over_as m ops limit _ same c.args.query c.requires.query

pub settle_subject-requires-clause-fits : goal.settle_subject-requires-clause-fits
settle_subject-requires-clause-fits g c =
    c.in_ok-evaluator.ensures.fits c.args.query.store

pub show_query-requires-clause-ready : goal.show_query-requires-clause-ready
show_query-requires-clause-ready g c =
    let m = c.args.module.now in
    let ops = operators c.args.session.now.hooks.now in
    let limit = c.args.session.now.limit in
    let same = meant_in m ops _ limit c.program-program.result.now _ c.in_ok-evaluator.ensures.meanings c.new-natives.ensures c.program-program.ensures in
    ready_as m ops limit _ same _ c.settle_subject.new.query c.in-Ok.ensures.ready

pub show_query-requires-clause-goes : goal.show_query-requires-clause-goes
show_query-requires-clause-goes g c =
    let m = c.args.module.now in
    let ops = operators c.args.session.now.hooks.now in
    let limit = c.args.session.now.limit in
    let same = meant_in m ops _ limit c.program-program.result.now _ c.in_ok-evaluator.ensures.meanings c.new-natives.ensures c.program-program.ensures in
    goes_as m ops limit _ (c.settle_subject.ensures.meanings ∙ same) (goes_in m ops limit c.requires.lawful c.requires.query.lawful)

pub returns-in_ok-has_ended-in-Ok-clause-gained : goal.returns-in_ok-has_ended-in-Ok-clause-gained
returns-in_ok-has_ended-in-Ok-clause-gained g c =
    let m = c.args.module.now in
    let ops = operators c.args.session.now.hooks.now in
    let limit = c.args.session.now.limit in
    let same = meant_in m ops _ limit c.program-program.result.now _ c.in_ok-evaluator.ensures.meanings c.new-natives.ensures c.program-program.ensures in
    let e = meanings_in (environment_of ops limit) m in
    let old = c.args.out.now.items in
    let new = c.show_query.new.out.items in
    let q = query_of c.args.query in
    let next = query_of c.show_query.new.query in
    let ended = c.in_ok-has_ended-in-Ok.has_ended in
    let shown = subst (λ (n : Meanings). GainsShown m n (query_of c.settle_subject.new.query) next c.args.most old new ended) (c.settle_subject.ensures.meanings ∙ same) c.in_ok-has_ended-in-Ok.ensures.shown in
    gains_solutions (outcome_of c.left_by.result) old new c.requires.within (known_as m ops limit _ same (tree_of c.args.query.subject) c.in-Ok.ensures.known)
    (gains_listing m e (query_of c.settle_subject.new.query) q next c.args.most (outcome_of c.left_by.result) old new ended c.settle_subject.ensures.same shown c.left_by.ensures.left)

pub returns-in_ok-has_ended-in-Ok-clause-ready : goal.returns-in_ok-has_ended-in-Ok-clause-ready
returns-in_ok-has_ended-in-Ok-clause-ready g c =
    let m = c.args.module.now in
    let ops = operators c.args.session.now.hooks.now in
    let limit = c.args.session.now.limit in
    let same = meant_in m ops _ limit c.program-program.result.now _ c.in_ok-evaluator.ensures.meanings c.new-natives.ensures c.program-program.ensures in
    let own = c.show_query.ensures.meanings ∙ (c.settle_subject.ensures.meanings ∙ same) in
    let next = c.show_query.new.query in
    c.left_by.ensures.ready (environment_of ops limit) m (record {
      ready = subst (λ (t : Table). IsReady m.signature t next) (sym c.into_sorts.ensures.table) c.in_ok-has_ended-in-Ok.ensures.ready;
      kept = kept_as m ops limit _ own next.store c.into_sorts.result (c.into_sorts.ensures.kept next.store c.in_ok-has_ended-in-Ok.ensures.fits);
    })

pub returns-in_ok-write_item_end-in-Err-clause-gained : goal.returns-in_ok-write_item_end-in-Err-clause-gained
returns-in_ok-write_item_end-in-Err-clause-gained g c =
    let m = c.args.module.now in
    let ops = operators c.args.session.now.hooks.now in
    let limit = c.args.session.now.limit in
    let same = meant_in m ops _ limit c.program-program.result.now _ c.in_ok-evaluator.ensures.meanings c.new-natives.ensures c.program-program.ensures in
    let end = c.in_ok-write_item_end-in-Err.ensures in
    gains_sorts_end end.0 c.args.out.now.items c.write_item_end.new.out.items c.requires.within (ends_as m ops limit _ same (tree_of c.args.query.subject) c.in-Err.end end.0 c.in-Err.ensures.ends end.1) end.2
