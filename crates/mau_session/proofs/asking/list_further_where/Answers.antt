use Rattle.std.proofs.Common.{◌≡◌, ℕ, List, All, refl, sym, ap, ◌∙◌, subst}
use Rattle.mau_terms.specs.Tree.{Tree}
use Rattle.mau_terms.specs.Subst.{variables}
use Rattle.mau_terms.specs.declared.bare.Bare.{Bare}
use Rattle.mau_program.specs.declared.statements.Fragment.{Fragment}
use Rattle.mau_api.specs.Answers.{IsAskable}
use Rattle.mau_session.specs.Query.{QueryOf}
use Rattle.mau_terms.specs.View.{tree_of}
use Rattle.mau_formula.specs.Operator.{Operator}
use Rattle.mau_formula.specs.Operators.{operators}
use Rattle.mau_built_ins.specs.NativeNumerals.{GivesNumerals}
use Rattle.mau_program.specs.LawfulPrograms.{IsLawfulProgram}
use Rattle.mau_sorts.specs.Table.{Table}
use Rattle.mau_api.specs.Meanings.{Meanings}
use Rattle.mau_reducer.specs.KeptTables.{IsKept}
use Rattle.mau_session.specs.Environment.{environment_of, meanings_in}
use Rattle.mau_session.specs.Next.{GainsShown}
use Rattle.mau_session.specs.KeptQuery.{query_of, IsReady}
use Rattle.mau_session.specs.KeptWhere.{ending_of, GainsShownWhere}
use Rattle.mau_session.specs.KeptState.{outcome_of}
use Rattle.mau_session.specs.Gains.{gains_solutions, gains_sorts_end, gains_solutions_where, gains_sorts_end_where}
use Rattle.mau_session.proofs.Answering.{gains_listing}
use Rattle.mau_session.proofs.AskedBy.{meant_in, gains_listing_where}
use Rattle.mau_session.proofs.Begun.{goes_in, over_as, ready_as, known_as, ends_as, goes_as, kept_as, kept_for, can_be_asked}
use Rattle.mau_session.proofs.asking.list_further_where.Goals as goal

pub with_sorts-requires-clause-lawful : goal.with_sorts-requires-clause-lawful
with_sorts-requires-clause-lawful g c =
    subst IsLawfulProgram (sym c.program-program.ensures) c.requires.lawful

pub with_sorts-requires-clause-numerals : goal.with_sorts-requires-clause-numerals
with_sorts-requires-clause-numerals g c =
    subst (All GivesNumerals) (sym c.new-natives.ensures) c.requires.numerals

pub show_kept-requires-clause-ready : goal.show_kept-requires-clause-ready
show_kept-requires-clause-ready g c =
    subst (λ (t : Table). IsReady c.args.module.now.signature t c.args.kept.query) (sym c.in_ok-evaluator.ensures.table) c.requires.ready.query.ready

pub show_kept-requires-clause-fits : goal.show_kept-requires-clause-fits
show_kept-requires-clause-fits g c =
    c.in_ok-evaluator.ensures.fits c.args.kept.query.store
    (kept_for c.args.module.now c.program-program.result.now c.program-program.ensures c.args.kept.query.store c.args.sorts (operators c.new-natives.result.table.now) (operators c.args.session.now.hooks.now) c.new-natives.ensures c.args.session.now.limit c.requires.ready.query.kept)

pub show_kept-requires-clause-can : goal.show_kept-requires-clause-can
show_kept-requires-clause-can g c =
    let m = c.args.module.now in
    let ops = operators c.args.session.now.hooks.now in
    let limit = c.args.session.now.limit in
    let same = meant_in m ops _ limit c.program-program.result.now _ c.in_ok-evaluator.ensures.meanings c.new-natives.ensures c.program-program.ensures in
    can_be_asked m ops limit _ same (goes_in m ops limit c.requires.lawful c.requires.ready.query.ready.query.lawful) c.args.kept.query c.requires.ready.query.ready.query c.args.kept.cond c.requires.ready.condition

pub show_kept-requires-clause-limit : goal.show_kept-requires-clause-limit
show_kept-requires-clause-limit g c =
    let m = c.args.module.now in
    let ops = operators c.args.session.now.hooks.now in
    let limit = c.args.session.now.limit in
    let same = meant_in m ops _ limit c.program-program.result.now _ c.in_ok-evaluator.ensures.meanings c.new-natives.ensures c.program-program.ensures in
    sym (ap (λ (x : Meanings). x.limit) same)

pub returns-clause-gained : goal.returns-clause-gained
returns-clause-gained g c =
    let m = c.args.module.now in
    let ops = operators c.args.session.now.hooks.now in
    let limit = c.args.session.now.limit in
    let same = meant_in m ops _ limit c.program-program.result.now _ c.in_ok-evaluator.ensures.meanings c.new-natives.ensures c.program-program.ensures in
    let e = meanings_in (environment_of ops limit) m in
    let old = c.args.out.now.items in
    let new = c.show_kept.new.out.items in
    let q = query_of c.args.kept.query in
    let next = c.show_kept.new.kept in
    let ending = ending_of c.in_ok-ending.ending in
    let shown = subst (λ (n : Meanings). GainsShownWhere m n c.args.kept.cond q (query_of next.query) c.args.most old new ending) same c.in_ok-ending.ensures.shown in
    gains_listing_where m e c.args.kept.cond next.cond q q (query_of next.query) c.args.most (outcome_of c.left_where.result) old new ending refl shown c.left_where.ensures.left c.show_kept.ensures.condition

pub returns-clause-ready : goal.returns-clause-ready
returns-clause-ready g c =
    let m = c.args.module.now in
    let ops = operators c.args.session.now.hooks.now in
    let limit = c.args.session.now.limit in
    let same = meant_in m ops _ limit c.program-program.result.now _ c.in_ok-evaluator.ensures.meanings c.new-natives.ensures c.program-program.ensures in
    let own = c.show_kept.ensures.meanings ∙ same in
    let next = c.show_kept.new.kept in
    c.left_where.ensures.ready (environment_of ops limit) m (λ bound. record {
      query = record {
        ready = subst (λ (t : Table). IsReady m.signature t next.query) (sym c.into_sorts.ensures.table) (c.in_ok-ending.ensures.ready bound);
        kept = kept_as m ops limit _ own next.query.store c.into_sorts.result (c.into_sorts.ensures.kept next.query.store (c.in_ok-ending.ensures.fits bound));
      };
      condition = subst (λ (fs : List Fragment). IsAskable m.signature (variables (tree_of next.query.pattern)) fs) (sym c.show_kept.ensures.condition)
          (subst (λ (p : Bare). IsAskable m.signature (variables (tree_of p)) c.args.kept.cond) (sym (c.in_ok-ending.ensures.pattern bound)) (c.requires.ready.condition));
    })
