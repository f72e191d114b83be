use Rattle.std.proofs.Common.{◌≡◌, ℕ, List, All, sym, ap, ◌∙◌, subst}
use Rattle.mau_terms.specs.Tree.{Tree}
use Rattle.mau_terms.specs.Subst.{variables}
use Rattle.mau_terms.specs.declared.bare.Bare.{Bare}
use Rattle.mau_program.specs.declared.statements.Fragment.{Fragment}
use Rattle.mau_api.specs.Answers.{IsAskable}
use Rattle.mau_session.specs.Query.{QueryOf}
use Rattle.mau_terms.specs.View.{tree_of}
use Rattle.mau_formula.specs.Operator.{Operator}
use Rattle.mau_formula.specs.Operators.{operators}
use Rattle.mau_built_ins.specs.NativeNumerals.{GivesNumerals}
use Rattle.mau_program.specs.LawfulPrograms.{IsLawfulProgram}
use Rattle.mau_sorts.specs.Table.{Table}
use Rattle.mau_api.specs.Meanings.{Meanings}
use Rattle.mau_reducer.specs.KeptTables.{IsKept}
use Rattle.mau_session.specs.Environment.{environment_of, meanings_in}
use Rattle.mau_session.specs.Next.{GainsShown}
use Rattle.mau_session.specs.KeptQuery.{query_of, IsReady}
use Rattle.mau_session.specs.KeptWhere.{ending_of, GainsShownWhere}
use Rattle.mau_session.specs.KeptState.{outcome_of}
use Rattle.mau_session.specs.Gains.{gains_solutions, gains_sorts_end, gains_solutions_where, gains_sorts_end_where}
use Rattle.mau_session.proofs.Answering.{gains_listing}
use Rattle.mau_session.proofs.AskedBy.{meant_in, gains_listing_where}
use Rattle.mau_session.proofs.Begun.{goes_in, over_as, ready_as, known_as, ends_as, goes_as, kept_as, can_be_asked}
use Rattle.mau_session.proofs.asking.list_first_where.Goals as goal

pub new-requires-clause-lawful : goal.new-requires-clause-lawful
new-requires-clause-lawful g c =
    subst IsLawfulProgram (sym c.program-program.ensures) c.requires.lawful

pub new-requires-clause-numerals : goal.new-requires-clause-numerals
new-requires-clause-numerals g c =
    subst (All GivesNumerals) (sym c.new-natives.ensures) c.requires.numerals

pub settle_subject-requires-clause-query : goal.settle_subject-requires-clause-query
settle_subject-requires-clause-query g c =
    let m = c.args.module.now in
    let ops = operators c.args.session.now.hooks.now in
    let limit = c.args.session.now.limit in
    let same = meant_in m ops _ limit c.program-program.result.now _ c.in_ok-evaluator.ensures.meanings c.new-natives.ensures c.program-program.ensures in
    over_as m ops limit _ same c.args.kept.query c.requires.query

pub settle_subject-requires-clause-fits : goal.settle_subject-requires-clause-fits
settle_subject-requires-clause-fits g c =
    c.in_ok-evaluator.ensures.fits c.args.kept.query.store

pub show_kept-requires-clause-ready : goal.show_kept-requires-clause-ready
show_kept-requires-clause-ready g c =
    let m = c.args.module.now in
    let ops = operators c.args.session.now.hooks.now in
    let limit = c.args.session.now.limit in
    let same = meant_in m ops _ limit c.program-program.result.now _ c.in_ok-evaluator.ensures.meanings c.new-natives.ensures c.program-program.ensures in
    ready_as m ops limit _ same _ c.settle_subject.new.query c.in-Ok.ensures.ready

pub show_kept-requires-clause-can : goal.show_kept-requires-clause-can
show_kept-requires-clause-can g c =
    let m = c.args.module.now in
    let ops = operators c.args.session.now.hooks.now in
    let limit = c.args.session.now.limit in
    let same = meant_in m ops _ limit c.program-program.result.now _ c.in_ok-evaluator.ensures.meanings c.new-natives.ensures c.program-program.ensures in
    let goes = goes_in m ops limit c.requires.lawful c.requires.query.lawful in
    let now = ready_as m ops limit _ same _ c.settle_subject.new.query c.in-Ok.ensures.ready in
    can_be_asked m ops limit _ (c.settle_subject.ensures.meanings ∙ same) goes c.settle_subject.new.query now.query c.args.kept.cond
    (subst (λ (p : Tree). IsAskable m.signature (variables p) c.args.kept.cond) (sym (ap (λ (q : QueryOf). q.pattern) c.settle_subject.ensures.same)) c.requires.condition)

pub show_kept-requires-clause-limit : goal.show_kept-requires-clause-limit
show_kept-requires-clause-limit g c =
    let m = c.args.module.now in
    let ops = operators c.args.session.now.hooks.now in
    let limit = c.args.session.now.limit in
    let same = meant_in m ops _ limit c.program-program.result.now _ c.in_ok-evaluator.ensures.meanings c.new-natives.ensures c.program-program.ensures in
    sym (ap (λ (x : Meanings). x.limit) (c.settle_subject.ensures.meanings ∙ same))

pub returns-in_ok-ending-in-Ok-clause-gained : goal.returns-in_ok-ending-in-Ok-clause-gained
returns-in_ok-ending-in-Ok-clause-gained g c =
    let m = c.args.module.now in
    let ops = operators c.args.session.now.hooks.now in
    let limit = c.args.session.now.limit in
    let same = meant_in m ops _ limit c.program-program.result.now _ c.in_ok-evaluator.ensures.meanings c.new-natives.ensures c.program-program.ensures in
    let e = meanings_in (environment_of ops limit) m in
    let old = c.args.out.now.items in
    let new = c.show_kept.new.out.items in
    let q = query_of c.args.kept.query in
    let next = c.show_kept.new.kept in
    let ending = ending_of c.in_ok-ending-in-Ok.ending in
    let shown = subst (λ (n : Meanings). GainsShownWhere m n c.args.kept.cond (query_of c.settle_subject.new.query) (query_of next.query) c.args.most old new ending) (c.settle_subject.ensures.meanings ∙ same) c.in_ok-ending-in-Ok.ensures.shown in
    gains_solutions_where (outcome_of c.left_where.result) old new c.requires.within (known_as m ops limit _ same (tree_of c.args.kept.query.subject) c.in-Ok.ensures.known)
    (gains_listing_where m e c.args.kept.cond next.cond (query_of c.settle_subject.new.query) q (query_of next.query) c.args.most (outcome_of c.left_where.result) old new ending c.settle_subject.ensures.same shown c.left_where.ensures.left
    c.show_kept.ensures.condition)

pub returns-in_ok-ending-in-Ok-clause-ready : goal.returns-in_ok-ending-in-Ok-clause-ready
returns-in_ok-ending-in-Ok-clause-ready g c =
    let m = c.args.module.now in
    let ops = operators c.args.session.now.hooks.now in
    let limit = c.args.session.now.limit in
    let same = meant_in m ops _ limit c.program-program.result.now _ c.in_ok-evaluator.ensures.meanings c.new-natives.ensures c.program-program.ensures in
    let own = c.show_kept.ensures.meanings ∙ (c.settle_subject.ensures.meanings ∙ same) in
    let next = c.show_kept.new.kept in
    c.left_where.ensures.ready (environment_of ops limit) m (λ bound. record {
      query = record {
        ready = subst (λ (t : Table). IsReady m.signature t next.query) (sym c.into_sorts.ensures.table) (c.in_ok-ending-in-Ok.ensures.ready bound);
        kept = kept_as m ops limit _ own next.query.store c.into_sorts.result (c.into_sorts.ensures.kept next.query.store (c.in_ok-ending-in-Ok.ensures.fits bound));
      };
      condition = subst (λ (fs : List Fragment). IsAskable m.signature (variables (tree_of next.query.pattern)) fs) (sym c.show_kept.ensures.condition)
          (subst (λ (p : Bare). IsAskable m.signature (variables (tree_of p)) c.args.kept.cond) (sym (c.in_ok-ending-in-Ok.ensures.pattern bound)) ((subst (λ (p : Tree). IsAskable m.signature (variables p) c.args.kept.cond) (sym (ap (λ (q : QueryOf). q.pattern) c.settle_subject.ensures.same)) c.requires.condition)));
    })

pub returns-in_ok-write_item_end-in-Err-clause-gained : goal.returns-in_ok-write_item_end-in-Err-clause-gained
returns-in_ok-write_item_end-in-Err-clause-gained g c =
    let m = c.args.module.now in
    let ops = operators c.args.session.now.hooks.now in
    let limit = c.args.session.now.limit in
    let same = meant_in m ops _ limit c.program-program.result.now _ c.in_ok-evaluator.ensures.meanings c.new-natives.ensures c.program-program.ensures in
    let end = c.in_ok-write_item_end-in-Err.ensures in
    gains_sorts_end_where end.0 c.args.out.now.items c.write_item_end.new.out.items c.requires.within (ends_as m ops limit _ same (tree_of c.args.kept.query.subject) c.in-Err.end end.0 c.in-Err.ensures.ends end.1) end.2
