use Rattle.std.proofs.Common.{◌≡◌, [], All, sym, ◌∙◌, subst}
use Rattle.std.proofs.lemmas.List.Elements.{All-nil}
use Rattle.mau_built_ins.specs.NativeNumerals.{GivesNumerals}
use Rattle.mau_strategy_tests.proofs.Rested.{meant_by, goes_by, limit_is, goes_on_kept}
use Rattle.mau_strategy_tests.proofs.running.show_first.Goals as goal

pub new-requires-clause-numerals : goal.new-requires-clause-numerals
new-requires-clause-numerals g c = subst (All GivesNumerals) (sym (c.new-natives.ensures ∙ c.requires.hooks)) (All-nil GivesNumerals)

pub begun-requires-clause-goes_by : goal.begun-requires-clause-goes_by
begun-requires-clause-goes_by g c =
    let p = c.args.shower.now.program.now in
    let same = meant_by p _ _ c.args.limit c.in_ok-evaluator.ensures.meanings (c.new-natives.ensures ∙ c.requires.hooks) in
    goes_by p _ c.args.limit same

pub begun-requires-clause-limit : goal.begun-requires-clause-limit
begun-requires-clause-limit g c =
    let p = c.args.shower.now.program.now in
    let same = meant_by p _ _ c.args.limit c.in_ok-evaluator.ensures.meanings (c.new-natives.ensures ∙ c.requires.hooks) in
    limit_is p _ c.args.limit same

pub begun-requires-clause-fits : goal.begun-requires-clause-fits
begun-requires-clause-fits g c = c.in_ok-evaluator.ensures.fits

pub returns : goal.returns
returns g c =
    let p = c.args.shower.now.program.now in
    let same = meant_by p _ _ c.args.limit c.in_ok-evaluator.ensures.meanings (c.new-natives.ensures ∙ c.requires.hooks) in
    let own = c.in_ok-rested.ensures.meanings ∙ (c.in_ok-started.ensures.meanings ∙ same) in
    let run = c.in_ok-rested.rested.run in
    goes_on_kept p _ c.args.limit own run _ c.into_sorts-sorts.result c.into_sorts-sorts.ensures.table c.in_ok-rested.ensures.run
    (c.into_sorts-sorts.ensures.kept run.rest.value.store c.in_ok-rested.ensures.fits)
