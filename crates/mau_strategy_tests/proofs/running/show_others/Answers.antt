use Rattle.std.proofs.Common.{◌≡◌, [], All, sym, ◌∙◌, subst}
use Rattle.std.proofs.lemmas.List.Elements.{All-nil}
use Rattle.mau_built_ins.specs.NativeNumerals.{GivesNumerals}
use Rattle.mau_strategy_tests.proofs.Rested.{meant_by, runs_kept, kept_for}
use Rattle.mau_strategy_tests.proofs.running.show_others.Goals as goal

pub with_sorts-requires-clause-numerals : goal.with_sorts-requires-clause-numerals
with_sorts-requires-clause-numerals g c = subst (All GivesNumerals) (sym (c.new-natives.ensures ∙ c.requires.hooks)) (All-nil GivesNumerals)

pub show_all-requires-clause-run : goal.show_all-requires-clause-run
show_all-requires-clause-run g c =
    let p = c.args.shower.now.program.now in
    let same = meant_by p _ _ c.args.limit c.in_ok-evaluator.ensures.meanings (c.new-natives.ensures ∙ c.requires.hooks) in
    runs_kept p _ c.args.limit same c.args.resting.run _ c.args.resting.sorts c.in_ok-evaluator.ensures.table c.requires.ready

pub show_all-requires-clause-fits : goal.show_all-requires-clause-fits
show_all-requires-clause-fits g c =
    let nodes = c.args.resting.run.rest.value.store in
    c.in_ok-evaluator.ensures.fits nodes
    (kept_for c.args.shower.now.program.now _ c.args.limit nodes c.args.resting.sorts (c.new-natives.ensures ∙ c.requires.hooks) c.requires.ready.kept)
