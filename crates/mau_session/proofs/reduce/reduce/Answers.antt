use Rattle.std.proofs.Common.{List, [], All, false, sym, ◌∙◌, ap, subst}
use Rattle.std.proofs.lemmas.Result.{on_ok_weaker}
use Rattle.mau_terms.specs.View.{tree_of}
use Rattle.mau_formula.specs.Operator.{Operator}
use Rattle.mau_formula.specs.Operators.{operators}
use Rattle.mau_api.specs.Meanings.{meanings_by}
use Rattle.mau_program.specs.LawfulPrograms.{IsLawfulProgram}
use Rattle.mau_built_ins.specs.NativeNumerals.{GivesNumerals}
use Rattle.mau_module.specs.Lawful.{program_of}
use Rattle.mau_session.proofs.Evaluated.{meant_by, gains_plainly}
use Rattle.mau_session.proofs.reduce.reduce.Goals as goal

pub new-requires-clause-lawful : goal.new-requires-clause-lawful
new-requires-clause-lawful g c = subst IsLawfulProgram (sym c.program-program.ensures) c.requires.lawful

pub new-requires-clause-numerals : goal.new-requires-clause-numerals
new-requires-clause-numerals g c = subst (All GivesNumerals) (sym c.new-natives.ensures) c.requires.numerals

pub write_reduced-requires-clause-meanings : goal.write_reduced-requires-clause-meanings
write_reduced-requires-clause-meanings g c = meant_by _ _ _ _ _ c.program-program.ensures false c.in_ok-reducer.ensures.meanings

pub write_reduced-requires-clause-fits : goal.write_reduced-requires-clause-fits
write_reduced-requires-clause-fits g c = c.in_ok-reducer.ensures.fits []

pub returns : goal.returns
returns g c =
    on_ok_weaker c.write_reduced.result
    (gains_plainly _ _ _ _ _ c.program-program.ensures
    (c.in_ok-reducer.ensures.meanings ∙ ap (λ h. meanings_by c.program-program.result.now h c.args.session.now.limit false) c.new-natives.ensures)
    c.args.module.now false c.args.vars.now (tree_of c.args.term.now) c.args.out.now.items c.write_reduced.new.out.items) c.write_reduced.ensures
