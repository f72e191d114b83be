use Rattle.std.proofs.Common.{sym, subst}
use Rattle.mau_terms.specs.Bare.{IsBare}
use Rattle.mau_terms.specs.View.{tree_of}
use Rattle.mau_signature.specs.Signature.{terms_over}
use Rattle.mau_program.specs.declared.program.Program.{Program}
use Rattle.mau_program.specs.LawfulPrograms.{IsLawfulProgram}
use Rattle.mau_strategy_tests.proofs.rows.shown_by.Goals as goal

pub may_be_run-requires : goal.may_be_run-requires
may_be_run-requires g c = subst IsLawfulProgram (sym c.program-program.ensures) c.requires.lawful

pub shown_of-requires-clause-lawful : goal.shown_of-requires-clause-lawful
shown_of-requires-clause-lawful g c = subst IsLawfulProgram (sym c.program-program.ensures) c.requires.lawful

pub shown_of-requires-clause-bare : goal.shown_of-requires-clause-bare
shown_of-requires-clause-bare g c = subst (λ (p : Program). IsBare (terms_over p.sig) (tree_of c.args.term.now)) (sym c.program-program.ensures) c.requires.bare
