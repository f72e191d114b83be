use Rattle.std.proofs.Common.{sym, subst}
use Rattle.mau_terms.specs.View.{tree_of}
use Rattle.mau_store.specs.Trees.{tree_at}
use Rattle.mau_program.specs.declared.program.Program.{Program}
use Rattle.mau_api.specs.Terms.{IsTerm}
use Rattle.mau_api.specs.Answers.{AreSettled}
use Rattle.mau_results.proofs.Normals.{read_term}
use Rattle.mau_strategy_tests.proofs.running.value_of.Goals as goal

pub evaluate-requires-clause-fits : goal.evaluate-requires-clause-fits
evaluate-requires-clause-fits g c = g.met.E.Evaluator.grows c.args.evaluator.now c.args.store.now c.build_bare.new.store c.build_bare.ensures.extends c.requires.fits

pub evaluate-requires-clause-term : goal.evaluate-requires-clause-term
evaluate-requires-clause-term g c =
    subst (λ (p : Program). IsTerm p.sig c.build_bare.new.store c.in-Ok.id.0) (sym c.requires.program)
    (read_term c.args.program.now.sig c.is_lawful.ensures.lawful (tree_of c.args.term.now) c.requires.bare c.build_bare.new.store c.in-Ok.id.0 c.in-Ok.ensures.within c.in-Ok.ensures.ok)

pub returns-in-Ok-evaluate-clause-term : goal.returns-in-Ok-evaluate-clause-term
returns-in-Ok-evaluate-clause-term g c = subst (λ (p : Program). IsTerm p.sig c.evaluate.new.store c.in-Ok-evaluate.value.term.0) c.requires.program c.in-Ok-evaluate.ensures.term

pub returns-in-Ok-evaluate-clause-settled : goal.returns-in-Ok-evaluate-clause-settled
returns-in-Ok-evaluate-clause-settled g c =
    subst (λ (p : Program). AreSettled p.sig c.evaluate.new.store (g.E.Evaluator.table c.evaluate.new.self) (tree_at c.evaluate.new.store c.in-Ok-evaluate.value.term.0)) c.requires.program c.in-Ok-evaluate.ensures.settled
