use Rattle.std.proofs.Common.{ℕ, subst}
use Rattle.mau_evaluation.specs.Run.{Run}
use Rattle.mau_evaluation.specs.RuleRuns.{PassEnd}
use Rattle.mau_rules.specs.Runs.{stand_of, IsRunExactly, MayRun}
use Rattle.mau_ruleitems.proofs.RunAnswered.{rewriting_is, frewriting_is}
use Rattle.mau_ruleitems.proofs.running.run_rules.Goals as goal

pub returns-in-Rewriting-clause-exact : goal.returns-in-Rewriting-clause-exact
returns-in-Rewriting-clause-exact g c none =
    let m = g.E.Evaluator.meanings c.args.evaluator.now in
    subst (λ (f : ℕ → ℕ → Run PassEnd). IsRunExactly m f c.args.budget c.rewrite.new.store c.rewrite.new.self c.rewrite.result)
    (rewriting_is c.args.program.now m c.requires.goes_by c.args.kind c.in-Rewriting.is c.args.most (stand_of c.args.store.now c.args.run.now)) (c.rewrite.ensures.exact none)

pub returns-in-Rewriting-clause-allowed : goal.returns-in-Rewriting-clause-allowed
returns-in-Rewriting-clause-allowed g c =
    let m = g.E.Evaluator.meanings c.args.evaluator.now in
    subst (λ (f : ℕ → ℕ → Run PassEnd). MayRun m f c.args.budget c.rewrite.new.store c.rewrite.new.self c.rewrite.result)
    (rewriting_is c.args.program.now m c.requires.goes_by c.args.kind c.in-Rewriting.is c.args.most (stand_of c.args.store.now c.args.run.now)) c.rewrite.ensures.allowed

pub returns-in-Fair-clause-exact : goal.returns-in-Fair-clause-exact
returns-in-Fair-clause-exact g c none =
    let m = g.E.Evaluator.meanings c.args.evaluator.now in
    subst (λ (f : ℕ → ℕ → Run PassEnd). IsRunExactly m f c.args.budget c.frewrite.new.store c.frewrite.new.self c.frewrite.result)
    (frewriting_is c.args.program.now m c.requires.goes_by c.args.kind c.in-Fair.gas c.in-Fair.is c.args.most (stand_of c.args.store.now c.args.run.now)) (c.frewrite.ensures.exact none)

pub returns-in-Fair-clause-allowed : goal.returns-in-Fair-clause-allowed
returns-in-Fair-clause-allowed g c =
    let m = g.E.Evaluator.meanings c.args.evaluator.now in
    subst (λ (f : ℕ → ℕ → Run PassEnd). MayRun m f c.args.budget c.frewrite.new.store c.frewrite.new.self c.frewrite.result)
    (frewriting_is c.args.program.now m c.requires.goes_by c.args.kind c.in-Fair.gas c.in-Fair.is c.args.most (stand_of c.args.store.now c.args.run.now)) c.frewrite.ensures.allowed
