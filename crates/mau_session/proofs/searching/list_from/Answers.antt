use Rattle.std.proofs.Common.{◌≡◌, IfOk, All, sym, ap, ◌∙◌, subst}
use Rattle.mau_store.specs.Trees.{tree_at}
use Rattle.mau_program.specs.declared.program.Program.{Program}
use Rattle.mau_program.specs.LawfulStrategies.{IsLawfulDefinition}
use Rattle.mau_api.specs.Meanings.{Meanings}
use Rattle.mau_api.specs.Terms.{IsTerm}
use Rattle.mau_api.specs.Answers.{AreSettled}
use Rattle.mau_rules.specs.Runnable.{IsRunnable, GoesBy}
use Rattle.mau_solutions.specs.Listings.{ReachedOf}
use Rattle.mau_stratitems.specs.Kept.{reached_by, CanRun}
use Rattle.mau_session.specs.KeptStrategy.{ending_of, run_of, GainsEnded}
use Rattle.mau_session.proofs.searching.list_from.Goals as goal

pub begin-requires-clause-runnable : goal.begin-requires-clause-runnable
begin-requires-clause-runnable g c = subst (λ (p : Program). IsRunnable p) (sym c.program.ensures) c.requires.runnable

pub begin-requires-clause-definitions : goal.begin-requires-clause-definitions
begin-requires-clause-definitions g c = subst (λ (p : Program). All (IsLawfulDefinition p.sig) p.strategies) (sym c.program.ensures) c.requires.definitions

pub begin-requires-clause-goes_by : goal.begin-requires-clause-goes_by
begin-requires-clause-goes_by g c = subst (λ (p : Program). GoesBy p (g.E.Evaluator.meanings c.args.evaluator)) (sym c.program.ensures) c.requires.goes_by

pub begin-requires-clause-term : goal.begin-requires-clause-term
begin-requires-clause-term g c = subst (λ (p : Program). IsTerm p.sig c.args.store c.args.term.0) (sym c.program.ensures) c.requires.term

pub begin-requires-clause-settled : goal.begin-requires-clause-settled
begin-requires-clause-settled g c =
    subst (λ (p : Program). AreSettled p.sig c.args.store (g.E.Evaluator.table c.args.evaluator) (tree_at c.args.store c.args.term.0)) (sym c.program.ensures) c.requires.settled

pub list_solutions-requires-clause-run : goal.list_solutions-requires-clause-run
list_solutions-requires-clause-run g c =
    subst (λ (p : Program). CanRun g.L.Lister.asked g.L.Lister.given g.L.Lister.is_for g.L.Lister.with_context p (g.E.Evaluator.meanings c.in_ok-run.evaluator)
    (g.E.Evaluator.table c.in_ok-run.evaluator) c.in_ok-run.run') c.program.ensures c.in_ok-run.ensures.run

pub list_solutions-requires-clause-limit : goal.list_solutions-requires-clause-limit
list_solutions-requires-clause-limit g c = c.requires.limit ∙ sym (ap (λ e. (g.E.Evaluator.meanings e).limit) c.in_ok-run.ensures.evaluator)

pub returns-clause-ended : goal.returns-clause-ended
returns-clause-ended g c =
    let m = c.args.module.now in
    let ns = c.args.vars.now in
    let old = c.args.out.now.items in
    let new = c.list_solutions.new.out.items in
    let same : g.E.Evaluator.meanings c.in_ok-run.evaluator ≡ g.E.Evaluator.meanings c.args.evaluator = ap g.E.Evaluator.meanings c.in_ok-run.ensures.evaluator in
    subst (λ (z : ReachedOf). IfOk c.list_solutions.result (λ r. GainsEnded m (g.E.Evaluator.meanings c.args.evaluator) (record { reached = z; shown = 0; variables = ns }) c.args.most old new
    (reached_by r.0.run) r.0.shown (ending_of r.1))) c.in_ok-run.ensures.reached
    (subst (λ (z : Meanings). IfOk c.list_solutions.result (λ r. GainsEnded m z (run_of c.in_ok-run.run' 0 ns) c.args.most old new
    (reached_by r.0.run) r.0.shown (ending_of r.1))) same c.list_solutions.ensures.ended)

pub list_solutions-requires-clause-fits : goal.list_solutions-requires-clause-fits
list_solutions-requires-clause-fits g c =
    subst (λ e. g.E.Evaluator.fits e c.in_ok-run.run'.rest.value.store) (sym c.in_ok-run.ensures.evaluator) (subst (g.E.Evaluator.fits c.args.evaluator) (sym c.in_ok-run.ensures.store) c.requires.fits)

pub returns-clause-meanings : goal.returns-clause-meanings
returns-clause-meanings g c =
    subst (λ (z : Meanings). IfOk c.list_solutions.result (λ r. g.E.Evaluator.meanings r.0.evaluator ≡ z)) (ap g.E.Evaluator.meanings c.in_ok-run.ensures.evaluator) c.list_solutions.ensures.meanings
