use Rattle.std.proofs.Common.{◌≡◌, Ok, Err, ap, subst}
use Rattle.mau_signature.specs.Signature.{SignatureOf, theory_at}
use Rattle.mau_store.specs.Trees.{tree_at}
use Rattle.mau_program.specs.declared.program.Program.{Program}
use Rattle.mau_api.specs.Terms.{IsTerm}
use Rattle.mau_api.specs.Answers.{AreSettled, uses_results}
use Rattle.mau_reduce.proofs.KindsKept.{is_term_kept, tree_kept}
use Rattle.mau_api.specs.Told.{TellsEvaluation}
use Rattle.mau_rules.specs.Found.{item_of}
use Rattle.mau_rules.specs.Runs.{turns_of}
use Rattle.mau_rules.proofs.Solving.{evaluation_known}
use Rattle.mau_rules.proofs.PassSteps.{value_given, value_not_given}
use Rattle.mau_rules.proofs.PassEnds.{last_given, last_ends}
use Rattle.mau_rules.specs.Telling.{TellsPart}
use Rattle.mau_rules.proofs.Told.{behind_told, evaluation_rules}
use Rattle.mau_rules.proofs.Parts.{part_of}
use Rattle.mau_rules.proofs.passes.last_value.Goals as goal

pub returns-in-Err-clause-known : goal.returns-in-Err-clause-known
returns-in-Err-clause-known g c = λ f b0 t stands h.
    let p = c.args.program.now in
    let m = g.E.Evaluator.meanings c.args.evaluator.now in
    let w = g.W.StepWatcher.wanted c.args.watcher.now in
    let I = item_of m w in
    let laws = g.met.E.Evaluator.laws c.args.evaluator.now in
    let u = tree_at c.args.store.now c.args.term.0 in
    let y = c.args.tally.now in
    let b = c.args.budget.now in
    last_ends p m.hooks I y.gas f b0 y.rewrites t (turns_of c.args.run.now.turns.items) y b h c.requires.none c.in-Err.end
    (value_not_given p c.requires.runnable m c.requires.goes_by laws w t u stands b c.evaluate.new.store c.evaluate.new.budget c.in-Err.end
    (evaluation_known p c.requires.runnable m c.requires.goes_by laws w u b c.evaluate.new.store (Err c.in-Err.end) c.evaluate.new.budget (uses_results m w) c.in-Err.ensures.allowed c.in-Err.ensures.exact c.in-Err.ensures.left))

pub returns-in-Err-clause-run : goal.returns-in-Err-clause-run
returns-in-Err-clause-run g c = record { turns = c.requires.run.turns; term = is_term_kept c.args.program.now.sig c.args.store.now c.evaluate.new.store c.args.run.now.term.0 c.evaluate.ensures.extends c.requires.run.term }

pub returns-clause-known : goal.returns-clause-known
returns-clause-known g c = λ f b0 t stands h.
    let p = c.args.program.now in
    let m = g.E.Evaluator.meanings c.args.evaluator.now in
    let w = g.W.StepWatcher.wanted c.args.watcher.now in
    let I = item_of m w in
    let laws = g.met.E.Evaluator.laws c.args.evaluator.now in
    let u = tree_at c.args.store.now c.args.term.0 in
    let y = c.args.tally.now in
    let b = c.args.budget.now in
    let s2 = c.evaluate.new.store in
    let mid = c.evaluate.new.budget in
    let x = c.in-Ok.value in
    let given = value_given p c.requires.runnable m c.requires.goes_by laws w t u stands b s2 mid x
    (evaluation_known p c.requires.runnable m c.requires.goes_by laws w u b s2 (Ok x) mid (uses_results m w) c.in-Ok.ensures.allowed c.in-Ok.ensures.exact c.in-Ok.ensures.left) in
    last_given p m.hooks I y.gas f b0 y.rewrites t (turns_of c.args.run.now.turns.items) y b h c.requires.none (tree_at s2 x.term.0) given.0 mid x.rewrites c.saturating_add-tally.result given.2 given.1 c.saturating_add-tally.ensures

pub returns-clause-run : goal.returns-clause-run
returns-clause-run g c =
    let same : (g.E.Evaluator.meanings c.args.evaluator.now).program.sig ≡ c.args.program.now.sig = ap (λ (q : Program). q.sig) c.requires.goes_by.program in
    record { turns = c.requires.run.turns; term = subst (λ (z : SignatureOf). IsTerm z c.evaluate.new.store c.in-Ok.value.term.0) same c.in-Ok.ensures.term }

pub returns-clause-settled : goal.returns-clause-settled
returns-clause-settled g c =
    let same : (g.E.Evaluator.meanings c.args.evaluator.now).program.sig ≡ c.args.program.now.sig = ap (λ (q : Program). q.sig) c.requires.goes_by.program in
    subst (λ (z : SignatureOf). AreSettled z c.evaluate.new.store (g.E.Evaluator.table c.evaluate.new.self) (tree_at c.evaluate.new.store c.in-Ok.value.term.0)) same c.in-Ok.ensures.settled

-- ---- what is told

pub returns-in-Err-clause-behind : goal.returns-in-Err-clause-behind
returns-in-Err-clause-behind g c = behind_told (g.W.StepWatcher.wanted c.args.watcher.now) (g.W.StepWatcher.told c.args.watcher.now) (g.W.StepWatcher.told c.evaluate.new.watcher) c.evaluate.ensures.before c.evaluate.ensures.silent

pub returns-clause-behind : goal.returns-clause-behind
returns-clause-behind g c = behind_told (g.W.StepWatcher.wanted c.args.watcher.now) (g.W.StepWatcher.told c.args.watcher.now) (g.W.StepWatcher.told c.evaluate.new.watcher) c.evaluate.ensures.before c.evaluate.ensures.silent

pub returns-clause-told : goal.returns-clause-told
returns-clause-told g c = λ w.
    let p = c.args.program.now in
    let m = g.E.Evaluator.meanings c.args.evaluator.now in
    let s0 = c.args.store.now in
    let s1 = c.evaluate.new.store in
    let table = g.E.Evaluator.table c.evaluate.new.self in
    let a = g.W.StepWatcher.told c.args.watcher.now in
    let b = g.W.StepWatcher.told c.evaluate.new.watcher in
    let t = c.args.term in
    let x = c.in-Ok.value in
    let same : m.program.sig ≡ p.sig = ap (λ (q : Program). q.sig) c.requires.goes_by.program in
    let reached = subst (λ (z : SignatureOf). IsTerm z s1 x.term.0) same c.in-Ok.ensures.term in
    let told = subst (λ (q : Program). TellsEvaluation q m.hooks s1 table a b t x.term x.rewrites) c.requires.goes_by.program (c.in-Ok.ensures.told w) in
    let part = part_of p m.hooks s1 table a b (tree_at s1 t.0) (tree_at s1 x.term.0) c.args.tally.now.rewrites x.rewrites c.saturating_add-tally.result c.saturating_add-tally.ensures
    (evaluation_rules p m.hooks s1 table a b t x.term x.rewrites (is_term_kept p.sig s0 s1 t.0 c.evaluate.ensures.extends c.requires.term).within.there reached.within.there told) in
    subst (λ u. TellsPart p m.hooks s1 table a b u (tree_at s1 x.term.0) c.args.tally.now.rewrites c.saturating_add-tally.result) (tree_kept (theory_at p.sig) s0 s1 t.0 c.evaluate.ensures.extends c.requires.term.within) part
