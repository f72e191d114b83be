use Rattle.std.proofs.Common.{◌≡◌, Ok, Err, refl, sym, ap, ◌∙◌, subst}
use Rattle.mau_signature.specs.Signature.{SignatureOf, theory_at}
use Rattle.mau_store.specs.Trees.{tree_at}
use Rattle.mau_store.proofs.Growth.{extension_is_preorder}
use Rattle.mau_sorts.proofs.Settling.{kept_on}
use Rattle.mau_program.specs.declared.program.Program.{Program}
use Rattle.mau_api.specs.Terms.{IsTerm, IsNormalTerm}
use Rattle.mau_api.specs.Told.{TellsEvaluation}
use Rattle.mau_api.specs.Programs.{program_over}
use Rattle.mau_api.specs.Meanings.{Meanings}
use Rattle.mau_api.specs.Answers.{AreSettled, uses_results}
use Rattle.mau_reduce.proofs.KindsKept.{is_term_kept, tree_kept}
use Rattle.mau_reduce.proofs.Stepped.{term_told}
use Rattle.mau_rules.specs.declared.tops.Tally.{Tally}
use Rattle.mau_rules.specs.Runnable.{GoesBy}
use Rattle.mau_rules.specs.Found.{item_of}
use Rattle.mau_rules.specs.Rounds.{value_by}
use Rattle.mau_rules.specs.Runs.{turns_of}
use Rattle.mau_rules.specs.Passes.{frame_in, tops_by, pass_with}
use Rattle.mau_rules.proofs.Solving.{evaluation_known}
use Rattle.mau_rules.proofs.Counting.{counted_on}
use Rattle.mau_rules.proofs.PassSteps.{end_of_part, counted_value_of, value_given, value_not_given, value_beyond}
use Rattle.mau_rules.proofs.PassWalk.{tops_so}
use Rattle.mau_rules.specs.Telling.{TellsPart}
use Rattle.mau_rules.proofs.Told.{behind_same, behind_told, behind_on, evaluation_rules}
use Rattle.mau_rules.proofs.Parts.{part_of, part_on, part_stays, part_as}
use Rattle.mau_rules.proofs.tops.passed.Goals as goal

pub returns-in-Err-clause-known : goal.returns-in-Err-clause-known
returns-in-Err-clause-known g c = λ f b0 K h.
    let p = c.args.program.now in
    let m = g.E.Evaluator.meanings c.args.evaluator.now in
    let w = g.W.StepWatcher.wanted c.args.watcher.now in
    let P = program_over p m.hooks in
    let I = item_of m w in
    let t = (frame_in c.args.store.now c.args.at.now).0 in
    let y = c.args.tally.now in
    let turns = turns_of c.args.run.now.turns.items in
    let b = c.args.budget.now in
    end_of_part I f b0 y.rewrites (value_by P t) (λ k E v. tops_by P y.gas (pass_with v turns y) K k E) b (counted_value_of p m.hooks I y.gas f b0 y.rewrites turns y K b t c.requires.more h) c.in-Err.end
    (value_beyond p P refl I t b c.in-Err.end c.in-Err.ensures.ends)

pub returns-in-Err-evaluate-clause-known : goal.returns-in-Err-evaluate-clause-known
returns-in-Err-evaluate-clause-known g c = λ f b0 K h.
    let p = c.args.program.now in
    let m = g.E.Evaluator.meanings c.args.evaluator.now in
    let w = g.W.StepWatcher.wanted c.args.watcher.now in
    let P = program_over p m.hooks in
    let I = item_of m w in
    let laws = g.met.E.Evaluator.laws c.args.evaluator.now in
    let t = (frame_in c.args.store.now c.args.at.now).0 in
    let u = tree_at c.rebuilt.new.store c.in-Ok.whole.0 in
    let y = c.args.tally.now in
    let turns = turns_of c.args.run.now.turns.items in
    let b = c.args.budget.now in
    end_of_part I f b0 y.rewrites (value_by P t) (λ k E v. tops_by P y.gas (pass_with v turns y) K k E) b (counted_value_of p m.hooks I y.gas f b0 y.rewrites turns y K b t c.requires.more h) c.in-Err-evaluate.end
    (value_not_given p c.requires.runnable m c.requires.goes_by laws w t u c.in-Ok.ensures.value b c.evaluate.new.store c.evaluate.new.budget c.in-Err-evaluate.end
    (evaluation_known p c.requires.runnable m c.requires.goes_by laws w u b c.evaluate.new.store (Err c.in-Err-evaluate.end) c.evaluate.new.budget (uses_results m w) c.in-Err-evaluate.ensures.allowed c.in-Err-evaluate.ensures.exact c.in-Err-evaluate.ensures.left))

pub returns-in-Err-evaluate-clause-run : goal.returns-in-Err-evaluate-clause-run
returns-in-Err-evaluate-clause-run g c = record {
  turns = c.requires.run.turns;
  term = is_term_kept c.args.program.now.sig c.args.store.now c.evaluate.new.store c.args.run.now.term.0 (extension_is_preorder.transitive c.args.store.now c.rebuilt.new.store c.evaluate.new.store c.rebuilt.ensures.extends c.evaluate.ensures.extends) c.requires.run.term;
}

pub returns-in-Err-clause-run : goal.returns-in-Err-clause-run
returns-in-Err-clause-run g c =
    record { turns = c.requires.run.turns; term = is_term_kept c.args.program.now.sig c.args.store.now c.rebuilt.new.store c.args.run.now.term.0 c.rebuilt.ensures.extends c.requires.run.term }

pub tops-requires-clause-goes_by : goal.tops-requires-clause-goes_by
tops-requires-clause-goes_by g c = subst (λ (n : Meanings). GoesBy c.args.program.now n) (sym c.evaluate.ensures.meanings) c.requires.goes_by

pub tops-requires-clause-run : goal.tops-requires-clause-run
tops-requires-clause-run g c = record {
  turns = c.requires.run.turns;
  term = is_term_kept c.args.program.now.sig c.args.store.now c.evaluate.new.store c.args.run.now.term.0 (extension_is_preorder.transitive c.args.store.now c.rebuilt.new.store c.evaluate.new.store c.rebuilt.ensures.extends c.evaluate.ensures.extends) c.requires.run.term;
}

pub tops-requires-clause-term : goal.tops-requires-clause-term
tops-requires-clause-term g c =
    let same : (g.E.Evaluator.meanings c.args.evaluator.now).program.sig ≡ c.args.program.now.sig = ap (λ (q : Program). q.sig) c.requires.goes_by.program in
    subst (λ (z : SignatureOf). IsTerm z c.evaluate.new.store c.in-Ok-evaluate.value.term.0) same c.in-Ok-evaluate.ensures.term

pub tops-requires-clause-settled : goal.tops-requires-clause-settled
tops-requires-clause-settled g c =
    let same : (g.E.Evaluator.meanings c.args.evaluator.now).program.sig ≡ c.args.program.now.sig = ap (λ (q : Program). q.sig) c.requires.goes_by.program in
    subst (λ (z : SignatureOf). AreSettled z c.evaluate.new.store (g.E.Evaluator.table c.evaluate.new.self) (tree_at c.evaluate.new.store c.in-Ok-evaluate.value.term.0)) same c.in-Ok-evaluate.ensures.settled

pub returns-in-Err-tops-clause-known : goal.returns-in-Err-tops-clause-known
returns-in-Err-tops-clause-known g c = λ f b0 K h.
    let p = c.args.program.now in
    let m = g.E.Evaluator.meanings c.args.evaluator.now in
    let w = g.W.StepWatcher.wanted c.args.watcher.now in
    let P = program_over p m.hooks in
    let I = item_of m w in
    let laws = g.met.E.Evaluator.laws c.args.evaluator.now in
    let t = (frame_in c.args.store.now c.args.at.now).0 in
    let u = tree_at c.rebuilt.new.store c.in-Ok.whole.0 in
    let y = c.args.tally.now in
    let turns = turns_of c.args.run.now.turns.items in
    let b = c.args.budget.now in
    let mid = c.evaluate.new.budget in
    let s2 = c.evaluate.new.store in
    let x = c.in-Ok-evaluate.value in
    let held = counted_value_of p m.hooks I y.gas f b0 y.rewrites turns y K b t c.requires.more h in
    let given = value_given p c.requires.runnable m c.requires.goes_by laws w t u c.in-Ok.ensures.value b s2 mid x
    (evaluation_known p c.requires.runnable m c.requires.goes_by laws w u b s2 (Ok x) mid (uses_results m w) c.in-Ok-evaluate.ensures.allowed c.in-Ok-evaluate.ensures.exact c.in-Ok-evaluate.ensures.left) in
    let sum = c.saturating_add-tally.result in
    let z : Tally = record { gas = y.gas; left = y.left; made = y.made; rewrites = sum; by_top = y.by_top } in
    let on = counted_on I f b0 y.rewrites (value_by P t) (λ k E v. tops_by P y.gas (pass_with v turns y) K k E) b held (tree_at s2 x.term.0) given.0 mid x.rewrites sum given.2 given.1 c.saturating_add-tally.ensures in
    tops_so p m (g.E.Evaluator.meanings c.evaluate.new.self) (g.W.StepWatcher.wanted c.evaluate.new.watcher) w c.evaluate.ensures.meanings c.evaluate.ensures.wanted sum y.gas (tree_at s2 x.term.0) turns z mid
    c.tops.new.store (turns_of c.tops.new.run.turns.items) c.tops.new.tally (Err c.in-Err-tops.end) c.tops.new.budget c.in-Err-tops.ensures.known f b0 K on

pub returns-in-Err-tops-clause-kept : goal.returns-in-Err-tops-clause-kept
returns-in-Err-tops-clause-kept g c = kept_on (g.E.Evaluator.table c.args.evaluator.now) (g.E.Evaluator.table c.evaluate.new.self) (g.E.Evaluator.table c.tops.new.evaluator) c.evaluate.ensures.kept c.tops.ensures.kept

pub may_replace-requires-clause-old : goal.may_replace-requires-clause-old
may_replace-requires-clause-old g c =
    is_term_kept c.args.program.now.sig c.args.store.now c.tops.new.store c.args.at.now.term.0
    (extension_is_preorder.transitive c.args.store.now c.evaluate.new.store c.tops.new.store
    (extension_is_preorder.transitive c.args.store.now c.rebuilt.new.store c.evaluate.new.store c.rebuilt.ensures.extends c.evaluate.ensures.extends) c.tops.ensures.extends) c.requires.frame.term

pub returns-then-may_replace-clause-known : goal.returns-then-may_replace-clause-known
returns-then-may_replace-clause-known g c = λ f b0 K h.
    let p = c.args.program.now in
    let m = g.E.Evaluator.meanings c.args.evaluator.now in
    let w = g.W.StepWatcher.wanted c.args.watcher.now in
    let P = program_over p m.hooks in
    let I = item_of m w in
    let laws = g.met.E.Evaluator.laws c.args.evaluator.now in
    let t = (frame_in c.args.store.now c.args.at.now).0 in
    let u = tree_at c.rebuilt.new.store c.in-Ok.whole.0 in
    let y = c.args.tally.now in
    let turns = turns_of c.args.run.now.turns.items in
    let b = c.args.budget.now in
    let mid = c.evaluate.new.budget in
    let s2 = c.evaluate.new.store in
    let x = c.in-Ok-evaluate.value in
    let held = counted_value_of p m.hooks I y.gas f b0 y.rewrites turns y K b t c.requires.more h in
    let given = value_given p c.requires.runnable m c.requires.goes_by laws w t u c.in-Ok.ensures.value b s2 mid x
    (evaluation_known p c.requires.runnable m c.requires.goes_by laws w u b s2 (Ok x) mid (uses_results m w) c.in-Ok-evaluate.ensures.allowed c.in-Ok-evaluate.ensures.exact c.in-Ok-evaluate.ensures.left) in
    let sum = c.saturating_add-tally.result in
    let z : Tally = record { gas = y.gas; left = y.left; made = y.made; rewrites = sum; by_top = y.by_top } in
    let on = counted_on I f b0 y.rewrites (value_by P t) (λ k E v. tops_by P y.gas (pass_with v turns y) K k E) b held (tree_at s2 x.term.0) given.0 mid x.rewrites sum given.2 given.1 c.saturating_add-tally.ensures in
    tops_so p m (g.E.Evaluator.meanings c.evaluate.new.self) (g.W.StepWatcher.wanted c.evaluate.new.watcher) w c.evaluate.ensures.meanings c.evaluate.ensures.wanted sum y.gas (tree_at s2 x.term.0) turns z mid
    c.tops.new.store (turns_of c.tops.new.run.turns.items) c.tops.new.tally (Ok c.in-Ok-tops.term) c.tops.new.budget c.in-Ok-tops.ensures.known f b0 K on

pub returns-then-may_replace-clause-kept : goal.returns-then-may_replace-clause-kept
returns-then-may_replace-clause-kept g c = kept_on (g.E.Evaluator.table c.args.evaluator.now) (g.E.Evaluator.table c.evaluate.new.self) (g.E.Evaluator.table c.tops.new.evaluator) c.evaluate.ensures.kept c.tops.ensures.kept

pub returns-else-may_replace-clause-known : goal.returns-else-may_replace-clause-known
returns-else-may_replace-clause-known g c = λ f b0 K h. tt

pub returns-else-may_replace-clause-kept : goal.returns-else-may_replace-clause-kept
returns-else-may_replace-clause-kept g c = kept_on (g.E.Evaluator.table c.args.evaluator.now) (g.E.Evaluator.table c.evaluate.new.self) (g.E.Evaluator.table c.tops.new.evaluator) c.evaluate.ensures.kept c.tops.ensures.kept

-- ---- what is told

pub returns-in-Err-clause-behind : goal.returns-in-Err-clause-behind
returns-in-Err-clause-behind g c = behind_same (g.W.StepWatcher.wanted c.args.watcher.now) (g.W.StepWatcher.told c.args.watcher.now)

pub returns-in-Err-evaluate-clause-behind : goal.returns-in-Err-evaluate-clause-behind
returns-in-Err-evaluate-clause-behind g c = behind_told (g.W.StepWatcher.wanted c.args.watcher.now) (g.W.StepWatcher.told c.args.watcher.now) (g.W.StepWatcher.told c.evaluate.new.watcher) c.evaluate.ensures.before c.evaluate.ensures.silent

pub returns-in-Err-tops-clause-behind : goal.returns-in-Err-tops-clause-behind
returns-in-Err-tops-clause-behind g c =
    let w = g.W.StepWatcher.wanted c.args.watcher.now in
    let a = g.W.StepWatcher.told c.args.watcher.now in
    let b = g.W.StepWatcher.told c.evaluate.new.watcher in
    behind_on (g.W.StepWatcher.wanted c.evaluate.new.watcher) w a b (g.W.StepWatcher.told c.tops.new.watcher) c.evaluate.ensures.wanted (behind_told w a b c.evaluate.ensures.before c.evaluate.ensures.silent) c.tops.ensures.behind

pub returns-then-may_replace-clause-behind : goal.returns-then-may_replace-clause-behind
returns-then-may_replace-clause-behind g c =
    let w = g.W.StepWatcher.wanted c.args.watcher.now in
    let a = g.W.StepWatcher.told c.args.watcher.now in
    let b = g.W.StepWatcher.told c.evaluate.new.watcher in
    behind_on (g.W.StepWatcher.wanted c.evaluate.new.watcher) w a b (g.W.StepWatcher.told c.tops.new.watcher) c.evaluate.ensures.wanted (behind_told w a b c.evaluate.ensures.before c.evaluate.ensures.silent) c.tops.ensures.behind

pub returns-else-may_replace-clause-behind : goal.returns-else-may_replace-clause-behind
returns-else-may_replace-clause-behind g c =
    let w = g.W.StepWatcher.wanted c.args.watcher.now in
    let a = g.W.StepWatcher.told c.args.watcher.now in
    let b = g.W.StepWatcher.told c.evaluate.new.watcher in
    behind_on (g.W.StepWatcher.wanted c.evaluate.new.watcher) w a b (g.W.StepWatcher.told c.tops.new.watcher) c.evaluate.ensures.wanted (behind_told w a b c.evaluate.ensures.before c.evaluate.ensures.silent) c.tops.ensures.behind

pub returns-then-may_replace-clause-normal : goal.returns-then-may_replace-clause-normal
returns-then-may_replace-clause-normal g c =
    let p = c.args.program.now in
    let is = c.in-Ok.ensures.kind.2 in
    subst (IsNormalTerm p.sig) c.in-Ok.ensures.value (term_told p.sig c.requires.runnable.reducible.lawful c.rebuilt.new.store c.in-Ok.whole.0 (record { within = is.within; bare = (c.in-Ok.ensures.kind.0, is.bare) }))

pub returns-then-may_replace-clause-told : goal.returns-then-may_replace-clause-told
returns-then-may_replace-clause-told g c = λ w.
    let p = c.args.program.now in
    let m = g.E.Evaluator.meanings c.args.evaluator.now in
    let n = g.E.Evaluator.meanings c.evaluate.new.self in
    let s1 = c.rebuilt.new.store in
    let s2 = c.evaluate.new.store in
    let s3 = c.tops.new.store in
    let t2 = g.E.Evaluator.table c.evaluate.new.self in
    let t3 = g.E.Evaluator.table c.tops.new.evaluator in
    let a = g.W.StepWatcher.told c.args.watcher.now in
    let b = g.W.StepWatcher.told c.evaluate.new.watcher in
    let d = g.W.StepWatcher.told c.tops.new.watcher in
    let whole = c.in-Ok.whole in
    let value = c.in-Ok-evaluate.value in
    let y = c.args.tally.now.rewrites in
    let sum = c.saturating_add-tally.result in
    let z = c.tops.new.tally.rewrites in
    let id = c.in-Ok-tops.term in
    let is = c.in-Ok.ensures.kind.2 in
    let there : IsTerm p.sig s1 whole.0 = record { within = is.within; bare = (c.in-Ok.ensures.kind.0, is.bare) } in
    let here = is_term_kept p.sig s1 s2 whole.0 c.evaluate.ensures.extends there in
    let same : m.program.sig ≡ p.sig = ap (λ (q : Program). q.sig) c.requires.goes_by.program in
    let reached = subst (λ (q : SignatureOf). IsTerm q s2 value.term.0) same c.in-Ok-evaluate.ensures.term in
    let evaluated = part_of p m.hooks s2 t2 a b (tree_at s2 whole.0) (tree_at s2 value.term.0) y value.rewrites sum c.saturating_add-tally.ensures
    (evaluation_rules p m.hooks s2 t2 a b whole value.term value.rewrites here.within.there reached.within.there
    (subst (λ (q : Program). TellsEvaluation q m.hooks s2 t2 a b whole value.term value.rewrites) c.requires.goes_by.program (c.in-Ok-evaluate.ensures.told w))) in
    let on = part_on p m.hooks s3 t3 a b d (tree_at s2 whole.0) (tree_at s2 value.term.0) (tree_at s3 id.0) y sum z
    (part_stays p m.hooks s2 s3 t2 t3 c.tops.ensures.extends c.tops.ensures.kept a b (tree_at s2 whole.0) (tree_at s2 value.term.0) y sum evaluated)
    (part_as p m n c.evaluate.ensures.meanings s3 t3 b d (tree_at s2 value.term.0) (tree_at s3 id.0) sum z (c.in-Ok-tops.ensures.told (c.evaluate.ensures.wanted ∙ w))) in
    subst (λ t. TellsPart p m.hooks s3 t3 a d t (tree_at s3 id.0) y z) (tree_kept (theory_at p.sig) s1 s2 whole.0 c.evaluate.ensures.extends there.within ∙ c.in-Ok.ensures.value) on
