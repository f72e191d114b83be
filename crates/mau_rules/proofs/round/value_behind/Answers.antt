use Rattle.std.proofs.Common.{◌≡◌, ◌-◌, ◌+◌, ℕ, zero, suc, Ok, Err, map, refl, sym, ◌∙◌, subst, arith}
use Rattle.mau_signature.specs.Signature.{theory_at}
use Rattle.mau_store.proofs.Growth.{extension_is_preorder}
use Rattle.mau_sorts.proofs.Settling.{kept_same}
use Rattle.mau_program.specs.declared.program.Program.{Program}
use Rattle.mau_api.specs.Terms.{IsTerm}
use Rattle.mau_api.specs.Told.{TellsEvaluation, shown_count}
use Rattle.mau_reduce.proofs.KindsKept.{tree_kept, is_term_kept}
use Rattle.mau_store.specs.Trees.{tree_at}
use Rattle.mau_api.specs.Programs.{program_over}
use Rattle.mau_api.specs.declared.results.Reduced.{Reduced}
use Rattle.mau_api.specs.Answers.{uses_results}
use Rattle.mau_rules.specs.Found.{item_of, found_tree}
use Rattle.mau_rules.specs.Walk.{opened, around_all}
use Rattle.mau_rules.proofs.Solving.{evaluation_known}
use Rattle.mau_rules.proofs.Uses.{use_value, use_ends, use_so, built_ends}
use Rattle.mau_rules.specs.Telling.{TellsRules}
use Rattle.mau_rules.proofs.Paths.{same_root, path_kept, path_term, walk_kept}
use Rattle.mau_rules.proofs.Told.{behind_same, behind_told, behind_on, bound_stays, found_stays, told_found_stays, evaluation_rules, rules_on, rules_stay, use_sum}
use Rattle.mau_rules.proofs.round.value_behind.Goals as goal

one_at_least : (b : ℕ) → (b ≡ 0 → ⊥) → b ≡ suc (b - 1)
one_at_least zero h = absurd (h refl)
one_at_least (suc b) h = omega arith

pub returns-in-Err-clause-known : goal.returns-in-Err-clause-known
returns-in-Err-clause-known g c =
    let p = c.args.program.now in
    let m = g.E.Evaluator.meanings c.args.evaluator.now in
    let s1 = c.args.store.now in
    let b = c.args.budget.now in
    built_ends p (program_over p m.hooks) refl (item_of m (g.W.StepWatcher.wanted c.args.watcher.now)) (around_all (λ v. v) (map (opened s1) c.args.way.now) (found_tree p s1 c.args.found.now)) b (b - 1)
    (one_at_least b c.if-budget-eq0.false) c.rewritten.new.store (b - 1) c.in-Err.end c.in-Err.ensures.ends

pub returns-in-Ok-evaluate-clause-known : goal.returns-in-Ok-evaluate-clause-known
returns-in-Ok-evaluate-clause-known g c =
    let p = c.args.program.now in
    let m = g.E.Evaluator.meanings c.args.evaluator.now in
    let v = g.W.StepWatcher.wanted c.tell_use.new.watcher in
    let laws = g.met.E.Evaluator.laws c.args.evaluator.now in
    let s1 = c.args.store.now in
    let b = c.args.budget.now in
    let t = around_all (λ v. v) (map (opened s1) c.args.way.now) (found_tree p s1 c.args.found.now) in
    let u = tree_at c.tell_use.new.store c.in-Ok.whole.0 in
    let is = tree_kept (theory_at p.sig) c.rewritten.new.store c.tell_use.new.store c.in-Ok.whole.0 c.tell_use.ensures.extends c.in-Ok.ensures.term.within in
    let y : Reduced = record { term = c.in-Ok-evaluate.value.term; rewrites = c.saturating_add.result } in
    use_so p m m v (g.W.StepWatcher.wanted c.args.watcher.now) refl c.tell_use.ensures.wanted t b c.evaluate.new.store (Ok y) c.evaluate.new.budget
    (use_value p c.requires.runnable m c.requires.goes_by laws v t u (is ∙ c.in-Ok.ensures.value) b (b - 1)
    (one_at_least b c.if-budget-eq0.false) c.evaluate.new.store c.evaluate.new.budget c.in-Ok-evaluate.value y refl c.saturating_add.ensures
    (evaluation_known p c.requires.runnable m c.requires.goes_by laws v u (b - 1) c.evaluate.new.store (Ok c.in-Ok-evaluate.value) c.evaluate.new.budget (uses_results m v)
    c.in-Ok-evaluate.ensures.allowed c.in-Ok-evaluate.ensures.exact c.in-Ok-evaluate.ensures.left))

pub returns-in-Err-evaluate-clause-known : goal.returns-in-Err-evaluate-clause-known
returns-in-Err-evaluate-clause-known g c =
    let p = c.args.program.now in
    let m = g.E.Evaluator.meanings c.args.evaluator.now in
    let v = g.W.StepWatcher.wanted c.tell_use.new.watcher in
    let laws = g.met.E.Evaluator.laws c.args.evaluator.now in
    let s1 = c.args.store.now in
    let b = c.args.budget.now in
    let t = around_all (λ v. v) (map (opened s1) c.args.way.now) (found_tree p s1 c.args.found.now) in
    let u = tree_at c.tell_use.new.store c.in-Ok.whole.0 in
    let is = tree_kept (theory_at p.sig) c.rewritten.new.store c.tell_use.new.store c.in-Ok.whole.0 c.tell_use.ensures.extends c.in-Ok.ensures.term.within in
    use_so p m m v (g.W.StepWatcher.wanted c.args.watcher.now) refl c.tell_use.ensures.wanted t b c.evaluate.new.store (Err c.in-Err-evaluate.end) c.evaluate.new.budget
    (use_ends p c.requires.runnable m c.requires.goes_by laws v t u (is ∙ c.in-Ok.ensures.value) b (b - 1)
    (one_at_least b c.if-budget-eq0.false) c.evaluate.new.store c.evaluate.new.budget c.in-Err-evaluate.end
    (evaluation_known p c.requires.runnable m c.requires.goes_by laws v u (b - 1) c.evaluate.new.store (Err c.in-Err-evaluate.end) c.evaluate.new.budget (uses_results m v)
    c.in-Err-evaluate.ensures.allowed c.in-Err-evaluate.ensures.exact c.in-Err-evaluate.ensures.left))

pub evaluate-requires-clause-term : goal.evaluate-requires-clause-term
evaluate-requires-clause-term g c =
    subst (λ (q : Program). IsTerm q.sig c.tell_use.new.store c.in-Ok.whole.0) (sym c.requires.goes_by.program)
    (is_term_kept c.args.program.now.sig c.rewritten.new.store c.tell_use.new.store c.in-Ok.whole.0 c.tell_use.ensures.extends c.in-Ok.ensures.term)

pub returns-in-Ok-evaluate-clause-extends : goal.returns-in-Ok-evaluate-clause-extends
returns-in-Ok-evaluate-clause-extends g c =
    extension_is_preorder.transitive c.args.store.now c.tell_use.new.store c.evaluate.new.store
    (extension_is_preorder.transitive c.args.store.now c.rewritten.new.store c.tell_use.new.store c.in-Ok.ensures.extends c.tell_use.ensures.extends) c.evaluate.ensures.extends

pub returns-in-Err-evaluate-clause-extends : goal.returns-in-Err-evaluate-clause-extends
returns-in-Err-evaluate-clause-extends g c =
    extension_is_preorder.transitive c.args.store.now c.tell_use.new.store c.evaluate.new.store
    (extension_is_preorder.transitive c.args.store.now c.rewritten.new.store c.tell_use.new.store c.in-Ok.ensures.extends c.tell_use.ensures.extends) c.evaluate.ensures.extends

-- ---- what is told

pub tell_use-requires-clause-walk : goal.tell_use-requires-clause-walk
tell_use-requires-clause-walk g c =
    let w = c.requires.walk in
    (w.0, walk_kept c.args.program.now.sig c.args.store.now c.rewritten.new.store c.in-Ok.ensures.extends w.0 c.args.way.now c.args.found.now.term.0 w.1)

pub tell_use-requires-clause-found : goal.tell_use-requires-clause-found
tell_use-requires-clause-found g c =
    let p = c.args.program.now in
    let old = c.args.store.now in
    let w = c.requires.walk in
    let table = g.E.Evaluator.table c.args.evaluator.now in
    let is = path_term p.sig c.requires.runnable.reducible.lawful old c.len.ensures.nodes w.0 c.args.way.now c.args.found.now.term.0 w.1.begins w.1.path in
    (table, found_stays p old c.rewritten.new.store table c.in-Ok.ensures.extends c.args.found.now is c.requires.found)

pub returns-in-Ok-evaluate-clause-told : goal.returns-in-Ok-evaluate-clause-told
returns-in-Ok-evaluate-clause-told g c = λ w front root path found.
    let p = c.args.program.now in
    let m = g.E.Evaluator.meanings c.args.evaluator.now in
    let s0 = c.args.store.now in
    let s1 = c.rewritten.new.store in
    let s2 = c.tell_use.new.store in
    let s3 = c.evaluate.new.store in
    let x = c.args.found.now in
    let whole = c.in-Ok.whole in
    let value = c.in-Ok-evaluate.value in
    let before = g.E.Evaluator.table c.args.evaluator.now in
    let after = g.E.Evaluator.table c.evaluate.new.self in
    let a = g.W.StepWatcher.told c.args.watcher.now in
    let b = g.W.StepWatcher.told c.tell_use.new.watcher in
    let d = g.W.StepWatcher.told c.evaluate.new.watcher in
    let bound = bound_stays p.sig s0 s1 before before c.in-Ok.ensures.extends (kept_same before) x.bound.items c.requires.found.bound in
    let asked = told_found_stays p m.hooks s0 s1 before before c.in-Ok.ensures.extends (kept_same before) front a x c.requires.found.bound found in
    let told_use = c.in-Ok-tell_use.ensures.told w m.hooks before front root (path_kept s0 s1 c.in-Ok.ensures.extends root c.args.way.now x.term.0 path) bound asked in
    let used = rules_stay p m.hooks s2 s3 before after c.evaluate.ensures.extends c.evaluate.ensures.kept front b (tree_at s2 root) (tree_at s2 whole.0) (shown_count (x.rewrites + 1)) told_use in
    let e02 = extension_is_preorder.transitive s0 s1 s2 c.in-Ok.ensures.extends c.tell_use.ensures.extends in
    let begins : IsTerm p.sig s0 root = subst (IsTerm p.sig s0) (same_root s0 c.requires.walk.0 root c.args.way.now x.term.0 c.requires.walk.1.path path) c.requires.walk.1.begins in
    let there = is_term_kept p.sig s1 s2 whole.0 c.tell_use.ensures.extends c.in-Ok.ensures.term in
    let here = is_term_kept p.sig s2 s3 whole.0 c.evaluate.ensures.extends there in
    let reached : IsTerm p.sig s3 value.term.0 = subst (λ (q : Program). IsTerm q.sig s3 value.term.0) c.requires.goes_by.program c.in-Ok-evaluate.ensures.term in
    let told = subst (λ (q : Program). TellsEvaluation q m.hooks s3 after b d whole value.term value.rewrites) c.requires.goes_by.program (c.in-Ok-evaluate.ensures.told (c.tell_use.ensures.wanted ∙ w)) in
    let evaluated = evaluation_rules p m.hooks s3 after b d whole value.term value.rewrites here.within.there reached.within.there told in
    let one = subst (λ t. TellsRules p m.hooks s3 after front b t (tree_at s2 whole.0) (shown_count (x.rewrites + 1))) (tree_kept (theory_at p.sig) s0 s2 root e02 begins.within) used in
    let two = subst (λ t. TellsRules p m.hooks s3 after front b (tree_at s0 root) t (shown_count (x.rewrites + 1))) (sym (tree_kept (theory_at p.sig) s2 s3 whole.0 c.evaluate.ensures.extends there.within)) one in
    rules_on p m.hooks s3 after front b d (tree_at s0 root) (tree_at s3 whole.0) (tree_at s3 value.term.0) (shown_count (x.rewrites + 1)) value.rewrites (shown_count (x.rewrites + c.saturating_add.result))
    (use_sum x.rewrites value.rewrites c.saturating_add.result c.saturating_add.ensures) two evaluated

pub returns-in-Ok-evaluate-clause-behind : goal.returns-in-Ok-evaluate-clause-behind
returns-in-Ok-evaluate-clause-behind g c =
    let v = g.W.StepWatcher.wanted c.tell_use.new.watcher in
    let b = g.W.StepWatcher.told c.tell_use.new.watcher in
    let d = g.W.StepWatcher.told c.evaluate.new.watcher in
    behind_on v (g.W.StepWatcher.wanted c.args.watcher.now) (g.W.StepWatcher.told c.args.watcher.now) b d c.tell_use.ensures.wanted c.in-Ok-tell_use.ensures.behind (behind_told v b d c.evaluate.ensures.before c.evaluate.ensures.silent)

pub returns-in-Err-evaluate-clause-behind : goal.returns-in-Err-evaluate-clause-behind
returns-in-Err-evaluate-clause-behind g c =
    let v = g.W.StepWatcher.wanted c.tell_use.new.watcher in
    let b = g.W.StepWatcher.told c.tell_use.new.watcher in
    let d = g.W.StepWatcher.told c.evaluate.new.watcher in
    behind_on v (g.W.StepWatcher.wanted c.args.watcher.now) (g.W.StepWatcher.told c.args.watcher.now) b d c.tell_use.ensures.wanted c.in-Ok-tell_use.ensures.behind (behind_told v b d c.evaluate.ensures.before c.evaluate.ensures.silent)

pub returns-in-Err-clause-behind : goal.returns-in-Err-clause-behind
returns-in-Err-clause-behind g c = behind_same (g.W.StepWatcher.wanted c.args.watcher.now) (g.W.StepWatcher.told c.args.watcher.now)

pub returns-then-budget-eq0-clause-behind : goal.returns-then-budget-eq0-clause-behind
returns-then-budget-eq0-clause-behind g c = behind_same (g.W.StepWatcher.wanted c.args.watcher.now) (g.W.StepWatcher.told c.args.watcher.now)
