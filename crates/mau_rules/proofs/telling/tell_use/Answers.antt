use Rattle.std.proofs.Common.{◌≡◌, ◌∙◌, ◌++◌, ◌∷◌, [], Result, OnOk, true, sym}
use Rattle.std.proofs.lemmas.Result.{on_ok_weaker}
use Rattle.mau_store.specs.Trees.{tree_at}
use Rattle.mau_sorts.proofs.Settling.{kept_same}
use Rattle.mau_api.specs.Events.{made}
use Rattle.mau_rules.proofs.Told.{behind_same, behind_step, told_found_stays, use_rules}
use Rattle.mau_rules.proofs.telling.tell_use.Goals as goal

on_ok : {T E : Type 0} (r : Result T E) (P : Type 0) {Q : Type 0} → OnOk r P → (P → Q) → OnOk r Q
on_ok r P {Q} h f = on_ok_weaker {P = P} {Q = Q} r f h

pub returns-clause-told : goal.returns-clause-told
returns-clause-told g c = λ w.
    on_ok c.step.result (g.W.StepWatcher.wanted c.args.watcher.now ≡ true → g.W.StepWatcher.told c.step.new.self ≡ g.W.StepWatcher.told c.args.watcher.now ++ made c.in_ok-step.step ∷ []) c.step.ensures.kept (λ kept hooks table front root path bound found.
    let p = c.args.program.now in
    let s0 = c.args.store.now in
    let s1 = c.rule_step.new.store in
    let x = c.args.found.now in
    let f = c.requires.found.1 in
    let a = g.W.StepWatcher.told c.args.watcher.now in
    use_rules p hooks s1 table front a (g.W.StepWatcher.told c.step.new.self) x f.rule f.at f.named
    (told_found_stays p hooks s0 s1 table table c.in_ok-step.ensures.extends (kept_same table) front a x bound found)
    c.in_ok-step.step c.in_ok-step.ensures.stands (tree_at s1 root) (tree_at s1 c.args.after.0) (c.in_ok-step.ensures.step table root path bound) (kept w))

pub returns-clause-behind : goal.returns-clause-behind
returns-clause-behind g c =
    behind_step (g.W.StepWatcher.wanted c.args.watcher.now) (g.W.StepWatcher.told c.args.watcher.now) (g.W.StepWatcher.told c.step.new.self) (made c.in_ok-step.step) c.step.result (sym c.wants.ensures ∙ c.if-not-wants.false) c.step.ensures.kept c.step.ensures.unchanged

pub returns-in_err-step-clause-behind : goal.returns-in_err-step-clause-behind
returns-in_err-step-clause-behind g c = behind_same (g.W.StepWatcher.wanted c.args.watcher.now) (g.W.StepWatcher.told c.args.watcher.now)

pub returns-then-not-wants-clause-behind : goal.returns-then-not-wants-clause-behind
returns-then-not-wants-clause-behind g c = behind_same (g.W.StepWatcher.wanted c.args.watcher.now) (g.W.StepWatcher.told c.args.watcher.now)
