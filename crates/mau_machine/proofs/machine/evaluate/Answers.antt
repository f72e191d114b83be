use Rattle.std.proofs.Common.{ℕ, ◌+◌, ◌++◌, ◌∷◌, [], false, refl, sym, ◌∙◌, ap, subst, arith, inl}
use Rattle.mau_store.specs.Trees.{tree_at}
use Rattle.mau_api.specs.declared.step.Place.TheVariants.{Whole}
use Rattle.mau_api.specs.Events.{entered, left}
use Rattle.mau_api.specs.Told.{IsToldRun}
use Rattle.mau_machine.specs.Telling.{evaluating, IsTelling}
use Rattle.mau_terms.specs.Tree.{Tree}
use Rattle.mau_evaluation.specs.Run.{Outcome, done, counted}
use Rattle.mau_machine.specs.Words.{kind_of, eval_on}
use Rattle.mau_machine.specs.Machine.{gave, as_value, comes, task_in, whole}
use Rattle.mau_machine.specs.Steps.{AreAnswered}
use Rattle.mau_machine.specs.Known.{value_of, HoldsIn}
use Rattle.mau_machine.specs.declared.frame.Control.TheVariants as Next
use Rattle.mau_machine.proofs.Following.{follows_as, ends_on, value_comes, value_comes_to_end, comes_lower, evaluations_fall}
use Rattle.mau_machine.proofs.Tellings.{between}
use Rattle.mau_machine.proofs.Advance.{more_on, from_zero, telling_starts}
use Rattle.mau_machine.proofs.Held.{start_is, held_first}
use Rattle.mau_machine.proofs.machine.evaluate.Goals as goal

pub returns-in-Ok-Value-clause-value : goal.returns-in-Ok-Value-clause-value
returns-in-Ok-Value-clause-value g c =
    let w = (g.W.World.words c.args.world.now c.args.store.now) in
    let w' = (g.W.World.words c.run.new.world c.run.new.store) in
    let t = Next.Eval c.args.level c.args.term in
    let fs = c.new-machine.result.frames.items in
    let b = c.args.budget.now in
    let f : ℕ → Outcome Tree = λ n. eval_on w.rules (c.args.level + n) (w.tree c.args.term.0) b in
    value_comes w.rules.program f (w'.tree c.in-Ok-Value.value.0) c.run.new.machine.rewrites c.run.new.budget c.in-Ok-Value.ensures.small
    (follows_as w.rules.program (λ n. whole w n fs t c.new-machine.result.rewrites b) _ (λ n. as_value (counted 0 (f n))) (λ n. done (gave (w'.tree c.in-Ok-Value.value.0)) c.run.new.machine.rewrites c.run.new.budget)
    (λ n. start_is w fs t c.new-machine.result.rewrites b c.new-machine.ensures.frames c.new-machine.ensures.rewrites n) (λ n. ap (λ z. comes w'.rules (task_in w' n z) c.run.new.machine.rewrites c.run.new.budget) (sym c.in-Ok-Value.field-0-is)) c.in-Ok-Value.ensures.goes)

pub returns-in-Ok-Value-clause-falls : goal.returns-in-Ok-Value-clause-falls
returns-in-Ok-Value-clause-falls g c =
    let w = (g.W.World.words c.args.world.now c.args.store.now) in
    let w' = (g.W.World.words c.run.new.world c.run.new.store) in
    let t = Next.Eval c.args.level c.args.term in
    let fs = c.new-machine.result.frames.items in
    let b = c.args.budget.now in
    let f : ℕ → Outcome Tree = λ n. eval_on w.rules (c.args.level + n) (w.tree c.args.term.0) b in
    comes_lower w.rules.program f (w'.tree c.in-Ok-Value.value.0) c.run.new.machine.rewrites c.run.new.budget b
    (value_comes w.rules.program f (w'.tree c.in-Ok-Value.value.0) c.run.new.machine.rewrites c.run.new.budget c.in-Ok-Value.ensures.small
    (follows_as w.rules.program (λ n. whole w n fs t c.new-machine.result.rewrites b) _ (λ n. as_value (counted 0 (f n))) (λ n. done (gave (w'.tree c.in-Ok-Value.value.0)) c.run.new.machine.rewrites c.run.new.budget)
    (λ n. start_is w fs t c.new-machine.result.rewrites b c.new-machine.ensures.frames c.new-machine.ensures.rewrites n) (λ n. ap (λ z. comes w'.rules (task_in w' n z) c.run.new.machine.rewrites c.run.new.budget) (sym c.in-Ok-Value.field-0-is)) c.in-Ok-Value.ensures.goes))
    (λ n. evaluations_fall w.rules c.args.level (w.tree c.args.term.0) b n)

pub returns-in-Ok-Value-clause-known : goal.returns-in-Ok-Value-clause-known
returns-in-Ok-Value-clause-known g c =
    let w = (g.W.World.words c.args.world.now c.args.store.now) in
    let w' = (g.W.World.words c.run.new.world c.run.new.store) in
    let t = Next.Eval c.args.level c.args.term in
    let fs = c.new-machine.result.frames.items in
    let H = subst (λ z. HoldsIn w' (value_of (kind_of w c.args.term.0)) [] z) c.in-Ok-Value.field-0-is
    (c.in-Ok-Value.ensures.known (value_of (kind_of w c.args.term.0)) (held_first w (value_of (kind_of w c.args.term.0)) fs t c.new-machine.ensures.frames c.requires.term refl)) in
    H.next

pub returns-in-Ok-Value-clause-kind : goal.returns-in-Ok-Value-clause-kind
returns-in-Ok-Value-clause-kind g c =
    let w = (g.W.World.words c.args.world.now c.args.store.now) in
    let w' = (g.W.World.words c.run.new.world c.run.new.store) in
    let t = Next.Eval c.args.level c.args.term in
    let fs = c.new-machine.result.frames.items in
    let H = subst (λ z. HoldsIn w' (value_of (kind_of w c.args.term.0)) [] z) c.in-Ok-Value.field-0-is
    (c.in-Ok-Value.ensures.known (value_of (kind_of w c.args.term.0)) (held_first w (value_of (kind_of w c.args.term.0)) fs t c.new-machine.ensures.frames c.requires.term refl)) in
    H.chained

pub returns-clause-ends : goal.returns-clause-ends
returns-clause-ends g c =
    let w = (g.W.World.words c.args.world.now c.args.store.now) in
    let t = Next.Eval c.args.level c.args.term in
    let fs = c.new-machine.result.frames.items in
    let b = c.args.budget.now in
    let f : ℕ → Outcome Tree = λ n. eval_on w.rules (c.args.level + n) (w.tree c.args.term.0) b in
    value_comes_to_end w.rules.program f c.in-Err.end
    (ends_on w.rules.program (λ n. whole w n fs t c.new-machine.result.rewrites b) (λ n. as_value (counted 0 (f n))) c.in-Err.end
    (λ n d q. start_is w fs t c.new-machine.result.rewrites b c.new-machine.ensures.frames c.new-machine.ensures.rewrites n ∙ q) c.in-Err.ensures.ends)

pub run-requires-clause-answered : goal.run-requires-clause-answered
run-requires-clause-answered g c =
    let w = (g.W.World.words c.args.world.now c.args.store.now) in
    subst (λ fs. AreAnswered w fs (Next.Eval c.args.level c.args.term) c.new-machine.result.rewrites c.args.budget.now) (sym c.new-machine.ensures.frames) tt

pub run-requires-clause-told : goal.run-requires-clause-told
run-requires-clause-told g c =
    let w = (g.W.World.words c.args.world.now c.args.store.now) in
    λ wants. (
      (g.T.StepWatcher.told c.enter_whole.new.watcher),
      evaluating (w.tree c.args.term.0),
      telling_starts w c.args.store.now (g.W.World.table c.args.world.now) (evaluating (w.tree c.args.term.0)) c.new-machine.result.frames.items (Next.Eval c.args.level c.args.term) c.new-machine.result.rewrites (g.T.StepWatcher.told c.enter_whole.new.watcher)
          c.new-machine.ensures.frames c.new-machine.ensures.rewrites (inl (refl, refl)) refl,
    )

pub returns-in_err-leave-in-Ok-Value-clause-before : goal.returns-in_err-leave-in-Ok-Value-clause-before
returns-in_err-leave-in-Ok-Value-clause-before g c =
    let w = (g.W.World.words c.args.world.now c.args.store.now) in
    let w' = (g.W.World.words c.run.new.world c.run.new.store) in
    let t = Next.Eval c.args.level c.args.term in
    let fs = c.new-machine.result.frames.items in
    let J = evaluating (w.tree c.args.term.0) in
    let begun = telling_starts w c.args.store.now (g.W.World.table c.args.world.now) J fs t c.new-machine.result.rewrites (g.T.StepWatcher.told c.enter_whole.new.watcher) c.new-machine.ensures.frames c.new-machine.ensures.rewrites (inl (refl, refl)) refl in
    let e1 = c.in_ok-enter_whole.ensures.told in
    let v1 = c.in_ok-enter_whole.ensures.watched in
    λ wants. more_on (g.T.StepWatcher.told c.args.watcher.now) (g.T.StepWatcher.told c.run.new.watcher) (g.T.StepWatcher.told c.leave.new.watcher) (more_on (g.T.StepWatcher.told c.args.watcher.now) (g.T.StepWatcher.told c.enter_whole.new.watcher) (g.T.StepWatcher.told c.run.new.watcher) (entered c.args.term Whole ∷ [], e1 wants) (c.in-Ok-Value.ensures.front (v1.0 ∙ wants) (g.T.StepWatcher.told c.enter_whole.new.watcher) J begun)) c.in_err-leave-in-Ok-Value.ensures.more

pub returns-in-Ok-Value-clause-told : goal.returns-in-Ok-Value-clause-told
returns-in-Ok-Value-clause-told g c =
    let w = (g.W.World.words c.args.world.now c.args.store.now) in
    let w' = (g.W.World.words c.run.new.world c.run.new.store) in
    let t = Next.Eval c.args.level c.args.term in
    let fs = c.new-machine.result.frames.items in
    let J = evaluating (w.tree c.args.term.0) in
    let begun = telling_starts w c.args.store.now (g.W.World.table c.args.world.now) J fs t c.new-machine.result.rewrites (g.T.StepWatcher.told c.enter_whole.new.watcher) c.new-machine.ensures.frames c.new-machine.ensures.rewrites (inl (refl, refl)) refl in
    let e1 = c.in_ok-enter_whole.ensures.told in
    let v1 = c.in_ok-enter_whole.ensures.watched in
    let k = g.met.W.World.keeps c.args.world.now c.run.new.world c.args.store.now c.run.new.store c.in-Ok-Value.ensures.grows in
    let kt = k.terms c.args.term.0 c.requires.term in
    let zt = g.met.W.World.stands c.run.new.world c.run.new.store c.args.term.0 kt.0 in
    let H = held_first w (value_of (kind_of w c.args.term.0)) fs t c.new-machine.ensures.frames c.requires.term refl in
    let G = subst (λ z. HoldsIn w' (value_of (kind_of w c.args.term.0)) [] z) c.in-Ok-Value.field-0-is (c.in-Ok-Value.ensures.known (value_of (kind_of w c.args.term.0)) H) in
    let zv = g.met.W.World.stands c.run.new.world c.run.new.store c.in-Ok-Value.value.0 (g.met.W.World.settled c.run.new.world c.run.new.store c.in-Ok-Value.value.0 G.next) in
    λ wants. let L = subst (λ z. IsTelling w' c.run.new.store (g.W.World.table c.run.new.world) (g.T.StepWatcher.told c.enter_whole.new.watcher) J [] z c.run.new.machine.rewrites (g.T.StepWatcher.told c.run.new.watcher)) c.in-Ok-Value.field-0-is
    (c.in-Ok-Value.ensures.told (v1.0 ∙ wants) (g.T.StepWatcher.told c.enter_whole.new.watcher) J (value_of (kind_of w c.args.term.0)) H begun) in
    record {
      events = L.events;
      told = c.in_ok-leave-in-Ok-Value.ensures.told (c.in-Ok-Value.ensures.watched.0 ∙ (v1.0 ∙ wants))
          ∙ (ap (λ z. z ++ left c.in-Ok-Value.value ∷ []) (L.is ∙ ap (λ z. z ++ L.events) (e1 wants)) ∙ between (g.T.StepWatcher.told c.args.watcher.now) (entered c.args.term Whole) L.events (left c.in-Ok-Value.value));
      run = subst (λ z. IsToldRun w'.rules.written w'.rules.hooks c.run.new.store (g.W.World.table c.run.new.world) false z L.events (tree_at c.run.new.store c.in-Ok-Value.value.0)) (sym kt.1 ∙ zt.1)
          (subst (λ z. IsToldRun w'.rules.written w'.rules.hooks c.run.new.store (g.W.World.table c.run.new.world) false (w.tree c.args.term.0) L.events z) zv.1 L.tells.0);
      count = from_zero c.run.new.machine.rewrites L.events L.tells.1;
    }

pub returns-in-Ok-Value-clause-before : goal.returns-in-Ok-Value-clause-before
returns-in-Ok-Value-clause-before g c =
    let w = (g.W.World.words c.args.world.now c.args.store.now) in
    let w' = (g.W.World.words c.run.new.world c.run.new.store) in
    let t = Next.Eval c.args.level c.args.term in
    let fs = c.new-machine.result.frames.items in
    let J = evaluating (w.tree c.args.term.0) in
    let begun = telling_starts w c.args.store.now (g.W.World.table c.args.world.now) J fs t c.new-machine.result.rewrites (g.T.StepWatcher.told c.enter_whole.new.watcher) c.new-machine.ensures.frames c.new-machine.ensures.rewrites (inl (refl, refl)) refl in
    let e1 = c.in_ok-enter_whole.ensures.told in
    let v1 = c.in_ok-enter_whole.ensures.watched in
    λ wants. more_on (g.T.StepWatcher.told c.args.watcher.now) (g.T.StepWatcher.told c.run.new.watcher) (g.T.StepWatcher.told c.leave.new.watcher) (more_on (g.T.StepWatcher.told c.args.watcher.now) (g.T.StepWatcher.told c.enter_whole.new.watcher) (g.T.StepWatcher.told c.run.new.watcher) (entered c.args.term Whole ∷ [], e1 wants) (c.in-Ok-Value.ensures.front (v1.0 ∙ wants) (g.T.StepWatcher.told c.enter_whole.new.watcher) J begun)) (left c.in-Ok-Value.value ∷ [], c.in_ok-leave-in-Ok-Value.ensures.told (c.in-Ok-Value.ensures.watched.0 ∙ (v1.0 ∙ wants)))

pub returns-in-Ok : goal.returns-in-Ok
returns-in-Ok g c =
    let w = (g.W.World.words c.args.world.now c.args.store.now) in
    let w' = (g.W.World.words c.run.new.world c.run.new.store) in
    let t = Next.Eval c.args.level c.args.term in
    let fs = c.new-machine.result.frames.items in
    let J = evaluating (w.tree c.args.term.0) in
    let begun = telling_starts w c.args.store.now (g.W.World.table c.args.world.now) J fs t c.new-machine.result.rewrites (g.T.StepWatcher.told c.enter_whole.new.watcher) c.new-machine.ensures.frames c.new-machine.ensures.rewrites (inl (refl, refl)) refl in
    let e1 = c.in_ok-enter_whole.ensures.told in
    let v1 = c.in_ok-enter_whole.ensures.watched in
    record {
      value = tt;
      ends = tt;
      known = tt;
      kind = tt;
      falls = omega arith;
      grows = c.in-Ok.ensures.grows;
      told = λ wants. tt;
      before = λ wants. more_on (g.T.StepWatcher.told c.args.watcher.now) (g.T.StepWatcher.told c.enter_whole.new.watcher) (g.T.StepWatcher.told c.run.new.watcher) (entered c.args.term Whole ∷ [], e1 wants) (c.in-Ok.ensures.front (v1.0 ∙ wants) (g.T.StepWatcher.told c.enter_whole.new.watcher) J begun);
      silent = λ q. c.in-Ok.ensures.watched.1 (v1.0 ∙ q) ∙ v1.1 q;
      wanted = c.in-Ok.ensures.watched.0 ∙ v1.0;
    }

pub returns-clause-before : goal.returns-clause-before
returns-clause-before g c =
    let w = (g.W.World.words c.args.world.now c.args.store.now) in
    let w' = (g.W.World.words c.run.new.world c.run.new.store) in
    let t = Next.Eval c.args.level c.args.term in
    let fs = c.new-machine.result.frames.items in
    let J = evaluating (w.tree c.args.term.0) in
    let begun = telling_starts w c.args.store.now (g.W.World.table c.args.world.now) J fs t c.new-machine.result.rewrites (g.T.StepWatcher.told c.enter_whole.new.watcher) c.new-machine.ensures.frames c.new-machine.ensures.rewrites (inl (refl, refl)) refl in
    let e1 = c.in_ok-enter_whole.ensures.told in
    let v1 = c.in_ok-enter_whole.ensures.watched in
    λ wants. more_on (g.T.StepWatcher.told c.args.watcher.now) (g.T.StepWatcher.told c.enter_whole.new.watcher) (g.T.StepWatcher.told c.run.new.watcher) (entered c.args.term Whole ∷ [], e1 wants) (c.in-Err.ensures.front (v1.0 ∙ wants) (g.T.StepWatcher.told c.enter_whole.new.watcher) J begun)
