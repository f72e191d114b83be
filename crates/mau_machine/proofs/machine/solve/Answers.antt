use Rattle.std.proofs.Common.{◌≡◌, ℕ, ◌+◌, ◌≤◌, Option, Some, None, [], length, refl, sym, ◌∙◌, ap, subst, arith, take, length-append}
use Rattle.std.specs.Option.{option_map}
use Rattle.std.proofs.Math.Seq.{take-append_seam}
use Rattle.mau_machine.specs.Telling.{solving, IsTelling}
use Rattle.mau_evaluation.specs.Run.{Outcome, done, counted_if}
use Rattle.mau_evaluation.specs.Evaluation.{Binding}
use Rattle.mau_machine.specs.Words.{solve_from, IsSolution}
use Rattle.mau_machine.specs.Machine.{held, failed, as_answer, comes, task_in, whole}
use Rattle.mau_machine.specs.Steps.{AreAnswered}
use Rattle.mau_machine.specs.Known.{answer_to, HoldsIn}
use Rattle.mau_machine.specs.declared.frame.Condition.{Condition}
use Rattle.mau_machine.specs.declared.frame.Control.TheVariants as Next
use Rattle.mau_machine.proofs.Following.{follows_as, ends_on, solution_comes, none_comes, answer_comes_to_end, comes_lower, solutions_fall, uncounted_falls}
use Rattle.mau_machine.proofs.Tellings.{none_shown, same_extends}
use Rattle.mau_machine.proofs.Advance.{no_more, from_zero, telling_starts}
use Rattle.mau_machine.proofs.Held.{start_is, held_first}
use Rattle.mau_machine.proofs.machine.solve.Goals as goal

pub run-requires-clause-held : goal.run-requires-clause-held
run-requires-clause-held g c =
    let w = (g.W.World.words c.args.world.now c.args.store.now) in
    let s : Condition g.row.W-Binding.Denot = record { level = c.args.level; condition = c.args.condition; at = 0; binding = c.args.binding; behind = c.args.behind } in
    (answer_to c.args.condition, held_first w (answer_to c.args.condition) c.new-machine.result.frames.items (Next.Solve s) c.new-machine.ensures.frames (c.requires.binding, c.requires.behind) refl)

pub returns-in-Ok-Held-clause-some : goal.returns-in-Ok-Held-clause-some
returns-in-Ok-Held-clause-some g c =
    let w = (g.W.World.words c.args.world.now c.args.store.now) in
    let w' = (g.W.World.words c.run.new.world c.run.new.store) in
    let s : Condition g.row.W-Binding.Denot = record { level = c.args.level; condition = c.args.condition; at = 0; binding = c.args.binding; behind = c.args.behind } in
    let t = Next.Solve s in
    let fs = c.new-machine.result.frames.items in
    let b = c.args.budget.now in
    let f : ℕ → Outcome (Option Binding) = λ n. solve_from w.rules (option_map (λ x. w.bound x.value) c.args.behind) (c.args.level + n) c.args.condition 0 (w.bound c.args.binding) b in
    solution_comes w.rules.program f (w'.bound c.in-Ok-Held.solution) c.run.new.machine.rewrites c.run.new.budget c.in-Ok-Held.ensures.small
    (follows_as w.rules.program (λ n. whole w n fs t c.new-machine.result.rewrites b) _ (λ n. as_answer (counted_if 0 (f n))) (λ n. done (held (w'.bound c.in-Ok-Held.solution)) c.run.new.machine.rewrites c.run.new.budget)
    (λ n. start_is w fs t c.new-machine.result.rewrites b c.new-machine.ensures.frames c.new-machine.ensures.rewrites n) (λ n. ap (λ z. comes w'.rules (task_in w' n z) c.run.new.machine.rewrites c.run.new.budget) (sym c.in-Ok-Held.field-0-is)) c.in-Ok-Held.ensures.goes)

pub returns-in-Ok-Held-clause-falls : goal.returns-in-Ok-Held-clause-falls
returns-in-Ok-Held-clause-falls g c =
    let w = (g.W.World.words c.args.world.now c.args.store.now) in
    let w' = (g.W.World.words c.run.new.world c.run.new.store) in
    let s : Condition g.row.W-Binding.Denot = record { level = c.args.level; condition = c.args.condition; at = 0; binding = c.args.binding; behind = c.args.behind } in
    let t = Next.Solve s in
    let fs = c.new-machine.result.frames.items in
    let b = c.args.budget.now in
    let f : ℕ → Outcome (Option Binding) = λ n. solve_from w.rules (option_map (λ x. w.bound x.value) c.args.behind) (c.args.level + n) c.args.condition 0 (w.bound c.args.binding) b in
    comes_lower w.rules.program f (Some (w'.bound c.in-Ok-Held.solution)) c.run.new.machine.rewrites c.run.new.budget b
    (solution_comes w.rules.program f (w'.bound c.in-Ok-Held.solution) c.run.new.machine.rewrites c.run.new.budget c.in-Ok-Held.ensures.small
    (follows_as w.rules.program (λ n. whole w n fs t c.new-machine.result.rewrites b) _ (λ n. as_answer (counted_if 0 (f n))) (λ n. done (held (w'.bound c.in-Ok-Held.solution)) c.run.new.machine.rewrites c.run.new.budget)
    (λ n. start_is w fs t c.new-machine.result.rewrites b c.new-machine.ensures.frames c.new-machine.ensures.rewrites n) (λ n. ap (λ z. comes w'.rules (task_in w' n z) c.run.new.machine.rewrites c.run.new.budget) (sym c.in-Ok-Held.field-0-is)) c.in-Ok-Held.ensures.goes))
    (λ n. solutions_fall w.rules (option_map (λ x. w.bound x.value) c.args.behind) c.args.level c.args.condition 0 (w.bound c.args.binding) b n)

pub returns-in-Ok-Held-clause-known : goal.returns-in-Ok-Held-clause-known
returns-in-Ok-Held-clause-known g c =
    let w = (g.W.World.words c.args.world.now c.args.store.now) in
    let w' = (g.W.World.words c.run.new.world c.run.new.store) in
    let s : Condition g.row.W-Binding.Denot = record { level = c.args.level; condition = c.args.condition; at = 0; binding = c.args.binding; behind = c.args.behind } in
    let t = Next.Solve s in
    let fs = c.new-machine.result.frames.items in
    let H = subst (λ z. HoldsIn w' (answer_to c.args.condition) [] z) c.in-Ok-Held.field-0-is
    (c.in-Ok-Held.ensures.known (answer_to c.args.condition) (held_first w (answer_to c.args.condition) fs t c.new-machine.ensures.frames (c.requires.binding, c.requires.behind) refl)) in
    subst (λ e. IsSolution w' e c.in-Ok-Held.solution) H.chained H.next

pub returns-in-Ok-Failed-clause-none : goal.returns-in-Ok-Failed-clause-none
returns-in-Ok-Failed-clause-none g c =
    let w = (g.W.World.words c.args.world.now c.args.store.now) in
    let w' = (g.W.World.words c.run.new.world c.run.new.store) in
    let s : Condition g.row.W-Binding.Denot = record { level = c.args.level; condition = c.args.condition; at = 0; binding = c.args.binding; behind = c.args.behind } in
    let t = Next.Solve s in
    let fs = c.new-machine.result.frames.items in
    let b = c.args.budget.now in
    let f : ℕ → Outcome (Option Binding) = λ n. solve_from w.rules (option_map (λ x. w.bound x.value) c.args.behind) (c.args.level + n) c.args.condition 0 (w.bound c.args.binding) b in
    none_comes w.rules.program f c.run.new.budget
    (follows_as w.rules.program (λ n. whole w n fs t c.new-machine.result.rewrites b) _ (λ n. as_answer (counted_if 0 (f n))) (λ n. done failed 0 c.run.new.budget)
    (λ n. start_is w fs t c.new-machine.result.rewrites b c.new-machine.ensures.frames c.new-machine.ensures.rewrites n) (λ n. ap (λ z. comes w'.rules (task_in w' n z) c.run.new.machine.rewrites c.run.new.budget) (sym c.in-Ok-Failed.field-0-is)) c.in-Ok-Failed.ensures.goes)

pub returns-in-Ok-Failed-clause-falls : goal.returns-in-Ok-Failed-clause-falls
returns-in-Ok-Failed-clause-falls g c =
    let w = (g.W.World.words c.args.world.now c.args.store.now) in
    let w' = (g.W.World.words c.run.new.world c.run.new.store) in
    let s : Condition g.row.W-Binding.Denot = record { level = c.args.level; condition = c.args.condition; at = 0; binding = c.args.binding; behind = c.args.behind } in
    let t = Next.Solve s in
    let fs = c.new-machine.result.frames.items in
    let b = c.args.budget.now in
    let f : ℕ → Outcome (Option Binding) = λ n. solve_from w.rules (option_map (λ x. w.bound x.value) c.args.behind) (c.args.level + n) c.args.condition 0 (w.bound c.args.binding) b in
    comes_lower w.rules.program (λ n. counted_if 0 (f n)) None 0 c.run.new.budget b
    (none_comes w.rules.program f c.run.new.budget
    (follows_as w.rules.program (λ n. whole w n fs t c.new-machine.result.rewrites b) _ (λ n. as_answer (counted_if 0 (f n))) (λ n. done failed 0 c.run.new.budget)
    (λ n. start_is w fs t c.new-machine.result.rewrites b c.new-machine.ensures.frames c.new-machine.ensures.rewrites n) (λ n. ap (λ z. comes w'.rules (task_in w' n z) c.run.new.machine.rewrites c.run.new.budget) (sym c.in-Ok-Failed.field-0-is)) c.in-Ok-Failed.ensures.goes))
    (λ n. uncounted_falls b (f n) (solutions_fall w.rules (option_map (λ x. w.bound x.value) c.args.behind) c.args.level c.args.condition 0 (w.bound c.args.binding) b n))

pub returns-clause-ends : goal.returns-clause-ends
returns-clause-ends g c =
    let w = (g.W.World.words c.args.world.now c.args.store.now) in
    let s : Condition g.row.W-Binding.Denot = record { level = c.args.level; condition = c.args.condition; at = 0; binding = c.args.binding; behind = c.args.behind } in
    let t = Next.Solve s in
    let fs = c.new-machine.result.frames.items in
    let b = c.args.budget.now in
    let f : ℕ → Outcome (Option Binding) = λ n. solve_from w.rules (option_map (λ x. w.bound x.value) c.args.behind) (c.args.level + n) c.args.condition 0 (w.bound c.args.binding) b in
    answer_comes_to_end w.rules.program f c.in-Err.end
    (ends_on w.rules.program (λ n. whole w n fs t c.new-machine.result.rewrites b) (λ n. as_answer (counted_if 0 (f n))) c.in-Err.end
    (λ n d q. start_is w fs t c.new-machine.result.rewrites b c.new-machine.ensures.frames c.new-machine.ensures.rewrites n ∙ q) c.in-Err.ensures.ends)

pub run-requires-clause-answered : goal.run-requires-clause-answered
run-requires-clause-answered g c =
    let w = (g.W.World.words c.args.world.now c.args.store.now) in
    let s : Condition g.row.W-Binding.Denot = record { level = c.args.level; condition = c.args.condition; at = 0; binding = c.args.binding; behind = c.args.behind } in
    subst (λ fs. AreAnswered w fs (Next.Solve s) c.new-machine.result.rewrites c.args.budget.now) (sym c.new-machine.ensures.frames) tt

pub run-requires-clause-told : goal.run-requires-clause-told
run-requires-clause-told g c =
    let w = (g.W.World.words c.args.world.now c.args.store.now) in
    let s : Condition g.row.W-Binding.Denot = record { level = c.args.level; condition = c.args.condition; at = 0; binding = c.args.binding; behind = c.args.behind } in
    λ wants. (
      (g.T.StepWatcher.told c.args.watcher.now),
      solving c.args.condition 0 (w.bound c.args.binding),
      telling_starts w c.args.store.now (g.W.World.table c.args.world.now) (solving c.args.condition 0 (w.bound c.args.binding)) c.new-machine.result.frames.items (Next.Solve s) c.new-machine.result.rewrites (g.T.StepWatcher.told c.args.watcher.now)
          c.new-machine.ensures.frames c.new-machine.ensures.rewrites (refl, same_extends (w.bound c.args.binding), none_shown w.rules c.args.store.now (g.W.World.table c.args.world.now) c.args.condition 0 (w.bound c.args.binding)) refl,
    )

pub returns-in-Ok-Held-clause-told : goal.returns-in-Ok-Held-clause-told
returns-in-Ok-Held-clause-told g c =
    let w = (g.W.World.words c.args.world.now c.args.store.now) in
    let w' = (g.W.World.words c.run.new.world c.run.new.store) in
    let s : Condition g.row.W-Binding.Denot = record { level = c.args.level; condition = c.args.condition; at = 0; binding = c.args.binding; behind = c.args.behind } in
    let t = Next.Solve s in
    let fs = c.new-machine.result.frames.items in
    let J = solving c.args.condition 0 (w.bound c.args.binding) in
    let begun = telling_starts w c.args.store.now (g.W.World.table c.args.world.now) J fs t c.new-machine.result.rewrites (g.T.StepWatcher.told c.args.watcher.now) c.new-machine.ensures.frames c.new-machine.ensures.rewrites
    (refl, same_extends (w.bound c.args.binding), none_shown w.rules c.args.store.now (g.W.World.table c.args.world.now) c.args.condition 0 (w.bound c.args.binding)) refl in
    let H = held_first w (answer_to c.args.condition) fs t c.new-machine.ensures.frames (c.requires.binding, c.requires.behind) refl in
    λ wants. let L = subst (λ z. IsTelling w' c.run.new.store (g.W.World.table c.run.new.world) (g.T.StepWatcher.told c.args.watcher.now) J [] z c.run.new.machine.rewrites (g.T.StepWatcher.told c.run.new.watcher)) c.in-Ok-Held.field-0-is
    (c.in-Ok-Held.ensures.told wants (g.T.StepWatcher.told c.args.watcher.now) J (answer_to c.args.condition) H begun) in
    let q = L.tells.0.2 (w'.bound c.in-Ok-Held.solution) (same_extends (w'.bound c.in-Ok-Held.solution)) in
    record { events = L.events; told = L.is; shown = record { stand = q.stand; shown = q.shown }; count = from_zero c.run.new.machine.rewrites L.events L.tells.1 }

pub returns-in-Ok-Held-clause-before : goal.returns-in-Ok-Held-clause-before
returns-in-Ok-Held-clause-before g c =
    let w = (g.W.World.words c.args.world.now c.args.store.now) in
    let w' = (g.W.World.words c.run.new.world c.run.new.store) in
    let s : Condition g.row.W-Binding.Denot = record { level = c.args.level; condition = c.args.condition; at = 0; binding = c.args.binding; behind = c.args.behind } in
    let t = Next.Solve s in
    let fs = c.new-machine.result.frames.items in
    let J = solving c.args.condition 0 (w.bound c.args.binding) in
    let begun = telling_starts w c.args.store.now (g.W.World.table c.args.world.now) J fs t c.new-machine.result.rewrites (g.T.StepWatcher.told c.args.watcher.now) c.new-machine.ensures.frames c.new-machine.ensures.rewrites
    (refl, same_extends (w.bound c.args.binding), none_shown w.rules c.args.store.now (g.W.World.table c.args.world.now) c.args.condition 0 (w.bound c.args.binding)) refl in
    let H = held_first w (answer_to c.args.condition) fs t c.new-machine.ensures.frames (c.requires.binding, c.requires.behind) refl in
    λ wants. c.in-Ok-Held.ensures.front wants (g.T.StepWatcher.told c.args.watcher.now) J begun

pub back-requires : goal.back-requires
back-requires g c =
    let w = (g.W.World.words c.args.world.now c.args.store.now) in
    let w' = (g.W.World.words c.run.new.world c.run.new.store) in
    let s : Condition g.row.W-Binding.Denot = record { level = c.args.level; condition = c.args.condition; at = 0; binding = c.args.binding; behind = c.args.behind } in
    let t = Next.Solve s in
    let fs = c.new-machine.result.frames.items in
    let J = solving c.args.condition 0 (w.bound c.args.binding) in
    let begun = telling_starts w c.args.store.now (g.W.World.table c.args.world.now) J fs t c.new-machine.result.rewrites (g.T.StepWatcher.told c.args.watcher.now) c.new-machine.ensures.frames c.new-machine.ensures.rewrites
    (refl, same_extends (w.bound c.args.binding), none_shown w.rules c.args.store.now (g.W.World.table c.args.world.now) c.args.condition 0 (w.bound c.args.binding)) refl in
    let H = held_first w (answer_to c.args.condition) fs t c.new-machine.ensures.frames (c.requires.binding, c.requires.behind) refl in
    λ q. let wants = sym c.in-Ok-Failed.ensures.watched.0 ∙ q in
    let L = c.in-Ok-Failed.ensures.told wants (g.T.StepWatcher.told c.args.watcher.now) J (answer_to c.args.condition) H begun in
    fits c.mark-mark.result (length (g.T.StepWatcher.told c.args.watcher.now)) (length L.events) (length (g.T.StepWatcher.told c.run.new.watcher)) (c.mark-mark.ensures wants) (ap length L.is ∙ length-append (g.T.StepWatcher.told c.args.watcher.now) L.events)
  where
    fits : (k a b z : ℕ) → k ≡ a → z ≡ a + b → k ≤ z
    fits k a b z p q = omega (arith, p, q)

pub returns-in-Ok-Failed-clause-untold : goal.returns-in-Ok-Failed-clause-untold
returns-in-Ok-Failed-clause-untold g c =
    let w = (g.W.World.words c.args.world.now c.args.store.now) in
    let w' = (g.W.World.words c.run.new.world c.run.new.store) in
    let s : Condition g.row.W-Binding.Denot = record { level = c.args.level; condition = c.args.condition; at = 0; binding = c.args.binding; behind = c.args.behind } in
    let t = Next.Solve s in
    let fs = c.new-machine.result.frames.items in
    let J = solving c.args.condition 0 (w.bound c.args.binding) in
    let begun = telling_starts w c.args.store.now (g.W.World.table c.args.world.now) J fs t c.new-machine.result.rewrites (g.T.StepWatcher.told c.args.watcher.now) c.new-machine.ensures.frames c.new-machine.ensures.rewrites
    (refl, same_extends (w.bound c.args.binding), none_shown w.rules c.args.store.now (g.W.World.table c.args.world.now) c.args.condition 0 (w.bound c.args.binding)) refl in
    let H = held_first w (answer_to c.args.condition) fs t c.new-machine.ensures.frames (c.requires.binding, c.requires.behind) refl in
    λ wants.
    let L = c.in-Ok-Failed.ensures.told wants (g.T.StepWatcher.told c.args.watcher.now) J (answer_to c.args.condition) H begun in
    c.back.ensures.told (c.in-Ok-Failed.ensures.watched.0 ∙ wants) ∙ (ap (λ n. take n (g.T.StepWatcher.told c.run.new.watcher)) (c.mark-mark.ensures wants) ∙ (ap (take (length (g.T.StepWatcher.told c.args.watcher.now))) L.is ∙ take-append_seam (g.T.StepWatcher.told c.args.watcher.now) L.events))

pub returns-in-Ok-Failed-clause-before : goal.returns-in-Ok-Failed-clause-before
returns-in-Ok-Failed-clause-before g c =
    let w = (g.W.World.words c.args.world.now c.args.store.now) in
    let w' = (g.W.World.words c.run.new.world c.run.new.store) in
    let s : Condition g.row.W-Binding.Denot = record { level = c.args.level; condition = c.args.condition; at = 0; binding = c.args.binding; behind = c.args.behind } in
    let t = Next.Solve s in
    let fs = c.new-machine.result.frames.items in
    let J = solving c.args.condition 0 (w.bound c.args.binding) in
    let begun = telling_starts w c.args.store.now (g.W.World.table c.args.world.now) J fs t c.new-machine.result.rewrites (g.T.StepWatcher.told c.args.watcher.now) c.new-machine.ensures.frames c.new-machine.ensures.rewrites
    (refl, same_extends (w.bound c.args.binding), none_shown w.rules c.args.store.now (g.W.World.table c.args.world.now) c.args.condition 0 (w.bound c.args.binding)) refl in
    let H = held_first w (answer_to c.args.condition) fs t c.new-machine.ensures.frames (c.requires.binding, c.requires.behind) refl in
    λ wants.
    let L = c.in-Ok-Failed.ensures.told wants (g.T.StepWatcher.told c.args.watcher.now) J (answer_to c.args.condition) H begun in
    no_more (g.T.StepWatcher.told c.args.watcher.now) (g.T.StepWatcher.told c.back.new.watcher) (c.back.ensures.told (c.in-Ok-Failed.ensures.watched.0 ∙ wants) ∙ (ap (λ n. take n (g.T.StepWatcher.told c.run.new.watcher)) (c.mark-mark.ensures wants) ∙ (ap (take (length (g.T.StepWatcher.told c.args.watcher.now))) L.is ∙ take-append_seam (g.T.StepWatcher.told c.args.watcher.now) L.events)))

pub returns-in-Ok : goal.returns-in-Ok
returns-in-Ok g c =
    let w = (g.W.World.words c.args.world.now c.args.store.now) in
    let w' = (g.W.World.words c.run.new.world c.run.new.store) in
    let s : Condition g.row.W-Binding.Denot = record { level = c.args.level; condition = c.args.condition; at = 0; binding = c.args.binding; behind = c.args.behind } in
    let t = Next.Solve s in
    let fs = c.new-machine.result.frames.items in
    let J = solving c.args.condition 0 (w.bound c.args.binding) in
    let begun = telling_starts w c.args.store.now (g.W.World.table c.args.world.now) J fs t c.new-machine.result.rewrites (g.T.StepWatcher.told c.args.watcher.now) c.new-machine.ensures.frames c.new-machine.ensures.rewrites
    (refl, same_extends (w.bound c.args.binding), none_shown w.rules c.args.store.now (g.W.World.table c.args.world.now) c.args.condition 0 (w.bound c.args.binding)) refl in
    let H = held_first w (answer_to c.args.condition) fs t c.new-machine.ensures.frames (c.requires.binding, c.requires.behind) refl in
    record {
      some = tt;
      none = tt;
      ends = tt;
      known = tt;
      falls = omega arith;
      grows = c.in-Ok.ensures.grows;
      told = λ wants. tt;
      untold = λ wants. tt;
      before = λ wants. c.in-Ok.ensures.front wants (g.T.StepWatcher.told c.args.watcher.now) J begun;
      silent = c.in-Ok.ensures.watched.1;
      wanted = c.in-Ok.ensures.watched.0;
    }

pub returns-clause-before : goal.returns-clause-before
returns-clause-before g c =
    let w = (g.W.World.words c.args.world.now c.args.store.now) in
    let w' = (g.W.World.words c.run.new.world c.run.new.store) in
    let s : Condition g.row.W-Binding.Denot = record { level = c.args.level; condition = c.args.condition; at = 0; binding = c.args.binding; behind = c.args.behind } in
    let t = Next.Solve s in
    let fs = c.new-machine.result.frames.items in
    let J = solving c.args.condition 0 (w.bound c.args.binding) in
    let begun = telling_starts w c.args.store.now (g.W.World.table c.args.world.now) J fs t c.new-machine.result.rewrites (g.T.StepWatcher.told c.args.watcher.now) c.new-machine.ensures.frames c.new-machine.ensures.rewrites
    (refl, same_extends (w.bound c.args.binding), none_shown w.rules c.args.store.now (g.W.World.table c.args.world.now) c.args.condition 0 (w.bound c.args.binding)) refl in
    let H = held_first w (answer_to c.args.condition) fs t c.new-machine.ensures.frames (c.requires.binding, c.requires.behind) refl in
    λ wants. c.in-Err.ensures.front wants (g.T.StepWatcher.told c.args.watcher.now) J begun
