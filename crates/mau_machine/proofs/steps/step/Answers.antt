use Rattle.std.proofs.Common.{sym, subst}
use Rattle.std.specs.Prelude.{IfOk, IfErr}
use Rattle.mau_machine.specs.Words.{ComesToEnd}
use Rattle.mau_machine.specs.Machine.{comes, task_in, whole}
use Rattle.mau_machine.specs.Steps.{AreAnswered, Goes, StayKnown, StayTold}
use Rattle.mau_machine.specs.declared.frame.Control.TheVariants as Next
use Rattle.mau_machine.proofs.Following.{any_end, ends_result, went_result}
use Rattle.mau_machine.proofs.Advance.{same_result}
use Rattle.mau_machine.proofs.Held.{known_result, same_state}
use Rattle.mau_machine.proofs.steps.step.Goals as goal

pub returns-in-Eval-clause-goes : goal.returns-in-Eval-clause-goes
returns-in-Eval-clause-goes g c =
    let w = (g.W.World.words c.args.world.now c.args.store.now) in
    subst (λ z. IfOk c.open.result (λ next. Goes w c.args.machine.now.frames.items z c.args.machine.now.rewrites c.args.budget.now c.args.machine.now.frames.items next c.args.machine.now.rewrites c.args.budget.now)) (sym c.in-Eval.is)
    (went_result w c.args.machine.now.frames.items (Next.Eval c.in-Eval.level c.in-Eval.term) c.args.machine.now.rewrites c.args.budget.now c.open.result (c.open.ensures.goes c.args.machine.now.rewrites c.args.budget.now))

pub returns-in-Eval-clause-ends : goal.returns-in-Eval-clause-ends
returns-in-Eval-clause-ends g c =
    let w = (g.W.World.words c.args.world.now c.args.store.now) in
    subst (λ z. IfErr c.open.result (ComesToEnd w.rules.program (λ n. whole w n c.args.machine.now.frames.items z c.args.machine.now.rewrites c.args.budget.now))) (sym c.in-Eval.is)
    (ends_result w c.args.machine.now.frames.items (λ n. comes w.rules (task_in w n (Next.Eval c.in-Eval.level c.in-Eval.term)) c.args.machine.now.rewrites c.args.budget.now) c.open.result (c.open.ensures.ends c.args.machine.now.rewrites c.args.budget.now))

pub returns-in-Top-clause-goes : goal.returns-in-Top-clause-goes
returns-in-Top-clause-goes g c =
    let w = (g.W.World.words c.args.world.now c.args.store.now) in
    let w' = (g.W.World.words c.look.new.world c.look.new.store) in
    subst (λ z. IfOk c.look.result (λ next. Goes w' c.args.machine.now.frames.items z c.args.machine.now.rewrites c.args.budget.now c.args.machine.now.frames.items next c.args.machine.now.rewrites c.args.budget.now)) (sym c.in-Top.is)
    (went_result w' c.args.machine.now.frames.items (Next.Top c.in-Top.level c.in-Top.term) c.args.machine.now.rewrites c.args.budget.now c.look.result (c.look.ensures.goes c.args.machine.now.rewrites c.args.budget.now))

pub returns-in-Top-clause-ends : goal.returns-in-Top-clause-ends
returns-in-Top-clause-ends g c =
    any_end _ _ c.look.result c.look.ensures.ends

pub returns-in-Top-clause-known : goal.returns-in-Top-clause-known
returns-in-Top-clause-known g c =
    let w = (g.W.World.words c.args.world.now c.args.store.now) in
    let w' = (g.W.World.words c.look.new.world c.look.new.store) in
    let k = (g.met.W.World.keeps c.args.world.now c.look.new.world c.args.store.now c.look.new.store c.look.ensures.grows) in
    subst (λ z. IfOk c.look.result (StayKnown w w' c.args.machine.now.frames.items z c.args.machine.now.frames.items)) (sym c.in-Top.is) (known_result w w' k c.args.machine.now.frames.items (Next.Top c.in-Top.level c.in-Top.term) c.look.result c.look.ensures.known)

pub returns-in-Ready-clause-goes : goal.returns-in-Ready-clause-goes
returns-in-Ready-clause-goes g c =
    let w = (g.W.World.words c.args.world.now c.args.store.now) in
    let w' = (g.W.World.words c.apply.new.world c.apply.new.store) in
    subst (λ z. IfOk c.apply.result (λ next. Goes w' c.args.machine.now.frames.items z c.args.machine.now.rewrites c.args.budget.now c.args.machine.now.frames.items next c.args.machine.now.rewrites c.args.budget.now)) (sym c.in-Ready.is)
    (went_result w' c.args.machine.now.frames.items (Next.Ready c.in-Ready.level c.in-Ready.term) c.args.machine.now.rewrites c.args.budget.now c.apply.result (c.apply.ensures.goes c.args.machine.now.rewrites c.args.budget.now))

pub returns-in-Ready-clause-ends : goal.returns-in-Ready-clause-ends
returns-in-Ready-clause-ends g c =
    any_end _ _ c.apply.result c.apply.ensures.ends

pub returns-in-Ready-clause-known : goal.returns-in-Ready-clause-known
returns-in-Ready-clause-known g c =
    let w = (g.W.World.words c.args.world.now c.args.store.now) in
    let w' = (g.W.World.words c.apply.new.world c.apply.new.store) in
    let k = (g.met.W.World.keeps c.args.world.now c.apply.new.world c.args.store.now c.apply.new.store c.apply.ensures.grows) in
    subst (λ z. IfOk c.apply.result (StayKnown w w' c.args.machine.now.frames.items z c.args.machine.now.frames.items)) (sym c.in-Ready.is) (known_result w w' k c.args.machine.now.frames.items (Next.Ready c.in-Ready.level c.in-Ready.term) c.apply.result c.apply.ensures.known)

pub returns-in-Evaluating-clause-goes : goal.returns-in-Evaluating-clause-goes
returns-in-Evaluating-clause-goes g c =
    let w' = (g.W.World.words c.go_on.new.world c.go_on.new.store) in
    subst (λ z. IfOk c.go_on.result (λ next. Goes w' c.args.machine.now.frames.items z c.args.machine.now.rewrites c.args.budget.now c.go_on.new.machine.frames.items next c.go_on.new.machine.rewrites c.args.budget.now)) (sym c.in-Evaluating.is) (c.go_on.ensures.goes c.args.budget.now)

pub returns-in-Evaluating-clause-ends : goal.returns-in-Evaluating-clause-ends
returns-in-Evaluating-clause-ends g c =
    let w' = (g.W.World.words c.go_on.new.world c.go_on.new.store) in
    subst (λ z. IfErr c.go_on.result (ComesToEnd w'.rules.program (λ n. whole w' n c.args.machine.now.frames.items z c.args.machine.now.rewrites c.args.budget.now))) (sym c.in-Evaluating.is) (c.go_on.ensures.ends c.args.budget.now)

pub returns-in-Attempt-clause-goes : goal.returns-in-Attempt-clause-goes
returns-in-Attempt-clause-goes g c =
    let w' = (g.W.World.words c.attempt.new.world c.attempt.new.store) in
    subst (λ z. IfOk c.attempt.result (λ next. Goes w' c.args.machine.now.frames.items z c.args.machine.now.rewrites c.args.budget.now c.attempt.new.machine.frames.items next c.attempt.new.machine.rewrites c.args.budget.now)) (sym c.in-Attempt.is) (c.attempt.ensures.goes c.args.budget.now)

pub returns-in-Attempt-clause-ends : goal.returns-in-Attempt-clause-ends
returns-in-Attempt-clause-ends g c =
    let w' = (g.W.World.words c.attempt.new.world c.attempt.new.store) in
    subst (λ z. IfErr c.attempt.result (ComesToEnd w'.rules.program (λ n. whole w' n c.args.machine.now.frames.items z c.args.machine.now.rewrites c.args.budget.now))) (sym c.in-Attempt.is) (c.attempt.ensures.ends c.args.budget.now)

pub returns-in-Solve-clause-goes : goal.returns-in-Solve-clause-goes
returns-in-Solve-clause-goes g c =
    let w' = (g.W.World.words c.solve.new.world c.solve.new.store) in
    subst (λ z. IfOk c.solve.result (λ next. Goes w' c.args.machine.now.frames.items z c.args.machine.now.rewrites c.args.budget.now c.solve.new.machine.frames.items next c.solve.new.machine.rewrites c.args.budget.now)) (sym c.in-Solve.is) (c.solve.ensures.goes c.args.budget.now)

pub returns-in-Solve-clause-ends : goal.returns-in-Solve-clause-ends
returns-in-Solve-clause-ends g c =
    let w' = (g.W.World.words c.solve.new.world c.solve.new.store) in
    subst (λ z. IfErr c.solve.result (ComesToEnd w'.rules.program (λ n. whole w' n c.args.machine.now.frames.items z c.args.machine.now.rewrites c.args.budget.now))) (sym c.in-Solve.is) (c.solve.ensures.ends c.args.budget.now)

pub returns-in-Choose-clause-goes : goal.returns-in-Choose-clause-goes
returns-in-Choose-clause-goes g c =
    let w' = (g.W.World.words c.choose.new.world c.choose.new.store) in
    subst (λ z. IfOk c.choose.result (λ next. Goes w' c.args.machine.now.frames.items z c.args.machine.now.rewrites c.args.budget.now c.choose.new.machine.frames.items next c.choose.new.machine.rewrites c.args.budget.now)) (sym c.in-Choose.is) (c.choose.ensures.goes c.args.budget.now)

pub returns-in-Own-clause-goes : goal.returns-in-Own-clause-goes
returns-in-Own-clause-goes g c =
    let w' = (g.W.World.words c.own.new.world c.own.new.store) in
    subst (λ z. IfOk c.own.result (λ next. Goes w' c.args.machine.now.frames.items z c.args.machine.now.rewrites c.args.budget.now c.own.new.machine.frames.items next c.own.new.machine.rewrites c.args.budget.now)) (sym c.in-Own.is) (c.own.ensures.goes c.args.budget.now)

pub returns-in-Choose-clause-ends : goal.returns-in-Choose-clause-ends
returns-in-Choose-clause-ends g c =
    let w' = (g.W.World.words c.choose.new.world c.choose.new.store) in
    subst (λ z. IfErr c.choose.result (ComesToEnd w'.rules.program (λ n. whole w' n c.args.machine.now.frames.items z c.args.machine.now.rewrites c.args.budget.now))) (sym c.in-Choose.is) (c.choose.ensures.ends c.args.budget.now)

pub returns-in-Own-clause-ends : goal.returns-in-Own-clause-ends
returns-in-Own-clause-ends g c =
    any_end _ _ c.own.result c.own.ensures.ends

pub returns-in-Value-clause-goes : goal.returns-in-Value-clause-goes
returns-in-Value-clause-goes g c =
    let w' = (g.W.World.words c.give.new.world c.give.new.store) in
    subst (λ z. IfOk c.give.result (λ next. Goes w' c.args.machine.now.frames.items z c.args.machine.now.rewrites c.args.budget.now c.give.new.machine.frames.items next c.give.new.machine.rewrites c.args.budget.now)) (sym c.in-Value.is) (c.give.ensures.goes c.args.budget.now)

pub returns-in-Value-clause-ends : goal.returns-in-Value-clause-ends
returns-in-Value-clause-ends g c =
    let w' = (g.W.World.words c.give.new.world c.give.new.store) in
    subst (λ z. IfErr c.give.result (ComesToEnd w'.rules.program (λ n. whole w' n c.args.machine.now.frames.items z c.args.machine.now.rewrites c.args.budget.now))) (sym c.in-Value.is) (c.give.ensures.ends c.args.budget.now)

pub returns-in-Settle-clause-goes : goal.returns-in-Settle-clause-goes
returns-in-Settle-clause-goes g c =
    let w' = (g.W.World.words c.derive.new.world c.derive.new.store) in
    subst (λ z. IfOk c.derive.result (λ next. Goes w' c.args.machine.now.frames.items z c.args.machine.now.rewrites c.args.budget.now c.derive.new.machine.frames.items next c.derive.new.machine.rewrites c.derive.new.budget)) (sym c.in-Settle.is) c.derive.ensures.goes

pub returns-in-Settle-clause-ends : goal.returns-in-Settle-clause-ends
returns-in-Settle-clause-ends g c =
    any_end _ _ c.derive.result c.derive.ensures.ends

pub returns-in-Held-clause-goes : goal.returns-in-Held-clause-goes
returns-in-Held-clause-goes g c =
    let w' = (g.W.World.words c.hold.new.world c.hold.new.store) in
    subst (λ z. IfOk c.hold.result (λ next. Goes w' c.args.machine.now.frames.items z c.args.machine.now.rewrites c.args.budget.now c.hold.new.machine.frames.items next c.hold.new.machine.rewrites c.hold.new.budget)) (sym c.in-Held.is) c.hold.ensures.goes

pub returns-in-Held-clause-ends : goal.returns-in-Held-clause-ends
returns-in-Held-clause-ends g c =
    let w' = (g.W.World.words c.hold.new.world c.hold.new.store) in
    subst (λ z. IfErr c.hold.result (ComesToEnd w'.rules.program (λ n. whole w' n c.args.machine.now.frames.items z c.args.machine.now.rewrites c.args.budget.now))) (sym c.in-Held.is) c.hold.ensures.ends

pub returns-in-Failed-clause-goes : goal.returns-in-Failed-clause-goes
returns-in-Failed-clause-goes g c =
    let w' = (g.W.World.words c.args.world.now c.args.store.now) in
    subst (λ z. IfOk c.fail.result (λ next. Goes w' c.args.machine.now.frames.items z c.args.machine.now.rewrites c.args.budget.now c.fail.new.machine.frames.items next c.fail.new.machine.rewrites c.fail.new.budget)) (sym c.in-Failed.is) c.fail.ensures.goes

pub returns-in-Failed-clause-ends : goal.returns-in-Failed-clause-ends
returns-in-Failed-clause-ends g c =
    any_end _ _ c.fail.result c.fail.ensures.ends

pub hold-requires-clause-answered : goal.hold-requires-clause-answered
hold-requires-clause-answered g c =
    let w = (g.W.World.words c.args.world.now c.args.store.now) in
    subst (λ z. AreAnswered w c.args.machine.now.frames.items z c.args.machine.now.rewrites c.args.budget.now) c.in-Held.is c.requires.answered

pub fail-requires-clause-answered : goal.fail-requires-clause-answered
fail-requires-clause-answered g c =
    let w = (g.W.World.words c.args.world.now c.args.store.now) in
    subst (λ z. AreAnswered w c.args.machine.now.frames.items z c.args.machine.now.rewrites c.args.budget.now) c.in-Failed.is c.requires.answered

pub returns-in-Settle-clause-known : goal.returns-in-Settle-clause-known
returns-in-Settle-clause-known g c =
    let w = (g.W.World.words c.args.world.now c.args.store.now) in
    subst (λ z. IfOk c.derive.result (StayKnown w (g.W.World.words c.derive.new.world c.derive.new.store) c.args.machine.now.frames.items z c.derive.new.machine.frames.items)) (sym c.in-Settle.is) c.derive.ensures.known

pub returns-in-Eval-clause-told : goal.returns-in-Eval-clause-told
returns-in-Eval-clause-told g c =
    let w = (g.W.World.words c.args.world.now c.args.store.now) in
    let X = g.met.W.World.extends c.args.world.now c.args.world.now c.args.store.now c.args.store.now (g.met.W.World.stays c.args.world.now c.args.store.now c.requires.ready) in
    λ wants. subst (λ z. IfOk c.open.result (λ next. StayTold w w c.args.store.now c.args.store.now (g.W.World.table c.args.world.now) (g.W.World.table c.args.world.now) c.args.machine.now.frames.items z c.args.machine.now.rewrites (g.T.StepWatcher.told c.args.watcher.now) c.args.machine.now.frames.items next c.args.machine.now.rewrites (g.T.StepWatcher.told c.args.watcher.now))) (sym c.in-Eval.is)
    (same_result w w (same_state w) c.args.store.now c.args.store.now X.0 (g.W.World.table c.args.world.now) (g.W.World.table c.args.world.now) X.1 c.args.machine.now.frames.items (Next.Eval c.in-Eval.level c.in-Eval.term) c.args.machine.now.rewrites (g.T.StepWatcher.told c.args.watcher.now) c.open.result c.open.ensures.told)

pub returns-in-Top-clause-told : goal.returns-in-Top-clause-told
returns-in-Top-clause-told g c =
    let w = (g.W.World.words c.args.world.now c.args.store.now) in
    let w' = (g.W.World.words c.look.new.world c.look.new.store) in
    let k = (g.met.W.World.keeps c.args.world.now c.look.new.world c.args.store.now c.look.new.store c.look.ensures.grows) in
    let X = g.met.W.World.extends c.args.world.now c.look.new.world c.args.store.now c.look.new.store c.look.ensures.grows in
    λ wants. subst (λ z. IfOk c.look.result (λ next. StayTold w w' c.args.store.now c.look.new.store (g.W.World.table c.args.world.now) (g.W.World.table c.look.new.world) c.args.machine.now.frames.items z c.args.machine.now.rewrites (g.T.StepWatcher.told c.args.watcher.now) c.args.machine.now.frames.items next c.args.machine.now.rewrites (g.T.StepWatcher.told c.args.watcher.now))) (sym c.in-Top.is)
    (same_result w w' k c.args.store.now c.look.new.store X.0 (g.W.World.table c.args.world.now) (g.W.World.table c.look.new.world) X.1 c.args.machine.now.frames.items (Next.Top c.in-Top.level c.in-Top.term) c.args.machine.now.rewrites (g.T.StepWatcher.told c.args.watcher.now) c.look.result c.look.ensures.told)

pub returns-in-Ready-clause-told : goal.returns-in-Ready-clause-told
returns-in-Ready-clause-told g c =
    let w = (g.W.World.words c.args.world.now c.args.store.now) in
    let w' = (g.W.World.words c.apply.new.world c.apply.new.store) in
    let k = (g.met.W.World.keeps c.args.world.now c.apply.new.world c.args.store.now c.apply.new.store c.apply.ensures.grows) in
    let X = g.met.W.World.extends c.args.world.now c.apply.new.world c.args.store.now c.apply.new.store c.apply.ensures.grows in
    λ wants. subst (λ z. IfOk c.apply.result (λ next. StayTold w w' c.args.store.now c.apply.new.store (g.W.World.table c.args.world.now) (g.W.World.table c.apply.new.world) c.args.machine.now.frames.items z c.args.machine.now.rewrites (g.T.StepWatcher.told c.args.watcher.now) c.args.machine.now.frames.items next c.args.machine.now.rewrites (g.T.StepWatcher.told c.args.watcher.now))) (sym c.in-Ready.is)
    (same_result w w' k c.args.store.now c.apply.new.store X.0 (g.W.World.table c.args.world.now) (g.W.World.table c.apply.new.world) X.1 c.args.machine.now.frames.items (Next.Ready c.in-Ready.level c.in-Ready.term) c.args.machine.now.rewrites (g.T.StepWatcher.told c.args.watcher.now) c.apply.result c.apply.ensures.told)

pub returns-in-Settle-clause-told : goal.returns-in-Settle-clause-told
returns-in-Settle-clause-told g c =
    let w = (g.W.World.words c.args.world.now c.args.store.now) in
    λ wants. subst (λ z. IfOk c.derive.result (λ next. StayTold w (g.W.World.words c.derive.new.world c.derive.new.store) c.args.store.now c.derive.new.store (g.W.World.table c.args.world.now) (g.W.World.table c.derive.new.world) c.args.machine.now.frames.items z c.args.machine.now.rewrites (g.T.StepWatcher.told c.args.watcher.now) c.derive.new.machine.frames.items next c.derive.new.machine.rewrites (g.T.StepWatcher.told c.derive.new.watcher))) (sym c.in-Settle.is) (c.derive.ensures.told wants)

pub returns-in-Evaluating-clause-told : goal.returns-in-Evaluating-clause-told
returns-in-Evaluating-clause-told g c =
    let w = (g.W.World.words c.args.world.now c.args.store.now) in
    λ wants. subst (λ z. IfOk c.go_on.result (λ next. StayTold w (g.W.World.words c.go_on.new.world c.go_on.new.store) c.args.store.now c.go_on.new.store (g.W.World.table c.args.world.now) (g.W.World.table c.go_on.new.world) c.args.machine.now.frames.items z c.args.machine.now.rewrites (g.T.StepWatcher.told c.args.watcher.now) c.go_on.new.machine.frames.items next c.go_on.new.machine.rewrites (g.T.StepWatcher.told c.go_on.new.watcher))) (sym c.in-Evaluating.is) (c.go_on.ensures.told wants)

pub returns-in-Attempt-clause-told : goal.returns-in-Attempt-clause-told
returns-in-Attempt-clause-told g c =
    let w = (g.W.World.words c.args.world.now c.args.store.now) in
    λ wants. subst (λ z. IfOk c.attempt.result (λ next. StayTold w (g.W.World.words c.attempt.new.world c.attempt.new.store) c.args.store.now c.attempt.new.store (g.W.World.table c.args.world.now) (g.W.World.table c.attempt.new.world) c.args.machine.now.frames.items z c.args.machine.now.rewrites (g.T.StepWatcher.told c.args.watcher.now) c.attempt.new.machine.frames.items next c.attempt.new.machine.rewrites (g.T.StepWatcher.told c.attempt.new.watcher))) (sym c.in-Attempt.is) (c.attempt.ensures.told wants)

pub returns-in-Solve-clause-told : goal.returns-in-Solve-clause-told
returns-in-Solve-clause-told g c =
    let w = (g.W.World.words c.args.world.now c.args.store.now) in
    λ wants. subst (λ z. IfOk c.solve.result (λ next. StayTold w (g.W.World.words c.solve.new.world c.solve.new.store) c.args.store.now c.solve.new.store (g.W.World.table c.args.world.now) (g.W.World.table c.solve.new.world) c.args.machine.now.frames.items z c.args.machine.now.rewrites (g.T.StepWatcher.told c.args.watcher.now) c.solve.new.machine.frames.items next c.solve.new.machine.rewrites (g.T.StepWatcher.told c.solve.new.watcher))) (sym c.in-Solve.is) (c.solve.ensures.told wants)

pub returns-in-Choose-clause-told : goal.returns-in-Choose-clause-told
returns-in-Choose-clause-told g c =
    let w = (g.W.World.words c.args.world.now c.args.store.now) in
    λ wants. subst (λ z. IfOk c.choose.result (λ next. StayTold w (g.W.World.words c.choose.new.world c.choose.new.store) c.args.store.now c.choose.new.store (g.W.World.table c.args.world.now) (g.W.World.table c.choose.new.world) c.args.machine.now.frames.items z c.args.machine.now.rewrites (g.T.StepWatcher.told c.args.watcher.now) c.choose.new.machine.frames.items next c.choose.new.machine.rewrites (g.T.StepWatcher.told c.choose.new.watcher))) (sym c.in-Choose.is) (c.choose.ensures.told wants)

pub returns-in-Own-clause-told : goal.returns-in-Own-clause-told
returns-in-Own-clause-told g c =
    let w = (g.W.World.words c.args.world.now c.args.store.now) in
    λ wants. subst (λ z. IfOk c.own.result (λ next. StayTold w (g.W.World.words c.own.new.world c.own.new.store) c.args.store.now c.own.new.store (g.W.World.table c.args.world.now) (g.W.World.table c.own.new.world) c.args.machine.now.frames.items z c.args.machine.now.rewrites (g.T.StepWatcher.told c.args.watcher.now) c.own.new.machine.frames.items next c.own.new.machine.rewrites (g.T.StepWatcher.told c.own.new.watcher))) (sym c.in-Own.is) (c.own.ensures.told wants)

pub returns-in-Value-clause-told : goal.returns-in-Value-clause-told
returns-in-Value-clause-told g c =
    let w = (g.W.World.words c.args.world.now c.args.store.now) in
    λ wants. subst (λ z. IfOk c.give.result (λ next. StayTold w (g.W.World.words c.give.new.world c.give.new.store) c.args.store.now c.give.new.store (g.W.World.table c.args.world.now) (g.W.World.table c.give.new.world) c.args.machine.now.frames.items z c.args.machine.now.rewrites (g.T.StepWatcher.told c.args.watcher.now) c.give.new.machine.frames.items next c.give.new.machine.rewrites (g.T.StepWatcher.told c.give.new.watcher))) (sym c.in-Value.is) (c.give.ensures.told wants)

pub returns-in-Held-clause-told : goal.returns-in-Held-clause-told
returns-in-Held-clause-told g c =
    let w = (g.W.World.words c.args.world.now c.args.store.now) in
    λ wants. subst (λ z. IfOk c.hold.result (λ next. StayTold w (g.W.World.words c.hold.new.world c.hold.new.store) c.args.store.now c.hold.new.store (g.W.World.table c.args.world.now) (g.W.World.table c.hold.new.world) c.args.machine.now.frames.items z c.args.machine.now.rewrites (g.T.StepWatcher.told c.args.watcher.now) c.hold.new.machine.frames.items next c.hold.new.machine.rewrites (g.T.StepWatcher.told c.hold.new.watcher))) (sym c.in-Held.is) (c.hold.ensures.told wants)

pub returns-in-Failed-clause-told : goal.returns-in-Failed-clause-told
returns-in-Failed-clause-told g c =
    let w = (g.W.World.words c.args.world.now c.args.store.now) in
    λ wants. subst (λ z. IfOk c.fail.result (λ next. StayTold w w c.args.store.now c.args.store.now (g.W.World.table c.args.world.now) (g.W.World.table c.args.world.now) c.args.machine.now.frames.items z c.args.machine.now.rewrites (g.T.StepWatcher.told c.args.watcher.now) c.fail.new.machine.frames.items next c.fail.new.machine.rewrites (g.T.StepWatcher.told c.fail.new.watcher))) (sym c.in-Failed.is) (c.fail.ensures.told wants)
