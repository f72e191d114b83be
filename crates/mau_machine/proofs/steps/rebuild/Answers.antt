use Rattle.std.proofs.Common.{◌+◌, ◌∷◌, [], length, true, false, refl, sym, ◌∙◌, ap}
use Rattle.mau_api.specs.declared.step.Place.TheVariants.{Whole}
use Rattle.mau_api.specs.Events.{entered}
use Rattle.mau_evaluation.specs.Run.{counted}
use Rattle.mau_machine.specs.Words.{capped, trees, eval_on}
use Rattle.mau_terms.specs.Norm.{build}
use Rattle.mau_evaluation.specs.Evaluation.{within_limits}
use Rattle.mau_machine.specs.Machine.{as_value}
use Rattle.mau_machine.specs.Known.{value_of}
use Rattle.mau_machine.specs.declared.frame.Frame.TheVariants as Waiting
use Rattle.mau_machine.specs.declared.frame.Control.TheVariants as Next
use Rattle.mau_machine.proofs.Following.{exactly, ends_on, ends_exactly, ends_through, went_on, went_pushed}
use Rattle.mau_machine.proofs.Branches.{built_from, built_ends_from, again_waits}
use Rattle.mau_machine.proofs.Advance.{stays_same, stays_pushed, built_told, again_entered, built_is}
use Rattle.mau_machine.proofs.Held.{held_on, held_pushed, held_later}
use Rattle.mau_machine.proofs.steps.rebuild.Goals as goal

pub returns-in-Ok-default-true-clause-goes : goal.returns-in-Ok-default-true-clause-goes
returns-in-Ok-default-true-clause-goes g c =
    let w = (g.W.World.words c.args.world.now c.args.store.now) in
    let w' = (g.W.World.words c.build.new.self c.build.new.store) in
    let k = (g.met.W.World.keeps c.args.world.now c.build.new.self c.args.store.now c.build.new.store c.build.ensures.grows) in
    let a = c.args.arguments in
    let t = c.in-Ok-default-true.term in
    λ b. went_pushed w' c.args.machine.now.frames.items c.begin.new.machine.frames.items (Waiting.Again t) (Next.Evaluating c.args.arguments) (Next.Eval a.level t) c.args.machine.now.rewrites c.begin.new.machine.rewrites b b c.in_ok-begin-in-Ok-default-true.ensures.frames tt
    (exactly w'.rules.program _ _ (λ m. ap (λ o. capped (as_value (counted c.args.machine.now.rewrites o))) (built_from w' (a.level + m) a.op.0 a.order.items c.deref-2.result.now a.args.items c.deref.result.now a.next (w'.tree t.0) true c.in-Ok-default-true.field-0-1 b
    c.requires.last c.deref-2.ensures.value c.deref.ensures.value c.in-Ok-default-true.field-0-1-test (c.in-Ok-default-true.ensures.value b) c.in-Ok-default-true.ensures.changed)
    ∙ (ap (λ n. capped (as_value (counted n (eval_on w'.rules (a.level + m) (w'.tree t.0) b)))) (sym c.in_ok-begin-in-Ok-default-true.ensures.rewrites)
    ∙ ap capped (again_waits w'.rules (counted c.begin.new.machine.rewrites (eval_on w'.rules (a.level + m) (w'.tree t.0) b))))))

pub returns-in-Ok-default-false-clause-goes : goal.returns-in-Ok-default-false-clause-goes
returns-in-Ok-default-false-clause-goes g c =
    let w' = (g.W.World.words c.build.new.self c.build.new.store) in
    let a = c.args.arguments in
    let t = c.in-Ok-default-false.term in
    λ b. went_on w' c.args.machine.now.frames.items (Next.Evaluating c.args.arguments) (Next.Top a.level t) c.args.machine.now.rewrites c.args.machine.now.rewrites b b
    (exactly w'.rules.program _ _ (λ m. ap (λ o. capped (as_value (counted c.args.machine.now.rewrites o))) (built_from w' (a.level + m) a.op.0 a.order.items c.deref-2.result.now a.args.items c.deref.result.now a.next (w'.tree t.0) false c.in-Ok-default-false.field-0-1 b
    c.requires.last c.deref-2.ensures.value c.deref.ensures.value c.in-Ok-default-false.field-0-1-test (c.in-Ok-default-false.ensures.value b) c.in-Ok-default-false.ensures.changed)))

pub returns-in-Ok-default-true-clause-known : goal.returns-in-Ok-default-true-clause-known
returns-in-Ok-default-true-clause-known g c =
    let w = (g.W.World.words c.args.world.now c.args.store.now) in
    let w' = (g.W.World.words c.build.new.self c.build.new.store) in
    let k = (g.met.W.World.keeps c.args.world.now c.build.new.self c.args.store.now c.build.new.store c.build.ensures.grows) in
    let t = c.in-Ok-default-true.term in
    λ asked h. held_pushed w' asked c.args.machine.now.frames.items c.begin.new.machine.frames.items (Next.Evaluating c.args.arguments) (Next.Eval c.args.arguments.level t) (Waiting.Again t) c.in_ok-begin-in-Ok-default-true.ensures.frames
    (held_later w w' k asked c.args.machine.now.frames.items (Next.Evaluating c.args.arguments) h) c.in-Ok-default-true.ensures.known c.in-Ok-default-true.ensures.known (ap value_of c.in-Ok-default-true.ensures.kind) refl

pub returns-in-Ok-default-false-clause-known : goal.returns-in-Ok-default-false-clause-known
returns-in-Ok-default-false-clause-known g c =
    let w = (g.W.World.words c.args.world.now c.args.store.now) in
    let w' = (g.W.World.words c.build.new.self c.build.new.store) in
    let k = (g.met.W.World.keeps c.args.world.now c.build.new.self c.args.store.now c.build.new.store c.build.ensures.grows) in
    let t = c.in-Ok-default-false.term in
    λ asked h. held_on w' asked c.args.machine.now.frames.items (Next.Evaluating c.args.arguments) (Next.Top c.args.arguments.level t)
    (held_later w w' k asked c.args.machine.now.frames.items (Next.Evaluating c.args.arguments) h) c.in-Ok-default-false.ensures.known (ap value_of c.in-Ok-default-false.ensures.kind)

pub returns-clause-ends : goal.returns-clause-ends
returns-clause-ends g c =
    let w = (g.W.World.words c.args.world.now c.args.store.now) in
    let w' = (g.W.World.words c.build.new.self c.build.new.store) in
    let k = (g.met.W.World.keeps c.args.world.now c.build.new.self c.args.store.now c.build.new.store c.build.ensures.grows) in
    let a = c.args.arguments in
    let th = w'.rules.program.sign.theory in
    λ b. ends_through w' c.args.machine.now.frames.items _ c.in-Err.end
    (ends_on w'.rules.program (λ n. within_limits th (build (th a.op.0) a.op.0 (trees w' c.deref.result.now)) b) _ c.in-Err.end (λ n d h. ap (λ o. as_value (counted c.args.machine.now.rewrites o))
    (built_ends_from w' (a.level + n) a.op.0 a.order.items a.args.items c.deref.result.now a.next b d c.requires.last c.deref.ensures.value h)) (ends_exactly w'.rules.program _ c.in-Err.end (λ n. c.in-Err.ensures.ends b)))

pub returns-in-Ok-default-true-clause-told : goal.returns-in-Ok-default-true-clause-told
returns-in-Ok-default-true-clause-told g c =
    let w = (g.W.World.words c.args.world.now c.args.store.now) in
    let w' = (g.W.World.words c.build.new.self c.build.new.store) in
    let k = (g.met.W.World.keeps c.args.world.now c.build.new.self c.args.store.now c.build.new.store c.build.ensures.grows) in
    let X = g.met.W.World.extends c.args.world.now c.build.new.self c.args.store.now c.build.new.store c.build.ensures.grows in
    let a = c.args.arguments in
    let t = c.in-Ok-default-true.term in
    let s = g.met.W.World.stands c.build.new.self c.build.new.store t.0 c.in-Ok-default-true.ensures.known in
    let e = built_is w' a.op.0 a.args.items c.deref.result.now (w'.tree t.0) c.deref.ensures.value (c.in-Ok-default-true.ensures.value 0) in
    λ wants. stays_pushed w w' k c.args.store.now c.build.new.store X.0 (g.W.World.table c.args.world.now) (g.W.World.table c.build.new.self) X.1 c.args.machine.now.frames.items c.begin.new.machine.frames.items (Waiting.Again t) (Next.Evaluating a) (Next.Eval a.level t) c.args.machine.now.rewrites c.begin.new.machine.rewrites (length (g.T.StepWatcher.told c.args.watcher.now)) (g.T.StepWatcher.told c.args.watcher.now) (g.T.StepWatcher.told c.begin.new.watcher) (entered t Whole ∷ []) c.in_ok-begin-in-Ok-default-true.ensures.frames refl
    (c.in_ok-begin-in-Ok-default-true.ensures.told wants)
    (λ n m J ys l h q. again_entered w' c.build.new.store (g.W.World.table c.build.new.self) n m J a a.level c.args.machine.now.rewrites c.begin.new.machine.rewrites t ys e s.2 (s.0, sym s.1) c.in_ok-begin-in-Ok-default-true.ensures.rewrites h q)

pub returns-in-Ok-default-false-clause-told : goal.returns-in-Ok-default-false-clause-told
returns-in-Ok-default-false-clause-told g c =
    let w = (g.W.World.words c.args.world.now c.args.store.now) in
    let w' = (g.W.World.words c.build.new.self c.build.new.store) in
    let k = (g.met.W.World.keeps c.args.world.now c.build.new.self c.args.store.now c.build.new.store c.build.ensures.grows) in
    let X = g.met.W.World.extends c.args.world.now c.build.new.self c.args.store.now c.build.new.store c.build.ensures.grows in
    let a = c.args.arguments in
    let t = c.in-Ok-default-false.term in
    let s = g.met.W.World.stands c.build.new.self c.build.new.store t.0 c.in-Ok-default-false.ensures.known in
    let e = built_is w' a.op.0 a.args.items c.deref.result.now (w'.tree t.0) c.deref.ensures.value (c.in-Ok-default-false.ensures.value 0) in
    λ wants. stays_same w w' k c.args.store.now c.build.new.store X.0 (g.W.World.table c.args.world.now) (g.W.World.table c.build.new.self) X.1 c.args.machine.now.frames.items (Next.Evaluating a) (Next.Top a.level t) c.args.machine.now.rewrites c.args.machine.now.rewrites (g.T.StepWatcher.told c.args.watcher.now) (λ J m ys h n. (built_told w' c.build.new.store (g.W.World.table c.build.new.self) J a a.level t ys e s.2 h, n))
