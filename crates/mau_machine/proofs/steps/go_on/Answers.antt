use Rattle.std.proofs.Common.{◌+◌, ◌<◌, ◌++◌, ◌∷◌, [], length, refl, sym, ◌∙◌, ap, rules}
use Rattle.std.proofs.lemmas.Option.{slice_get_read}
use Rattle.mau_api.specs.declared.step.Place.TheVariants.{Argument}
use Rattle.mau_api.specs.Events.{entered}
use Rattle.mau_evaluation.specs.Run.{counted}
use Rattle.mau_machine.specs.Words.{capped, trees, eval_on}
use Rattle.mau_machine.specs.Machine.{as_value, goes_on, waits_in}
use Rattle.mau_machine.specs.declared.frame.Frame.TheVariants as Waiting
use Rattle.mau_machine.specs.declared.frame.Control.TheVariants as Next
use Rattle.mau_machine.proofs.Following.{exactly, went_on, went_pushed}
use Rattle.mau_machine.proofs.Branches.{at_trees, no_tree, one_argument, no_argument}
use Rattle.mau_machine.proofs.Advance.{stays_same, stays_pushed, skipped_told, argument_told, tree_at_place}
use Rattle.mau_machine.proofs.Held.{held_pushed, same_state, kind_at_place}
use Rattle.mau_machine.proofs.steps.go_on.Goals as goal

pub returns-then-place-len-clause-goes : goal.returns-then-place-len-clause-goes
returns-then-place-len-clause-goes g c =
    let w = (g.W.World.words c.args.world.now c.args.store.now) in
    let a = c.args.arguments in
    λ b. went_on w c.args.machine.now.frames.items (Next.Evaluating a) (Next.Evaluating (record a { next = a.next + 1 })) c.args.machine.now.rewrites c.args.machine.now.rewrites b b
    (exactly w.rules.program _ _ (λ n. ap (λ o. capped (as_value (counted c.args.machine.now.rewrites o))) (no_argument w.rules (a.level + n) a.op.0 (trees w a.args.items) a.order.items a.next c.index-place.result.now (search (rules, c.if-arguments-len.false)) c.index-place.ensures
    (no_tree w a.args.items c.index-place.result.now (search (rules, c.if-place-len.true))) b)))

pub returns-clause-goes : goal.returns-clause-goes
returns-clause-goes g c =
    let w = (g.W.World.words c.args.world.now c.args.store.now) in
    let a = c.args.arguments in
    let i = c.index-place.result.now in
    let x = c.index-term.result.now in
    let f = Waiting.Argument (record a { next = a.next + 1 }) i in
    λ b. went_pushed w c.args.machine.now.frames.items c.begin.new.machine.frames.items f (Next.Evaluating a) (Next.Eval a.level x) c.args.machine.now.rewrites c.begin.new.machine.rewrites b b c.in_ok-begin.ensures.frames tt
    (exactly w.rules.program _ _ (λ n. ap capped (one_argument w.rules (a.level + n) a.op.0 (trees w a.args.items) a.order.items a.next i (w.tree x.0) (search (rules, c.if-arguments-len.false)) c.index-place.ensures
    (at_trees w a.args.items i x (search (rules, c.if-place-len.false)) c.index-term.ensures) c.args.machine.now.rewrites b)
    ∙ ap (λ m. capped (goes_on w.rules (waits_in w n f) (as_value (counted m (eval_on w.rules (a.level + n) (w.tree x.0) b))))) (sym c.in_ok-begin.ensures.rewrites)))

pub returns-clause-known : goal.returns-clause-known
returns-clause-known g c =
    let w = (g.W.World.words c.args.world.now c.args.store.now) in
    let a = c.args.arguments in
    let i = c.index-place.result.now in
    let x = c.index-term.result.now in
    let within : i < length a.args.items = search (rules, c.if-place-len.false) in
    λ asked h. held_pushed w asked c.args.machine.now.frames.items c.begin.new.machine.frames.items (Next.Evaluating a) (Next.Eval a.level x) (Waiting.Argument (record a { next = a.next + 1 }) i) c.in_ok-begin.ensures.frames
    h c.requires.operands (g.met.W.World.holds c.args.world.now c.args.store.now a.op.0 a.args.items i x c.requires.operands (slice_get_read a.args.items (length a.args.items) i x refl within c.index-term.ensures))
    refl (kind_at_place w a.args.items i x within c.index-term.ensures)

pub returns-then-place-len-clause-told : goal.returns-then-place-len-clause-told
returns-then-place-len-clause-told g c =
    let w = (g.W.World.words c.args.world.now c.args.store.now) in
    let X = g.met.W.World.extends c.args.world.now c.args.world.now c.args.store.now c.args.store.now (g.met.W.World.stays c.args.world.now c.args.store.now c.requires.ready) in
    let a = c.args.arguments in
    λ wants. stays_same w w (same_state w) c.args.store.now c.args.store.now X.0 (g.W.World.table c.args.world.now) (g.W.World.table c.args.world.now) X.1 c.args.machine.now.frames.items (Next.Evaluating a) (Next.Evaluating (record a { next = a.next + 1 })) c.args.machine.now.rewrites c.args.machine.now.rewrites (g.T.StepWatcher.told c.args.watcher.now) (λ J m ys t n. (skipped_told w c.args.store.now (g.W.World.table c.args.world.now) J a (a.next + 1) ys t, n))

pub returns-clause-told : goal.returns-clause-told
returns-clause-told g c =
    let w = (g.W.World.words c.args.world.now c.args.store.now) in
    let X = g.met.W.World.extends c.args.world.now c.args.world.now c.args.store.now c.args.store.now (g.met.W.World.stays c.args.world.now c.args.store.now c.requires.ready) in
    let a = c.args.arguments in
    let i = c.index-place.result.now in
    let x = c.index-term.result.now in
    let f = Waiting.Argument (record a { next = a.next + 1 }) i in
    let within : i < length a.args.items = search (rules, c.if-place-len.false) in
    let at = slice_get_read a.args.items (length a.args.items) i x refl within c.index-term.ensures in
    let s = g.met.W.World.stands c.args.world.now c.args.store.now x.0 (g.met.W.World.holds c.args.world.now c.args.store.now a.op.0 a.args.items i x c.requires.operands at) in
    λ wants. stays_pushed w w (same_state w) c.args.store.now c.args.store.now X.0 (g.W.World.table c.args.world.now) (g.W.World.table c.args.world.now) X.1 c.args.machine.now.frames.items c.begin.new.machine.frames.items f (Next.Evaluating a) (Next.Eval a.level x) c.args.machine.now.rewrites c.begin.new.machine.rewrites (length (g.T.StepWatcher.told c.args.watcher.now)) (g.T.StepWatcher.told c.args.watcher.now) (g.T.StepWatcher.told c.begin.new.watcher) (entered x (Argument i) ∷ []) c.in_ok-begin.ensures.frames refl
    (c.in_ok-begin.ensures.told wants ∙ ap (λ p. (g.T.StepWatcher.told c.args.watcher.now) ++ entered x p ∷ []) c.in_ok-at.ensures)
    (λ n m J ys l t q. argument_told w c.args.store.now (g.W.World.table c.args.world.now) n m 0 J a (a.next + 1) i a.level c.args.machine.now.rewrites c.begin.new.machine.rewrites x ys (s.0, sym s.1) (tree_at_place w c.args.store.now (g.W.World.table c.args.world.now) a.args.items i x at) c.in_ok-begin.ensures.rewrites t q)
