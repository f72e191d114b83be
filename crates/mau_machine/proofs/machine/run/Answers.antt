use Rattle.std.proofs.Common.{◌≡◌, [], sym, ◌∙◌, subst}
use Rattle.mau_machine.specs.Telling.{IsTelling}
use Rattle.mau_machine.specs.Words.{Rules, ComesToEnd}
use Rattle.mau_machine.specs.Machine.{whole}
use Rattle.mau_machine.specs.Known.{HoldsIn}
use Rattle.mau_machine.specs.Steps.{Follows}
use Rattle.mau_machine.proofs.Following.{follows_then, ends_follow, went_whole, went_answered, whole_later, ends_later, answered_later}
use Rattle.mau_machine.proofs.Branches.{empty_is}
use Rattle.mau_machine.proofs.Advance.{more_on}
use Rattle.mau_machine.proofs.machine.run.Goals as goal

pub returns-then-is_empty-clause-goes : goal.returns-then-is_empty-clause-goes
returns-then-is_empty-clause-goes g c =
    let w0 = (g.W.World.words c.args.world.now c.args.store.now) in
    let w = (g.W.World.words c.loop.world c.loop.store) in
    let e : c.loop.machine.frames.items ≡ [] = empty_is c.as_slice.result.now c.loop.machine.frames.items c.as_slice.ensures.value c.if-is_empty.ensures in
    subst (λ fs. Follows w0.rules.program (λ n. whole w0 n c.args.machine.now.frames.items c.args.task c.args.machine.now.rewrites c.args.budget.now) (λ n. whole w n fs c.loop.task c.loop.machine.rewrites c.loop.budget)) e c.loop.invariant.2

pub returns-then-is_empty-clause-known : goal.returns-then-is_empty-clause-known
returns-then-is_empty-clause-known g c =
    let w0 = (g.W.World.words c.args.world.now c.args.store.now) in
    let w = (g.W.World.words c.loop.world c.loop.store) in
    let e : c.loop.machine.frames.items ≡ [] = empty_is c.as_slice.result.now c.loop.machine.frames.items c.as_slice.ensures.value c.if-is_empty.ensures in
    λ asked h. subst (λ fs. HoldsIn w asked fs c.loop.task) e (c.loop.invariant.3 asked h)

pub step-requires-clause-ready : goal.step-requires-clause-ready
step-requires-clause-ready g c =
    g.met.W.World.begins c.args.world.now c.loop.world c.args.store.now c.loop.store c.requires.ready c.loop.invariant.0

pub returns-in-Err-clause-ends : goal.returns-in-Err-clause-ends
returns-in-Err-clause-ends g c =
    let w0 = (g.W.World.words c.args.world.now c.args.store.now) in
    let w = (g.W.World.words c.loop.world c.loop.store) in
    let w' = (g.W.World.words c.step.new.world c.step.new.store) in
    let k = g.met.W.World.keeps c.loop.world c.step.new.world c.loop.store c.step.new.store c.in-Err.ensures.grows in
    let k0 = g.met.W.World.keeps c.args.world.now c.loop.world c.args.store.now c.loop.store c.loop.invariant.0 in
    let H = c.loop.invariant.3 c.requires.held.0 c.requires.held.1 in
    ends_follow w0.rules.program (λ n. whole w0 n c.args.machine.now.frames.items c.args.task c.args.machine.now.rewrites c.args.budget.now) (λ n. whole w n c.loop.machine.frames.items c.loop.task c.loop.machine.rewrites c.loop.budget) c.in-Err.end c.loop.invariant.2
    (subst (λ (R : Rules). ComesToEnd R.program (λ n. whole w n c.loop.machine.frames.items c.loop.task c.loop.machine.rewrites c.loop.budget) c.in-Err.end) k0.rules (ends_later w w' k c.loop.machine.frames.items c.loop.task c.loop.machine.rewrites c.loop.budget c.in-Err.end H.frames H.next c.in-Err.ensures.ends))

pub returns-in-Err-clause-grows : goal.returns-in-Err-clause-grows
returns-in-Err-clause-grows g c =
    g.met.W.World.goes_on c.args.world.now c.loop.world c.step.new.world c.args.store.now c.loop.store c.step.new.store c.loop.invariant.0 c.in-Err.ensures.grows

pub loop-preserved : goal.loop-preserved
loop-preserved g c =
    let w0 = (g.W.World.words c.args.world.now c.args.store.now) in
    let w = (g.W.World.words c.loop.world c.loop.store) in
    let w' = (g.W.World.words c.step.new.world c.step.new.store) in
    let grows = g.met.W.World.goes_on c.args.world.now c.loop.world c.step.new.world c.args.store.now c.loop.store c.step.new.store c.loop.invariant.0 c.in-Ok.ensures.grows in
    let k = g.met.W.World.keeps c.loop.world c.step.new.world c.loop.store c.step.new.store c.in-Ok.ensures.grows in
    let k0 = g.met.W.World.keeps c.args.world.now c.loop.world c.args.store.now c.loop.store c.loop.invariant.0 in
    let H = c.loop.invariant.3 c.requires.held.0 c.requires.held.1 in
    let fs = c.loop.machine.frames.items in
    let gs = c.step.new.machine.frames.items in
    let r = c.loop.machine.rewrites in
    let q = c.step.new.machine.rewrites in (
      grows,
      went_answered w' fs gs c.loop.task c.in-Ok.next r q c.loop.budget c.step.new.budget c.in-Ok.ensures.goes (answered_later w w' k fs c.loop.task r c.loop.budget H.frames H.next c.loop.invariant.1),
      follows_then w0.rules.program (λ n. whole w0 n c.args.machine.now.frames.items c.args.task c.args.machine.now.rewrites c.args.budget.now) (λ n. whole w n c.loop.machine.frames.items c.loop.task c.loop.machine.rewrites c.loop.budget) (λ n. whole w' n c.step.new.machine.frames.items c.in-Ok.next c.step.new.machine.rewrites c.step.new.budget) c.loop.invariant.2
          (subst (λ (R : Rules). Follows R.program (λ n. whole w n c.loop.machine.frames.items c.loop.task c.loop.machine.rewrites c.loop.budget) (λ n. whole w' n c.step.new.machine.frames.items c.in-Ok.next c.step.new.machine.rewrites c.step.new.budget)) k0.rules
          (whole_later w w' k fs c.loop.task r c.loop.budget (λ n. whole w' n c.step.new.machine.frames.items c.in-Ok.next c.step.new.machine.rewrites c.step.new.budget) H.frames H.next (went_whole w' fs gs c.loop.task c.in-Ok.next r q c.loop.budget c.step.new.budget c.in-Ok.ensures.goes))),
      λ asked h. c.in-Ok.ensures.known asked (c.loop.invariant.3 asked h),
      c.in-Ok.ensures.watched.0 ∙ c.loop.invariant.4,
      λ q. c.in-Ok.ensures.watched.1 (c.loop.invariant.4 ∙ q) ∙ c.loop.invariant.5 q,
      λ q front J asked h t. c.in-Ok.ensures.told (c.loop.invariant.4 ∙ q) front J asked (c.loop.invariant.3 asked h) (c.loop.invariant.6 q front J asked h t),
    )

pub returns-then-is_empty-clause-told : goal.returns-then-is_empty-clause-told
returns-then-is_empty-clause-told g c =
    let w0 = (g.W.World.words c.args.world.now c.args.store.now) in
    let w = (g.W.World.words c.loop.world c.loop.store) in
    let e : c.loop.machine.frames.items ≡ [] = empty_is c.as_slice.result.now c.loop.machine.frames.items c.as_slice.ensures.value c.if-is_empty.ensures in
    λ q front J asked h t. subst (λ fs. IsTelling w c.loop.store (g.W.World.table c.loop.world) front J fs c.loop.task c.loop.machine.rewrites (g.T.StepWatcher.told c.loop.watcher)) e (c.loop.invariant.6 q front J asked h t)

pub returns-then-is_empty-clause-watched : goal.returns-then-is_empty-clause-watched
returns-then-is_empty-clause-watched g c =
    (c.loop.invariant.4, c.loop.invariant.5)

pub returns-then-is_empty-clause-front : goal.returns-then-is_empty-clause-front
returns-then-is_empty-clause-front g c =
    λ q front J t. let L = c.loop.invariant.6 q front J c.requires.held.0 c.requires.held.1 t in (L.events, L.is)

pub step-requires-clause-told : goal.step-requires-clause-told
step-requires-clause-told g c =
    λ q. let z = sym c.loop.invariant.4 ∙ q in let t = c.requires.told z in (t.0, t.1, c.loop.invariant.6 z t.0 t.1 c.requires.held.0 c.requires.held.1 t.2)

pub returns-in-Err-clause-front : goal.returns-in-Err-clause-front
returns-in-Err-clause-front g c =
    λ q front J t. let L = c.loop.invariant.6 q front J c.requires.held.0 c.requires.held.1 t in more_on front (g.T.StepWatcher.told c.loop.watcher) (g.T.StepWatcher.told c.step.new.watcher) (L.events, L.is) c.in-Err.ensures.more

pub returns-in-Err-clause-watched : goal.returns-in-Err-clause-watched
returns-in-Err-clause-watched g c =
    (c.in-Err.ensures.watched.0 ∙ c.loop.invariant.4, λ q. c.in-Err.ensures.watched.1 (c.loop.invariant.4 ∙ q) ∙ c.loop.invariant.5 q)

pub returns-clause-front : goal.returns-clause-front
returns-clause-front g c =
    λ q front J t. let L = c.loop.invariant.6 q front J c.requires.held.0 c.requires.held.1 t in (L.events, L.is)

pub returns-clause-watched : goal.returns-clause-watched
returns-clause-watched g c =
    (c.loop.invariant.4, c.loop.invariant.5)
