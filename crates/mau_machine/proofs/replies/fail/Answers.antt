use Rattle.std.proofs.Common.{refl}
use Rattle.mau_machine.specs.declared.frame.Frame.TheVariants as Waiting
use Rattle.mau_machine.specs.declared.frame.Control.TheVariants as Next
use Rattle.mau_machine.proofs.Through.{last_is}
use Rattle.mau_machine.proofs.Following.{exactly, went_popped, went_settled, last_answered, answered_failed}
use Rattle.mau_machine.proofs.Advance.{taken_back, choice_failed, trying_failed, settled_told, mark_fits}
use Rattle.mau_machine.proofs.Held.{held_popped, held_settled, last_known}
use Rattle.mau_machine.proofs.replies.fail.Goals as goal

pub returns-in-Some-Choice-clause-goes : goal.returns-in-Some-Choice-clause-goes
returns-in-Some-Choice-clause-goes g c =
    let w = (g.W.World.words c.args.world.now c.args.store.now) in
    let f = Waiting.Choice c.in-Some-Choice.choosing c.in-Some-Choice.mark in
    let p = last_is w c.args.machine.now.frames.items c.pop.new.self.items f _ c.in-Some-Choice.ensures.items c.in-Some-Choice.field-0-is in
    went_popped w c.args.machine.now.frames.items c.pop.new.self.items f (Next.Failed c.args.condition) (Next.Choose c.in-Some-Choice.choosing) c.args.machine.now.rewrites c.args.machine.now.rewrites c.args.budget.now c.args.budget.now p (exactly w.rules.program _ _ (λ n. refl))

pub returns-in-Some-Choice-clause-known : goal.returns-in-Some-Choice-clause-known
returns-in-Some-Choice-clause-known g c =
    let w = (g.W.World.words c.args.world.now c.args.store.now) in
    let f = Waiting.Choice c.in-Some-Choice.choosing c.in-Some-Choice.mark in
    let p = last_is w c.args.machine.now.frames.items c.pop.new.self.items f _ c.in-Some-Choice.ensures.items c.in-Some-Choice.field-0-is in
    λ asked h. held_popped w asked c.args.machine.now.frames.items c.pop.new.self.items (Next.Failed c.args.condition) (Next.Choose c.in-Some-Choice.choosing) f p h (last_known w asked c.args.machine.now.frames.items c.pop.new.self.items (Next.Failed c.args.condition) f p h).0 refl

pub returns-in-Some-Trying-clause-goes : goal.returns-in-Some-Trying-clause-goes
returns-in-Some-Trying-clause-goes g c =
    let w = (g.W.World.words c.args.world.now c.args.store.now) in
    let f = Waiting.Trying c.in-Some-Trying.trial c.in-Some-Trying.before c.in-Some-Trying.mark in
    let p = last_is w c.args.machine.now.frames.items c.pop.new.self.items f _ c.in-Some-Trying.ensures.items c.in-Some-Trying.field-0-is in
    went_popped w c.args.machine.now.frames.items c.pop.new.self.items f (Next.Failed c.args.condition) (Next.Attempt c.in-Some-Trying.trial) c.args.machine.now.rewrites c.in-Some-Trying.before c.args.budget.now c.args.budget.now p (exactly w.rules.program _ _ (λ n. refl))

pub returns-in-Some-Trying-clause-known : goal.returns-in-Some-Trying-clause-known
returns-in-Some-Trying-clause-known g c =
    let w = (g.W.World.words c.args.world.now c.args.store.now) in
    let f = Waiting.Trying c.in-Some-Trying.trial c.in-Some-Trying.before c.in-Some-Trying.mark in
    let p = last_is w c.args.machine.now.frames.items c.pop.new.self.items f _ c.in-Some-Trying.ensures.items c.in-Some-Trying.field-0-is in
    λ asked h. let q = (last_known w asked c.args.machine.now.frames.items c.pop.new.self.items (Next.Failed c.args.condition) f p h).0 in
    held_popped w asked c.args.machine.now.frames.items c.pop.new.self.items (Next.Failed c.args.condition) (Next.Attempt c.in-Some-Trying.trial) f p h (q.0, q.1) refl

pub back-requires : goal.back-requires
back-requires g c =
    let w = (g.W.World.words c.args.world.now c.args.store.now) in
    let f = Waiting.Choice c.in-Some-Choice.choosing c.in-Some-Choice.mark in
    let p = last_is w c.args.machine.now.frames.items c.pop.new.self.items f _ c.in-Some-Choice.ensures.items c.in-Some-Choice.field-0-is in
    λ wants. let t = c.requires.told wants in
    (taken_back w c.args.store.now (g.W.World.table c.args.world.now) c.args.machine.now.frames.items c.pop.new.self.items f (Next.Failed c.args.condition) (Next.Choose c.in-Some-Choice.choosing) c.args.machine.now.rewrites c.args.machine.now.rewrites c.in-Some-Choice.mark (g.T.StepWatcher.told c.args.watcher.now) t.0 t.1 p (λ n m J K xs h. choice_failed w c.args.store.now (g.W.World.table c.args.world.now) n m c.in-Some-Choice.mark J K c.in-Some-Choice.choosing xs h) t.2).0

pub returns-in-Some-Choice-clause-told : goal.returns-in-Some-Choice-clause-told
returns-in-Some-Choice-clause-told g c =
    let w = (g.W.World.words c.args.world.now c.args.store.now) in
    let f = Waiting.Choice c.in-Some-Choice.choosing c.in-Some-Choice.mark in
    let p = last_is w c.args.machine.now.frames.items c.pop.new.self.items f _ c.in-Some-Choice.ensures.items c.in-Some-Choice.field-0-is in
    λ wants front J asked H t.
    (taken_back w c.args.store.now (g.W.World.table c.args.world.now) c.args.machine.now.frames.items c.pop.new.self.items f (Next.Failed c.args.condition) (Next.Choose c.in-Some-Choice.choosing) c.args.machine.now.rewrites c.args.machine.now.rewrites c.in-Some-Choice.mark (g.T.StepWatcher.told c.args.watcher.now) front J p (λ n m J K xs h. choice_failed w c.args.store.now (g.W.World.table c.args.world.now) n m c.in-Some-Choice.mark J K c.in-Some-Choice.choosing xs h) t).1
    (g.T.StepWatcher.told c.back.new.watcher) (c.back.ensures.told wants)

pub back-requires-in-Some-Trying : goal.back-requires-in-Some-Trying
back-requires-in-Some-Trying g c =
    let w = (g.W.World.words c.args.world.now c.args.store.now) in
    let f = Waiting.Trying c.in-Some-Trying.trial c.in-Some-Trying.before c.in-Some-Trying.mark in
    let p = last_is w c.args.machine.now.frames.items c.pop.new.self.items f _ c.in-Some-Trying.ensures.items c.in-Some-Trying.field-0-is in
    λ wants. let t = c.requires.told wants in
    (taken_back w c.args.store.now (g.W.World.table c.args.world.now) c.args.machine.now.frames.items c.pop.new.self.items f (Next.Failed c.args.condition) (Next.Attempt c.in-Some-Trying.trial) c.args.machine.now.rewrites c.in-Some-Trying.before c.in-Some-Trying.mark (g.T.StepWatcher.told c.args.watcher.now) t.0 t.1 p (λ n m J K xs h. trying_failed w c.args.store.now (g.W.World.table c.args.world.now) n m c.in-Some-Trying.before c.in-Some-Trying.mark J K c.in-Some-Trying.trial xs h) t.2).0

pub returns-in-Some-Trying-clause-told : goal.returns-in-Some-Trying-clause-told
returns-in-Some-Trying-clause-told g c =
    let w = (g.W.World.words c.args.world.now c.args.store.now) in
    let f = Waiting.Trying c.in-Some-Trying.trial c.in-Some-Trying.before c.in-Some-Trying.mark in
    let p = last_is w c.args.machine.now.frames.items c.pop.new.self.items f _ c.in-Some-Trying.ensures.items c.in-Some-Trying.field-0-is in
    λ wants front J asked H t.
    (taken_back w c.args.store.now (g.W.World.table c.args.world.now) c.args.machine.now.frames.items c.pop.new.self.items f (Next.Failed c.args.condition) (Next.Attempt c.in-Some-Trying.trial) c.args.machine.now.rewrites c.in-Some-Trying.before c.in-Some-Trying.mark (g.T.StepWatcher.told c.args.watcher.now) front J p (λ n m J K xs h. trying_failed w c.args.store.now (g.W.World.table c.args.world.now) n m c.in-Some-Trying.before c.in-Some-Trying.mark J K c.in-Some-Trying.trial xs h) t).1
    (g.T.StepWatcher.told c.back-in-Some-Trying.new.watcher) (c.back-in-Some-Trying.ensures.told wants)

pub settle_on-requires-clause-answered : goal.settle_on-requires-clause-answered
settle_on-requires-clause-answered g c =
    let w = (g.W.World.words c.args.world.now c.args.store.now) in
    let x = c.in-Some-Deriving.settled in
    let mark = c.in-Some-Deriving.mark in
    let f = Waiting.Deriving x mark in
    let p = last_is w c.args.machine.now.frames.items c.pop.new.self.items f _ c.in-Some-Deriving.ensures.items c.in-Some-Deriving.field-0-is in
    let a = (last_answered w c.args.machine.now.frames.items c.pop.new.self.items f (Next.Failed c.args.condition) c.args.machine.now.rewrites c.args.budget.now p c.requires.answered).0 in
    let L = last_known w c.requires.held.0 c.args.machine.now.frames.items c.pop.new.self.items (Next.Failed c.args.condition) f p c.requires.held.1 in
    (a.0, a.1, answered_failed w.rules x.level x.condition a.0 c.args.budget.now a.2)

pub settle_on-requires-clause-mark : goal.settle_on-requires-clause-mark
settle_on-requires-clause-mark g c =
    let w = (g.W.World.words c.args.world.now c.args.store.now) in
    let x = c.in-Some-Deriving.settled in
    let mark = c.in-Some-Deriving.mark in
    let f = Waiting.Deriving x mark in
    let p = last_is w c.args.machine.now.frames.items c.pop.new.self.items f _ c.in-Some-Deriving.ensures.items c.in-Some-Deriving.field-0-is in
    λ wants. let t = c.requires.told wants in
    mark_fits w c.args.store.now (g.W.World.table c.args.world.now) c.args.machine.now.frames.items c.pop.new.self.items x mark (Next.Failed c.args.condition) c.args.machine.now.rewrites (g.T.StepWatcher.told c.args.watcher.now) t.0 t.1 p t.2

pub returns-in-Some-Deriving-clause-goes : goal.returns-in-Some-Deriving-clause-goes
returns-in-Some-Deriving-clause-goes g c =
    let w = (g.W.World.words c.args.world.now c.args.store.now) in
    let x = c.in-Some-Deriving.settled in
    let mark = c.in-Some-Deriving.mark in
    let f = Waiting.Deriving x mark in
    let p = last_is w c.args.machine.now.frames.items c.pop.new.self.items f _ c.in-Some-Deriving.ensures.items c.in-Some-Deriving.field-0-is in
    went_settled w c.args.machine.now.frames.items c.pop.new.self.items c.settle_on.new.machine.frames.items x mark (Next.Failed c.args.condition) c.settle_on.result c.args.machine.now.rewrites c.settle_on.new.machine.rewrites c.args.budget.now c.settle_on.new.budget p c.settle_on.ensures.frames c.settle_on.ensures.rewrites c.settle_on.ensures.budget c.settle_on.ensures.settles (λ n. refl)

pub returns-in-Some-Deriving-clause-known : goal.returns-in-Some-Deriving-clause-known
returns-in-Some-Deriving-clause-known g c =
    let w = (g.W.World.words c.args.world.now c.args.store.now) in
    let x = c.in-Some-Deriving.settled in
    let mark = c.in-Some-Deriving.mark in
    let f = Waiting.Deriving x mark in
    let p = last_is w c.args.machine.now.frames.items c.pop.new.self.items f _ c.in-Some-Deriving.ensures.items c.in-Some-Deriving.field-0-is in
    λ asked h. held_settled w asked c.args.machine.now.frames.items c.pop.new.self.items c.settle_on.new.machine.frames.items (Next.Failed c.args.condition) c.settle_on.result x mark p c.settle_on.ensures.frames c.settle_on.ensures.settles h

pub returns-in-Some-Deriving-clause-told : goal.returns-in-Some-Deriving-clause-told
returns-in-Some-Deriving-clause-told g c =
    let w = (g.W.World.words c.args.world.now c.args.store.now) in
    let x = c.in-Some-Deriving.settled in
    let mark = c.in-Some-Deriving.mark in
    let f = Waiting.Deriving x mark in
    let p = last_is w c.args.machine.now.frames.items c.pop.new.self.items f _ c.in-Some-Deriving.ensures.items c.in-Some-Deriving.field-0-is in
    λ wants front J asked H t. settled_told w c.args.store.now (g.W.World.table c.args.world.now) c.args.machine.now.frames.items c.pop.new.self.items c.settle_on.new.machine.frames.items x mark (Next.Failed c.args.condition) c.settle_on.result c.args.machine.now.rewrites c.settle_on.new.machine.rewrites (g.T.StepWatcher.told c.args.watcher.now) (g.T.StepWatcher.told c.settle_on.new.watcher) front J p
    c.settle_on.ensures.frames c.settle_on.ensures.rewrites c.settle_on.ensures.settles (c.settle_on.ensures.told wants) t
