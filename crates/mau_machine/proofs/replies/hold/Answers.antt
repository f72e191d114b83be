use Rattle.std.proofs.Common.{◌+◌, ◌-◌, ◌∷◌, [], refl, ap, subst}
use Rattle.mau_api.specs.Events.{made}
use Rattle.mau_api.specs.declared.results.EvalEnd.TheVariants as Ended
use Rattle.mau_machine.specs.Words.{IsSolution}
use Rattle.mau_machine.specs.Machine.{comes, task_in}
use Rattle.mau_machine.specs.Known.{value_of, answer_to}
use Rattle.mau_machine.specs.declared.frame.Frame.TheVariants as Waiting
use Rattle.mau_machine.specs.declared.frame.Control.TheVariants as Next
use Rattle.mau_machine.proofs.Through.{last_is}
use Rattle.mau_machine.proofs.Following.{exactly, ends_exactly, ends_popped, went_popped, went_settled, last_answered, answered_held}
use Rattle.mau_machine.proofs.Branches.{one_more, spends, stops, spend_ends, choice_held}
use Rattle.mau_machine.proofs.Advance.{stays_popped, stays_popped_same, choice_given, trying_given, settled_told, mark_fits}
use Rattle.mau_machine.proofs.Held.{held_popped, held_settled, last_known, held_later, same_state}
use Rattle.mau_machine.proofs.replies.hold.Goals as goal

pub returns-in-Some-Choice-clause-goes : goal.returns-in-Some-Choice-clause-goes
returns-in-Some-Choice-clause-goes g c =
    let w = (g.W.World.words c.args.world.now c.args.store.now) in
    let f = Waiting.Choice c.in-Some-Choice.choosing c.in-Some-Choice.mark in
    let p = last_is w c.args.machine.now.frames.items c.pop.new.self.items f _ c.in-Some-Choice.ensures.items c.in-Some-Choice.field-0-is in
    let x = c.in-Some-Choice.choosing in
    went_popped w c.args.machine.now.frames.items c.pop.new.self.items f (Next.Held c.args.condition c.args.binding) (Next.Held c.args.condition c.args.binding) c.args.machine.now.rewrites c.saturating_add-machine.result c.args.budget.now c.args.budget.now p
    (exactly w.rules.program _ _ (λ n. choice_held w.rules (w.unchosen x.choices (x.level + n) x.condition x.at) x.before c.args.machine.now.rewrites c.args.budget.now c.saturating_add-machine.result (w.bound c.args.binding) c.saturating_add-machine.ensures))

pub returns-in-Some-Choice-clause-known : goal.returns-in-Some-Choice-clause-known
returns-in-Some-Choice-clause-known g c =
    let w = (g.W.World.words c.args.world.now c.args.store.now) in
    let f = Waiting.Choice c.in-Some-Choice.choosing c.in-Some-Choice.mark in
    let p = last_is w c.args.machine.now.frames.items c.pop.new.self.items f _ c.in-Some-Choice.ensures.items c.in-Some-Choice.field-0-is in
    λ asked h. held_popped w asked c.args.machine.now.frames.items c.pop.new.self.items (Next.Held c.args.condition c.args.binding) (Next.Held c.args.condition c.args.binding) f p h h.next (ap answer_to (last_known w asked c.args.machine.now.frames.items c.pop.new.self.items (Next.Held c.args.condition c.args.binding) f p h).1)

pub returns-then-budget-eq0-clause-ends : goal.returns-then-budget-eq0-clause-ends
returns-then-budget-eq0-clause-ends g c =
    let w = (g.W.World.words c.args.world.now c.args.store.now) in
    let f = Waiting.Trying c.in-Some-Trying.trial c.in-Some-Trying.before c.in-Some-Trying.mark in
    let p = last_is w c.args.machine.now.frames.items c.pop.new.self.items f _ c.in-Some-Trying.ensures.items c.in-Some-Trying.field-0-is in
    let x = c.in-Some-Trying.trial in
    ends_popped w c.args.machine.now.frames.items c.pop.new.self.items f (λ n. comes w.rules (task_in w n (Next.Held c.args.condition c.args.binding)) c.args.machine.now.rewrites c.args.budget.now) Ended.Stopped p
    (ends_exactly w.rules.program _ Ended.Stopped (λ n. stops w.rules (x.level + n) (w.tree x.term.0) (w.untried x.attempts (x.level + n)) (w.makes x.attempts) c.in-Some-Trying.before c.args.machine.now.rewrites c.args.budget.now (w.bound c.args.binding) c.if-budget-eq0.true))

pub make-requires-clause-term : goal.make-requires-clause-term
make-requires-clause-term g c =
    let w = (g.W.World.words c.args.world.now c.args.store.now) in
    let f = Waiting.Trying c.in-Some-Trying.trial c.in-Some-Trying.before c.in-Some-Trying.mark in
    let p = last_is w c.args.machine.now.frames.items c.pop.new.self.items f _ c.in-Some-Trying.ensures.items c.in-Some-Trying.field-0-is in
    let L = last_known w c.requires.held.0 c.args.machine.now.frames.items c.pop.new.self.items (Next.Held c.args.condition c.args.binding) f p c.requires.held.1 in
    L.0.0

pub make-requires-clause-candidate : goal.make-requires-clause-candidate
make-requires-clause-candidate g c =
    let w = (g.W.World.words c.args.world.now c.args.store.now) in
    let f = Waiting.Trying c.in-Some-Trying.trial c.in-Some-Trying.before c.in-Some-Trying.mark in
    let p = last_is w c.args.machine.now.frames.items c.pop.new.self.items f _ c.in-Some-Trying.ensures.items c.in-Some-Trying.field-0-is in
    let L = last_known w c.requires.held.0 c.args.machine.now.frames.items c.pop.new.self.items (Next.Held c.args.condition c.args.binding) f p c.requires.held.1 in
    L.0.2

pub make-requires-clause-solution : goal.make-requires-clause-solution
make-requires-clause-solution g c =
    let w = (g.W.World.words c.args.world.now c.args.store.now) in
    let f = Waiting.Trying c.in-Some-Trying.trial c.in-Some-Trying.before c.in-Some-Trying.mark in
    let p = last_is w c.args.machine.now.frames.items c.pop.new.self.items f _ c.in-Some-Trying.ensures.items c.in-Some-Trying.field-0-is in
    let L = last_known w c.requires.held.0 c.args.machine.now.frames.items c.pop.new.self.items (Next.Held c.args.condition c.args.binding) f p c.requires.held.1 in
    subst (λ e. IsSolution w e c.args.binding) L.1 c.requires.held.1.next

pub returns-in-Ok-clause-goes : goal.returns-in-Ok-clause-goes
returns-in-Ok-clause-goes g c =
    let w = (g.W.World.words c.args.world.now c.args.store.now) in
    let w' = (g.W.World.words c.make.new.world c.make.new.store) in
    let k = (g.met.W.World.keeps c.args.world.now c.make.new.world c.args.store.now c.make.new.store c.make.ensures.grows) in
    let f = Waiting.Trying c.in-Some-Trying.trial c.in-Some-Trying.before c.in-Some-Trying.mark in
    let p = last_is w' c.args.machine.now.frames.items c.pop.new.self.items f _ c.in-Some-Trying.ensures.items c.in-Some-Trying.field-0-is in
    let x = c.in-Some-Trying.trial in
    went_popped w' c.args.machine.now.frames.items c.pop.new.self.items f (Next.Held c.args.condition c.args.binding) (Next.Eval c.in-Some.level c.in-Ok.term) c.args.machine.now.rewrites c.saturating_add-machine-in-Ok.result c.args.budget.now (c.args.budget.now - 1) p
    (exactly w'.rules.program _ _ (λ n. spends w'.rules (x.level + n) (w'.tree x.term.0) (w'.untried x.attempts (x.level + n)) (w'.makes x.attempts) c.in-Some-Trying.before c.args.machine.now.rewrites c.args.budget.now c.saturating_add.result c.saturating_add-machine-in-Ok.result (c.in-Some.level + n) (w'.bound c.args.binding) (w'.tree c.in-Ok.term.0) c.if-budget-eq0.false
    (one_more c.in-Some.level x.level n c.in-Some.ensures.1) c.saturating_add.ensures c.saturating_add-machine-in-Ok.ensures c.in-Ok.ensures.value))

pub returns-in-Ok-clause-known : goal.returns-in-Ok-clause-known
returns-in-Ok-clause-known g c =
    let w = (g.W.World.words c.args.world.now c.args.store.now) in
    let w' = (g.W.World.words c.make.new.world c.make.new.store) in
    let k = (g.met.W.World.keeps c.args.world.now c.make.new.world c.args.store.now c.make.new.store c.make.ensures.grows) in
    let f = Waiting.Trying c.in-Some-Trying.trial c.in-Some-Trying.before c.in-Some-Trying.mark in
    let p = last_is w' c.args.machine.now.frames.items c.pop.new.self.items f _ c.in-Some-Trying.ensures.items c.in-Some-Trying.field-0-is in
    λ asked h. held_popped w' asked c.args.machine.now.frames.items c.pop.new.self.items (Next.Held c.args.condition c.args.binding) (Next.Eval c.in-Some.level c.in-Ok.term) f p (held_later w w' k asked c.args.machine.now.frames.items (Next.Held c.args.condition c.args.binding) h) c.in-Ok.ensures.known (ap value_of c.in-Ok.ensures.kind)

pub returns-in-Some-clause-ends : goal.returns-in-Some-clause-ends
returns-in-Some-clause-ends g c =
    let w = (g.W.World.words c.args.world.now c.args.store.now) in
    let w' = (g.W.World.words c.make.new.world c.make.new.store) in
    let k = (g.met.W.World.keeps c.args.world.now c.make.new.world c.args.store.now c.make.new.store c.make.ensures.grows) in
    let f = Waiting.Trying c.in-Some-Trying.trial c.in-Some-Trying.before c.in-Some-Trying.mark in
    let p = last_is w' c.args.machine.now.frames.items c.pop.new.self.items f _ c.in-Some-Trying.ensures.items c.in-Some-Trying.field-0-is in
    let x = c.in-Some-Trying.trial in
    ends_popped w' c.args.machine.now.frames.items c.pop.new.self.items f (λ n. comes w'.rules (task_in w' n (Next.Held c.args.condition c.args.binding)) c.args.machine.now.rewrites c.args.budget.now) c.in-Err.end p
    (ends_exactly w'.rules.program _ c.in-Err.end (λ n. spend_ends w'.rules (x.level + n) (w'.tree x.term.0) (w'.untried x.attempts (x.level + n)) (w'.makes x.attempts) c.in-Some-Trying.before c.args.machine.now.rewrites c.args.budget.now (w'.bound c.args.binding) c.in-Err.end c.if-budget-eq0.false c.in-Err.ensures.ends))

pub returns-in-Some-Choice-clause-told : goal.returns-in-Some-Choice-clause-told
returns-in-Some-Choice-clause-told g c =
    let w = (g.W.World.words c.args.world.now c.args.store.now) in
    let X = g.met.W.World.extends c.args.world.now c.args.world.now c.args.store.now c.args.store.now (g.met.W.World.stays c.args.world.now c.args.store.now c.requires.ready) in
    let f = Waiting.Choice c.in-Some-Choice.choosing c.in-Some-Choice.mark in
    let p = last_is w c.args.machine.now.frames.items c.pop.new.self.items f _ c.in-Some-Choice.ensures.items c.in-Some-Choice.field-0-is in
    λ wants. stays_popped_same w w (same_state w) c.args.store.now c.args.store.now X.0 (g.W.World.table c.args.world.now) (g.W.World.table c.args.world.now) X.1 c.args.machine.now.frames.items c.pop.new.self.items f (Next.Held c.args.condition c.args.binding) (Next.Held c.args.condition c.args.binding) c.args.machine.now.rewrites c.saturating_add-machine.result (g.T.StepWatcher.told c.args.watcher.now) p
    (λ n m J K xs ys a h q. choice_given w c.args.store.now (g.W.World.table c.args.world.now) n m c.args.machine.now.rewrites c.saturating_add-machine.result c.in-Some-Choice.mark J K c.in-Some-Choice.choosing c.args.condition c.args.binding xs ys c.saturating_add-machine.ensures a h q)

pub returns-in-Ok-clause-told : goal.returns-in-Ok-clause-told
returns-in-Ok-clause-told g c =
    let w = (g.W.World.words c.args.world.now c.args.store.now) in
    let w' = (g.W.World.words c.make.new.world c.make.new.store) in
    let k = (g.met.W.World.keeps c.args.world.now c.make.new.world c.args.store.now c.make.new.store c.make.ensures.grows) in
    let X = g.met.W.World.extends c.args.world.now c.make.new.world c.args.store.now c.make.new.store c.make.ensures.grows in
    let f = Waiting.Trying c.in-Some-Trying.trial c.in-Some-Trying.before c.in-Some-Trying.mark in
    let p = last_is w' c.args.machine.now.frames.items c.pop.new.self.items f _ c.in-Some-Trying.ensures.items c.in-Some-Trying.field-0-is in
    let x = c.in-Some-Trying.trial in
    λ wants. let u = c.in-Ok.ensures.told wants in
    stays_popped w w' k c.args.store.now c.make.new.store X.0 (g.W.World.table c.args.world.now) (g.W.World.table c.make.new.world) X.1 c.args.machine.now.frames.items c.pop.new.self.items f (Next.Held c.args.condition c.args.binding) (Next.Eval c.in-Some.level c.in-Ok.term) c.args.machine.now.rewrites c.saturating_add-machine-in-Ok.result (g.T.StepWatcher.told c.args.watcher.now) (g.T.StepWatcher.told c.make.new.watcher) (made u.0 ∷ []) p u.1
    (λ n m J K xs ys a h q. trying_given w' c.make.new.store (g.W.World.table c.make.new.world) n m c.args.machine.now.rewrites c.saturating_add-machine-in-Ok.result c.saturating_add.result c.in-Some-Trying.before c.in-Some-Trying.mark c.in-Some.level J K x c.args.condition c.args.binding c.in-Ok.term u.0 xs ys
    c.saturating_add.ensures c.saturating_add-machine-in-Ok.ensures u.2 u.3 a h q)

pub settle_on-requires-clause-answered : goal.settle_on-requires-clause-answered
settle_on-requires-clause-answered g c =
    let w = (g.W.World.words c.args.world.now c.args.store.now) in
    let x = c.in-Some-Deriving.settled in
    let mark = c.in-Some-Deriving.mark in
    let f = Waiting.Deriving x mark in
    let p = last_is w c.args.machine.now.frames.items c.pop.new.self.items f _ c.in-Some-Deriving.ensures.items c.in-Some-Deriving.field-0-is in
    let a = (last_answered w c.args.machine.now.frames.items c.pop.new.self.items f (Next.Held c.args.condition c.args.binding) c.args.machine.now.rewrites c.args.budget.now p c.requires.answered).0 in
    let L = last_known w c.requires.held.0 c.args.machine.now.frames.items c.pop.new.self.items (Next.Held c.args.condition c.args.binding) f p c.requires.held.1 in
    (a.0, a.1, answered_held w.rules x.level x.condition a.0 (w.bound c.args.binding) c.args.machine.now.rewrites c.args.budget.now a.2)

pub settle_on-requires-clause-mark : goal.settle_on-requires-clause-mark
settle_on-requires-clause-mark g c =
    let w = (g.W.World.words c.args.world.now c.args.store.now) in
    let x = c.in-Some-Deriving.settled in
    let mark = c.in-Some-Deriving.mark in
    let f = Waiting.Deriving x mark in
    let p = last_is w c.args.machine.now.frames.items c.pop.new.self.items f _ c.in-Some-Deriving.ensures.items c.in-Some-Deriving.field-0-is in
    λ wants. let t = c.requires.told wants in
    mark_fits w c.args.store.now (g.W.World.table c.args.world.now) c.args.machine.now.frames.items c.pop.new.self.items x mark (Next.Held c.args.condition c.args.binding) c.args.machine.now.rewrites (g.T.StepWatcher.told c.args.watcher.now) t.0 t.1 p t.2

pub returns-in-Some-Deriving-clause-goes : goal.returns-in-Some-Deriving-clause-goes
returns-in-Some-Deriving-clause-goes g c =
    let w = (g.W.World.words c.args.world.now c.args.store.now) in
    let x = c.in-Some-Deriving.settled in
    let mark = c.in-Some-Deriving.mark in
    let f = Waiting.Deriving x mark in
    let p = last_is w c.args.machine.now.frames.items c.pop.new.self.items f _ c.in-Some-Deriving.ensures.items c.in-Some-Deriving.field-0-is in
    went_settled w c.args.machine.now.frames.items c.pop.new.self.items c.settle_on.new.machine.frames.items x mark (Next.Held c.args.condition c.args.binding) c.settle_on.result c.args.machine.now.rewrites c.settle_on.new.machine.rewrites c.args.budget.now c.settle_on.new.budget p c.settle_on.ensures.frames c.settle_on.ensures.rewrites c.settle_on.ensures.budget c.settle_on.ensures.settles (λ n. refl)

pub returns-in-Some-Deriving-clause-known : goal.returns-in-Some-Deriving-clause-known
returns-in-Some-Deriving-clause-known g c =
    let w = (g.W.World.words c.args.world.now c.args.store.now) in
    let x = c.in-Some-Deriving.settled in
    let mark = c.in-Some-Deriving.mark in
    let f = Waiting.Deriving x mark in
    let p = last_is w c.args.machine.now.frames.items c.pop.new.self.items f _ c.in-Some-Deriving.ensures.items c.in-Some-Deriving.field-0-is in
    λ asked h. held_settled w asked c.args.machine.now.frames.items c.pop.new.self.items c.settle_on.new.machine.frames.items (Next.Held c.args.condition c.args.binding) c.settle_on.result x mark p c.settle_on.ensures.frames c.settle_on.ensures.settles h

pub returns-in-Some-Deriving-clause-told : goal.returns-in-Some-Deriving-clause-told
returns-in-Some-Deriving-clause-told g c =
    let w = (g.W.World.words c.args.world.now c.args.store.now) in
    let x = c.in-Some-Deriving.settled in
    let mark = c.in-Some-Deriving.mark in
    let f = Waiting.Deriving x mark in
    let p = last_is w c.args.machine.now.frames.items c.pop.new.self.items f _ c.in-Some-Deriving.ensures.items c.in-Some-Deriving.field-0-is in
    λ wants front J asked H t. settled_told w c.args.store.now (g.W.World.table c.args.world.now) c.args.machine.now.frames.items c.pop.new.self.items c.settle_on.new.machine.frames.items x mark (Next.Held c.args.condition c.args.binding) c.settle_on.result c.args.machine.now.rewrites c.settle_on.new.machine.rewrites (g.T.StepWatcher.told c.args.watcher.now) (g.T.StepWatcher.told c.settle_on.new.watcher) front J p
    c.settle_on.ensures.frames c.settle_on.ensures.rewrites c.settle_on.ensures.settles (c.settle_on.ensures.told wants) t
