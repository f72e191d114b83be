use Rattle.std.proofs.Common.{None, refl, sym, subst}
use Rattle.std.specs.Prelude.{IfSome, IfNone}
use Rattle.mau_machine.specs.Words.{EndsWhere, settle_on, solve_on}
use Rattle.mau_machine.specs.Steps.{Goes}
use Rattle.mau_machine.specs.declared.frame.Condition.{Condition}
use Rattle.mau_machine.specs.declared.frame.Settled.{Settled}
use Rattle.mau_machine.specs.declared.frame.Frame.TheVariants as Waiting
use Rattle.mau_machine.specs.declared.frame.Control.TheVariants as Next
use Rattle.mau_machine.proofs.Following.{exactly, went_on, went_pushed}
use Rattle.mau_machine.proofs.Branches.{settling_asks}
use Rattle.mau_machine.proofs.Advance.{stays_same, stays_marked, readied_told, deriving_told}
use Rattle.mau_machine.proofs.Held.{held_on, held_pushed, held_later}
use Rattle.mau_machine.proofs.steps.derive.Goals as goal

pub returns-in-Ok-None-clause-goes : goal.returns-in-Ok-None-clause-goes
returns-in-Ok-None-clause-goes g c =
    let w' = (g.W.World.words c.settle.new.self c.settle.new.store) in
    went_on w' c.args.machine.now.frames.items (Next.Settle c.args.level c.args.term c.args.settling) (Next.Ready c.args.level c.args.term) c.args.machine.now.rewrites c.args.machine.now.rewrites c.args.budget.now c.args.budget.now
    (exactly w'.rules.program _ _ (λ n. refl))

pub returns-in-Ok-None-clause-known : goal.returns-in-Ok-None-clause-known
returns-in-Ok-None-clause-known g c =
    let w = (g.W.World.words c.args.world.now c.args.store.now) in
    let w' = (g.W.World.words c.settle.new.self c.settle.new.store) in
    let k = (g.met.W.World.keeps c.args.world.now c.settle.new.self c.args.store.now c.settle.new.store c.settle.ensures.grows) in
    let t = Next.Settle c.args.level c.args.term c.args.settling in
    λ asked h. held_on w' asked c.args.machine.now.frames.items t (Next.Ready c.args.level c.args.term) (held_later w w' k asked c.args.machine.now.frames.items t h)
    (subst (λ o. IfNone o (w'.knows_value c.args.term.0)) c.in-Ok-None.field-0-is c.in-Ok-None.ensures.none) refl

pub returns-in-Ok-None-clause-told : goal.returns-in-Ok-None-clause-told
returns-in-Ok-None-clause-told g c =
    let w = (g.W.World.words c.args.world.now c.args.store.now) in
    let w' = (g.W.World.words c.settle.new.self c.settle.new.store) in
    let k = (g.met.W.World.keeps c.args.world.now c.settle.new.self c.args.store.now c.settle.new.store c.settle.ensures.grows) in
    let X = g.met.W.World.extends c.args.world.now c.settle.new.self c.args.store.now c.settle.new.store c.settle.ensures.grows in
    λ wants. stays_same w w' k c.args.store.now c.settle.new.store X.0 (g.W.World.table c.args.world.now) (g.W.World.table c.settle.new.self) X.1 c.args.machine.now.frames.items (Next.Settle c.args.level c.args.term c.args.settling) (Next.Ready c.args.level c.args.term) c.args.machine.now.rewrites c.args.machine.now.rewrites (g.T.StepWatcher.told c.args.watcher.now)
    (λ J m ys h n. (readied_told w' c.settle.new.store (g.W.World.table c.settle.new.self) J c.args.level c.args.level c.args.term c.args.settling ys h, n))

pub returns-in_ok-wait-in-Ok-Some-clause-goes : goal.returns-in_ok-wait-in-Ok-Some-clause-goes
returns-in_ok-wait-in-Ok-Some-clause-goes g c =
    let w' = (g.W.World.words c.settle.new.self c.settle.new.store) in
    let R = w'.rules in
    let e = c.in-Ok-Some.condition in
    let σ = w'.bound c.in-Ok-Some.binding in
    let x : Settled g.row.W-Settling.Denot = record { level = c.args.level; term = c.args.term; condition = e; settling = c.settle.new.settling; budget = c.args.budget.now; before = c.args.machine.now.rewrites } in
    let s : Condition g.row.W-Binding.Denot = record { level = c.args.level; condition = e; at = 0; binding = c.in-Ok-Some.binding; behind = None } in
    let f = Waiting.Deriving x c.mark-mark.result in
    let asking = subst (λ o. IfSome o (λ y. w'.knows_asking c.args.term.0 y.0 (w'.bound y.1) c.settle.new.settling)) c.in-Ok-Some.field-0-is c.in-Ok-Some.ensures.asking in
    let h = subst (λ o. IfSome o (λ y. EndsWhere R.program (λ k. settle_on R k (w'.tree c.args.term.0)) (λ k. solve_on R k y.0 0 (w'.bound y.1) R.limit))) c.in-Ok-Some.field-0-is c.in-Ok-Some.ensures.ends in
    subst (λ l. Goes w' c.args.machine.now.frames.items (Next.Settle c.args.level c.args.term c.args.settling) c.args.machine.now.rewrites c.args.budget.now c.wait.new.self.frames.items (Next.Solve s) 0 l) (sym (c.limit.ensures c.settle.new.store))
    (went_pushed w' c.args.machine.now.frames.items c.wait.new.self.frames.items f (Next.Settle c.args.level c.args.term c.args.settling) (Next.Solve s) c.args.machine.now.rewrites 0 c.args.budget.now R.limit c.in_ok-wait-in-Ok-Some.ensures.frames
    ((σ, asking, exactly R.program _ _ (λ n. refl)), tt) (settling_asks R (w'.tree c.args.term.0) c.args.level c.args.machine.now.rewrites c.args.budget.now e σ h))

pub returns-in_ok-wait-in-Ok-Some-clause-known : goal.returns-in_ok-wait-in-Ok-Some-clause-known
returns-in_ok-wait-in-Ok-Some-clause-known g c =
    let w = (g.W.World.words c.args.world.now c.args.store.now) in
    let w' = (g.W.World.words c.settle.new.self c.settle.new.store) in
    let k = (g.met.W.World.keeps c.args.world.now c.settle.new.self c.args.store.now c.settle.new.store c.settle.ensures.grows) in
    let x : Settled g.row.W-Settling.Denot = record { level = c.args.level; term = c.args.term; condition = c.in-Ok-Some.condition; settling = c.settle.new.settling; budget = c.args.budget.now; before = c.args.machine.now.rewrites } in
    let s : Condition g.row.W-Binding.Denot = record { level = c.args.level; condition = c.in-Ok-Some.condition; at = 0; binding = c.in-Ok-Some.binding; behind = None } in
    let t = Next.Settle c.args.level c.args.term c.args.settling in
    let bound = subst (λ o. IfSome o (λ y. w'.knows_binding y.0 0 y.1)) c.in-Ok-Some.field-0-is c.in-Ok-Some.ensures.binding in
    λ asked h. held_pushed w' asked c.args.machine.now.frames.items c.wait.new.self.frames.items t (Next.Solve s) (Waiting.Deriving x c.mark-mark.result) c.in_ok-wait-in-Ok-Some.ensures.frames (held_later w w' k asked c.args.machine.now.frames.items t h)
    (k.terms c.args.term.0 c.requires.term).0 (bound, tt) refl refl

pub returns-in_ok-wait-in-Ok-Some-clause-told : goal.returns-in_ok-wait-in-Ok-Some-clause-told
returns-in_ok-wait-in-Ok-Some-clause-told g c =
    let w = (g.W.World.words c.args.world.now c.args.store.now) in
    let w' = (g.W.World.words c.settle.new.self c.settle.new.store) in
    let k = (g.met.W.World.keeps c.args.world.now c.settle.new.self c.args.store.now c.settle.new.store c.settle.ensures.grows) in
    let X = g.met.W.World.extends c.args.world.now c.settle.new.self c.args.store.now c.settle.new.store c.settle.ensures.grows in
    let x : Settled g.row.W-Settling.Denot = record { level = c.args.level; term = c.args.term; condition = c.in-Ok-Some.condition; settling = c.settle.new.settling; budget = c.args.budget.now; before = c.args.machine.now.rewrites } in
    let s : Condition g.row.W-Binding.Denot = record { level = c.args.level; condition = c.in-Ok-Some.condition; at = 0; binding = c.in-Ok-Some.binding; behind = None } in
    λ wants. stays_marked w w' k c.args.store.now c.settle.new.store X.0 (g.W.World.table c.args.world.now) (g.W.World.table c.settle.new.self) X.1 c.args.machine.now.frames.items c.wait.new.self.frames.items (Waiting.Deriving x c.mark-mark.result) (Next.Settle c.args.level c.args.term c.args.settling) (Next.Solve s) c.args.machine.now.rewrites 0 c.mark-mark.result (g.T.StepWatcher.told c.args.watcher.now) c.in_ok-wait-in-Ok-Some.ensures.frames (c.mark-mark.ensures wants)
    (λ n m J ys l h q. deriving_told w' c.settle.new.store (g.W.World.table c.settle.new.self) n m c.mark-mark.result c.args.level c.args.machine.now.rewrites J x c.args.settling s ys refl refl refl l h q)
