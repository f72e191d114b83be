use Rattle.std.proofs.Common.{◌+◌, None, refl, ap, subst}
use Rattle.std.specs.Prelude.{IfSome, IfNone}
use Rattle.std.specs.Option.{option_map}
use Rattle.mau_evaluation.specs.Run.{too_deep, or_go_on, try_on, gives}
use Rattle.mau_machine.specs.Words.{capped, LeadsTo, IsKnownBy, solve_on}
use Rattle.mau_machine.specs.declared.frame.Condition.{Condition}
use Rattle.mau_machine.specs.declared.frame.Frame.TheVariants as Waiting
use Rattle.mau_machine.specs.declared.frame.Control.TheVariants as Next
use Rattle.mau_machine.proofs.Following.{leads_on, ends_lead, ends_through, went_on, went_pushed}
use Rattle.mau_machine.proofs.Branches.{one_tried, none_tried, tried_ends}
use Rattle.mau_machine.proofs.Advance.{stays_same, stays_marked, valued_told, trying_told}
use Rattle.mau_machine.proofs.Held.{held_on, held_pushed, held_later}
use Rattle.mau_machine.proofs.steps.attempt.Goals as goal

pub returns-in-Ok-None-clause-known : goal.returns-in-Ok-None-clause-known
returns-in-Ok-None-clause-known g c =
    let w = (g.W.World.words c.args.world.now c.args.store.now) in
    let w' = (g.W.World.words c.attempt.new.self c.attempt.new.store) in
    let k = (g.met.W.World.keeps c.args.world.now c.attempt.new.self c.args.store.now c.attempt.new.store c.attempt.ensures.grows) in
    λ asked h. held_on w' asked c.args.machine.now.frames.items (Next.Attempt c.args.trial) (Next.Value c.args.trial.term) (held_later w w' k asked c.args.machine.now.frames.items (Next.Attempt c.args.trial) h) (k.values c.args.trial.term.0 c.requires.value).0 refl

pub returns-in_ok-wait-in-Ok-Some-clause-goes : goal.returns-in_ok-wait-in-Ok-Some-clause-goes
returns-in_ok-wait-in-Ok-Some-clause-goes g c =
    let w = (g.W.World.words c.args.world.now c.args.store.now) in
    let w' = (g.W.World.words c.attempt.new.self c.attempt.new.store) in
    let k = (g.met.W.World.keeps c.args.world.now c.attempt.new.self c.args.store.now c.attempt.new.store c.attempt.ensures.grows) in
    let x = (record c.args.trial { condition = c.in-Ok-Some.condition; attempts = c.attempt.new.attempts }) in
    let s : Condition g.row.W-Binding.Denot = (record { level = c.args.trial.level; condition = c.in-Ok-Some.condition; at = 0; binding = c.in-Ok-Some.binding; behind = None }) in
    let f = Waiting.Trying x c.args.machine.now.rewrites c.mark-mark.result in
    let P = w'.rules.program in
    let h = subst (λ o. IfSome o (λ y. LeadsTo P (w'.untried c.args.trial.attempts) (λ k b. or_go_on (w'.untried x.attempts k) (try_on (λ σ. gives (option_map (w'.makes x.attempts) σ)) (solve_on w'.rules k y.0 0 (w'.bound y.1) b)))))
    c.in-Ok-Some.field-0-is c.in-Ok-Some.ensures.some in
    λ b. went_pushed w' c.args.machine.now.frames.items c.wait.new.self.frames.items f (Next.Attempt c.args.trial) (Next.Solve s) c.args.machine.now.rewrites 0 b b c.in_ok-wait-in-Ok-Some.ensures.frames tt
    (leads_on P (w'.untried c.args.trial.attempts) (λ k b. or_go_on (w'.untried x.attempts k) (try_on (λ σ. gives (option_map (w'.makes x.attempts) σ)) (solve_on w'.rules k x.condition 0 (w'.bound s.binding) b))) h x.level b _ _
    (λ n e. ap capped (one_tried w'.rules (x.level + n) (w'.tree x.term.0) (w'.untried c.args.trial.attempts (x.level + n)) (w'.untried x.attempts (x.level + n)) (w'.makes x.attempts) c.args.machine.now.rewrites b (solve_on w'.rules (x.level + n) x.condition 0 (w'.bound s.binding) b) e))
    (λ n e. tried_ends w'.rules (x.level + n) (w'.tree x.term.0) (w'.untried c.args.trial.attempts (x.level + n)) c.args.machine.now.rewrites b too_deep e))

pub returns-in-Ok-None-clause-goes : goal.returns-in-Ok-None-clause-goes
returns-in-Ok-None-clause-goes g c =
    let w' = (g.W.World.words c.attempt.new.self c.attempt.new.store) in
    let x = c.args.trial in
    let P = w'.rules.program in
    let h = subst (λ o. IfNone o (IsKnownBy P (w'.untried x.attempts) None)) c.in-Ok-None.field-0-is c.in-Ok-None.ensures.none in
    λ b. went_on w' c.args.machine.now.frames.items (Next.Attempt x) (Next.Value x.term) c.args.machine.now.rewrites c.args.machine.now.rewrites b b
    (leads_on P (w'.untried x.attempts) (λ k. gives None) h x.level b _ _
    (λ n e. ap capped (none_tried w'.rules (x.level + n) (w'.tree x.term.0) (w'.untried x.attempts (x.level + n)) c.args.machine.now.rewrites b e))
    (λ n e. tried_ends w'.rules (x.level + n) (w'.tree x.term.0) (w'.untried x.attempts (x.level + n)) c.args.machine.now.rewrites b too_deep e))

pub returns-in_ok-wait-in-Ok-Some-clause-known : goal.returns-in_ok-wait-in-Ok-Some-clause-known
returns-in_ok-wait-in-Ok-Some-clause-known g c =
    let w = (g.W.World.words c.args.world.now c.args.store.now) in
    let w' = (g.W.World.words c.attempt.new.self c.attempt.new.store) in
    let k = (g.met.W.World.keeps c.args.world.now c.attempt.new.self c.args.store.now c.attempt.new.store c.attempt.ensures.grows) in
    let x = (record c.args.trial { condition = c.in-Ok-Some.condition; attempts = c.attempt.new.attempts }) in
    let s : Condition g.row.W-Binding.Denot = (record { level = c.args.trial.level; condition = c.in-Ok-Some.condition; at = 0; binding = c.in-Ok-Some.binding; behind = None }) in
    let f = Waiting.Trying x c.args.machine.now.rewrites c.mark-mark.result in
    let q = subst (λ o. IfSome o (λ y. w'.knows_attempts x.term.0 x.attempts × w'.knows_candidate x.term.0 y.0 x.attempts × w'.knows_binding y.0 0 y.1)) c.in-Ok-Some.field-0-is c.in-Ok-Some.ensures.known in
    λ asked h. held_pushed w' asked c.args.machine.now.frames.items c.wait.new.self.frames.items (Next.Attempt c.args.trial) (Next.Solve s) f c.in_ok-wait-in-Ok-Some.ensures.frames (held_later w w' k asked c.args.machine.now.frames.items (Next.Attempt c.args.trial) h)
    ((k.values c.args.trial.term.0 c.requires.value).0, q.0, q.1) (q.2, tt) refl refl

pub returns-in-Err-clause-ends : goal.returns-in-Err-clause-ends
returns-in-Err-clause-ends g c =
    let w = (g.W.World.words c.args.world.now c.args.store.now) in
    let w' = (g.W.World.words c.attempt.new.self c.attempt.new.store) in
    let k = (g.met.W.World.keeps c.args.world.now c.attempt.new.self c.args.store.now c.attempt.new.store c.attempt.ensures.grows) in
    let x = c.args.trial in
    λ b. ends_through w' c.args.machine.now.frames.items _ c.in-Err.end (ends_lead w'.rules.program (w'.untried x.attempts) c.in-Err.end c.in-Err.ensures.ends x.level b _
    (λ n d e. tried_ends w'.rules (x.level + n) (w'.tree x.term.0) (w'.untried x.attempts (x.level + n)) c.args.machine.now.rewrites b d e))

pub returns-in-Ok-None-clause-told : goal.returns-in-Ok-None-clause-told
returns-in-Ok-None-clause-told g c =
    let w = (g.W.World.words c.args.world.now c.args.store.now) in
    let w' = (g.W.World.words c.attempt.new.self c.attempt.new.store) in
    let k = (g.met.W.World.keeps c.args.world.now c.attempt.new.self c.args.store.now c.attempt.new.store c.attempt.ensures.grows) in
    let X = g.met.W.World.extends c.args.world.now c.attempt.new.self c.args.store.now c.attempt.new.store c.attempt.ensures.grows in
    λ wants. stays_same w w' k c.args.store.now c.attempt.new.store X.0 (g.W.World.table c.args.world.now) (g.W.World.table c.attempt.new.self) X.1 c.args.machine.now.frames.items (Next.Attempt c.args.trial) (Next.Value c.args.trial.term) c.args.machine.now.rewrites c.args.machine.now.rewrites (g.T.StepWatcher.told c.args.watcher.now) (λ J m ys h n. (valued_told w' c.attempt.new.store (g.W.World.table c.attempt.new.self) J c.args.trial ys h, n))

pub returns-in_ok-wait-in-Ok-Some-clause-told : goal.returns-in_ok-wait-in-Ok-Some-clause-told
returns-in_ok-wait-in-Ok-Some-clause-told g c =
    let w = (g.W.World.words c.args.world.now c.args.store.now) in
    let w' = (g.W.World.words c.attempt.new.self c.attempt.new.store) in
    let k = (g.met.W.World.keeps c.args.world.now c.attempt.new.self c.args.store.now c.attempt.new.store c.attempt.ensures.grows) in
    let X = g.met.W.World.extends c.args.world.now c.attempt.new.self c.args.store.now c.attempt.new.store c.attempt.ensures.grows in
    let x = (record c.args.trial { condition = c.in-Ok-Some.condition; attempts = c.attempt.new.attempts }) in
    let s : Condition g.row.W-Binding.Denot = (record { level = c.args.trial.level; condition = c.in-Ok-Some.condition; at = 0; binding = c.in-Ok-Some.binding; behind = None }) in
    let f = Waiting.Trying x c.args.machine.now.rewrites c.mark-mark.result in
    λ wants. stays_marked w w' k c.args.store.now c.attempt.new.store X.0 (g.W.World.table c.args.world.now) (g.W.World.table c.attempt.new.self) X.1 c.args.machine.now.frames.items c.wait.new.self.frames.items f (Next.Attempt c.args.trial) (Next.Solve s) c.args.machine.now.rewrites 0 c.mark-mark.result (g.T.StepWatcher.told c.args.watcher.now) c.in_ok-wait-in-Ok-Some.ensures.frames (c.mark-mark.ensures wants)
    (λ n m J ys l h q. trying_told w' c.attempt.new.store (g.W.World.table c.attempt.new.self) n m c.mark-mark.result c.args.machine.now.rewrites J c.args.trial x s ys refl refl refl l h q)
