use Rattle.std.proofs.Common.{◌+◌, refl, ap}
use Rattle.mau_evaluation.specs.Run.{too_deep, gives}
use Rattle.mau_machine.specs.Words.{capped, settle_on}
use Rattle.mau_machine.specs.declared.frame.Trial.{Trial}
use Rattle.mau_machine.proofs.Following.{leads_on}
use Rattle.mau_machine.proofs.Branches.{begun, settles_to_end}
use Rattle.mau_machine.proofs.Advance.{applied_told}
use Rattle.mau_machine.proofs.steps.apply.Goals as goal

pub returns-in-Ok-clause-goes : goal.returns-in-Ok-clause-goes
returns-in-Ok-clause-goes g c =
    let w' = (g.W.World.words c.attempts.new.self c.attempts.new.store) in
    let t = w'.tree c.args.term.0 in
    let u = c.in-Ok.ensures.value in
    λ r b. leads_on w'.rules.program (λ k. settle_on w'.rules k t) (λ k. gives u.0.0) u.0.1 c.args.level b _ _
    (λ n e. ap capped (begun w'.rules (c.args.level + n) t (w'.untried c.in-Ok.attempts (c.args.level + n)) u.0.0 r b (u.1 (c.args.level + n) b) e)) (λ n e. settles_to_end w'.rules (c.args.level + n) t r b too_deep e)

pub returns-in-Ok-clause-known : goal.returns-in-Ok-clause-known
returns-in-Ok-clause-known g c =
    let k = (g.met.W.World.keeps c.args.world.now c.attempts.new.self c.args.store.now c.attempts.new.store c.attempts.ensures.grows) in
    (((k.values c.args.term.0 c.requires.value).0, c.in-Ok.ensures.known), refl)

pub returns-in-Ok-clause-told : goal.returns-in-Ok-clause-told
returns-in-Ok-clause-told g c =
    let w' = (g.W.World.words c.attempts.new.self c.attempts.new.store) in
    let x : Trial g.row.W-Attempts.Denot = record { level = c.args.level; term = c.args.term; condition = 0; attempts = c.in-Ok.attempts } in
    λ J r n es h. (applied_told w' c.attempts.new.store (g.W.World.table c.attempts.new.self) J c.args.level x es h.0, h.1)
