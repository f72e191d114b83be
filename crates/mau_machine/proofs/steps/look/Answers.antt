use Rattle.std.proofs.Common.{refl}
use Rattle.mau_machine.proofs.Following.{exactly}
use Rattle.mau_machine.proofs.Advance.{looked_told}
use Rattle.mau_machine.proofs.steps.look.Goals as goal

pub returns-in-Ok-clause-goes : goal.returns-in-Ok-clause-goes
returns-in-Ok-clause-goes g c =
    let w' = (g.W.World.words c.settling.new.self c.settling.new.store) in
    λ r b. exactly w'.rules.program _ _ (λ n. refl)

pub returns-in-Ok-clause-known : goal.returns-in-Ok-clause-known
returns-in-Ok-clause-known g c =
    let k = (g.met.W.World.keeps c.args.world.now c.settling.new.self c.args.store.now c.settling.new.store c.settling.ensures.grows) in
    (((k.terms c.args.term.0 c.requires.term).0, c.in-Ok.ensures.known), refl)

pub returns-in-Ok-clause-told : goal.returns-in-Ok-clause-told
returns-in-Ok-clause-told g c =
    let w' = (g.W.World.words c.settling.new.self c.settling.new.store) in
    λ J r n es h. (looked_told w' c.settling.new.store (g.W.World.table c.settling.new.self) J c.args.level c.args.level c.args.term c.in-Ok.settling es h.0, h.1)
