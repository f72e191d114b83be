use Rattle.std.proofs.Common.{◌+◌, refl, ◌∙◌, ap}
use Rattle.std.specs.Option.{option_map}
use Rattle.mau_machine.specs.Machine.{last_in}
use Rattle.mau_machine.proofs.Branches.{at_end, nothing_left}
use Rattle.mau_machine.proofs.Advance.{solved_told, fails_told}
use Rattle.mau_machine.proofs.steps.solved.Goals as goal

pub returns-in-None-clause-goes : goal.returns-in-None-clause-goes
returns-in-None-clause-goes g c =
    let w = (g.W.World.words c.args.world.now c.args.store.now) in
    let x = c.args.condition in
    λ r b n. nothing_left w.rules (last_in w x) (x.level + n) x.condition x.at (w.bound x.binding) c.requires.asks r b
    ∙ ap (λ o. at_end w.rules (option_map (λ z. w.bound z.value) o) (w.bound x.binding) r b) c.in-None.is

pub returns-in-None-clause-known : goal.returns-in-None-clause-known
returns-in-None-clause-known g c =
    let x = c.args.condition in
    ((x.at, c.requires.binding, c.requires.asks), refl)

pub returns-in-None-clause-told : goal.returns-in-None-clause-told
returns-in-None-clause-told g c =
    let w = (g.W.World.words c.args.world.now c.args.store.now) in
    λ J r n es h. (solved_told w c.args.store.now (g.W.World.table c.args.world.now) J c.args.condition es c.requires.asks h.0, h.1)

pub returns-in-Some-clause-goes : goal.returns-in-Some-clause-goes
returns-in-Some-clause-goes g c =
    let w = (g.W.World.words c.args.world.now c.args.store.now) in
    let x = c.args.condition in
    λ r b n. nothing_left w.rules (last_in w x) (x.level + n) x.condition x.at (w.bound x.binding) c.requires.asks r b
    ∙ ap (λ o. at_end w.rules (option_map (λ z. w.bound z.value) o) (w.bound x.binding) r b) c.in-Some.is

pub returns-in-Some-clause-told : goal.returns-in-Some-clause-told
returns-in-Some-clause-told g c =
    let w = (g.W.World.words c.args.world.now c.args.store.now) in
    λ J r n es h. (fails_told w c.args.store.now (g.W.World.table c.args.world.now) J c.args.condition.condition es, tt)
