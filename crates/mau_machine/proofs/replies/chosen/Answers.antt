use Rattle.std.proofs.Common.{◌+◌, refl, sym, ◌∙◌, ap, subst}
use Rattle.std.specs.Prelude.{IfSome}
use Rattle.std.specs.Option.{option_map}
use Rattle.mau_evaluation.specs.Run.{counted_if}
use Rattle.mau_machine.specs.Machine.{as_answer, choose_behind}
use Rattle.mau_machine.proofs.Advance.{choice_as_own}
use Rattle.mau_machine.proofs.replies.chosen.Goals as goal

pub returns-in-None-clause-goes : goal.returns-in-None-clause-goes
returns-in-None-clause-goes g c =
    let w = (g.W.World.words c.args.world.now c.args.store.now) in
    let x = c.args.choosing in
    λ r b n. ap (λ o. as_answer (counted_if x.before (choose_behind w.rules (option_map (λ z. w.bound z.value) o) (x.level + n) x.condition x.at (w.chosen_from x.choices) (w.chosen_value x.choices) b))) c.in-None.is
    ∙ ap (λ o. as_answer (counted_if x.before o)) (sym (c.requires.unchosen (x.level + n) b))

pub returns-in-None-clause-known : goal.returns-in-None-clause-known
returns-in-None-clause-known g c =
    (c.requires.choices, refl)

pub returns-in-None-clause-told : goal.returns-in-None-clause-told
returns-in-None-clause-told g c =
    λ J r n es h. h

pub returns-in-Some-clause-goes : goal.returns-in-Some-clause-goes
returns-in-Some-clause-goes g c =
    let w = (g.W.World.words c.args.world.now c.args.store.now) in
    let x = c.args.choosing in
    λ r b n. ap (λ o. as_answer (counted_if x.before (choose_behind w.rules (option_map (λ z. w.bound z.value) o) (x.level + n) x.condition x.at (w.chosen_from x.choices) (w.chosen_value x.choices) b))) c.in-Some.is

pub returns-in-Some-clause-known : goal.returns-in-Some-clause-known
returns-in-Some-clause-known g c =
    let w = (g.W.World.words c.args.world.now c.args.store.now) in
    ((c.requires.choices, subst (λ o. IfSome o (λ z. w.knows_last z.value)) c.in-Some.is c.requires.last), refl)

pub returns-in-Some-clause-told : goal.returns-in-Some-clause-told
returns-in-Some-clause-told g c =
    let w = (g.W.World.words c.args.world.now c.args.store.now) in
    λ J r n es h. (choice_as_own w c.args.store.now (g.W.World.table c.args.world.now) J c.args.choosing c.in-Some.last es h.0, h.1)
