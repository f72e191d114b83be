use Rattle.std.proofs.Common.{◌≡◌, None, IsSome, Ok, refl, ap, ◌∙◌, rules}
use Rattle.mau_stratrun.proofs.Asking.{asked_one, asked_none, asked_end}
use Rattle.mau_stratrun.proofs.cursor.ask.Goals as goal

pub returns-then-is_some-clause-asked : goal.returns-then-is_some-clause-asked
returns-then-is_some-clause-asked g c forms i h k = let some : IsSome c.args.kept.now.pending = search rules in (k, some, refl, refl)

pub returns-in-Ok-Some-clause-asked : goal.returns-in-Ok-Some-clause-asked
returns-in-Ok-Some-clause-asked g c forms i h k =
    let none : c.args.kept.now.pending ≡ None = search rules in
    (asked_one (g.X.Leaves.world c.args.leaves.now) (g.X.Leaves.world c.next.new.self) c.next.ensures.grows (g.met.X.Leaves.laws c.args.leaves.now c.requires.ready) (g.met.X.Leaves.laws c.next.new.self c.next.ensures.ready) forms i c.args.kept.now h k none c.next.new.cursor c.next.result c.next.ensures.next c.in-Ok-Some.yielded (c.in-Ok-Some.is ∙ ap Ok c.in-Ok-Some.field-0-is), refl, refl, refl)

pub returns-in-Ok-None-clause-asked : goal.returns-in-Ok-None-clause-asked
returns-in-Ok-None-clause-asked g c forms i h k =
    let none : c.args.kept.now.pending ≡ None = search rules in
    asked_none (g.X.Leaves.world c.args.leaves.now) (g.X.Leaves.world c.next.new.self) c.next.ensures.grows (g.met.X.Leaves.laws c.args.leaves.now c.requires.ready) (g.met.X.Leaves.laws c.next.new.self c.next.ensures.ready) forms i c.args.kept.now h k none c.next.new.cursor c.next.result c.next.ensures.next (c.in-Ok-None.is ∙ ap Ok c.in-Ok-None.field-0-is)

pub returns-in-Err-clause-asked : goal.returns-in-Err-clause-asked
returns-in-Err-clause-asked g c forms i h k =
    let none : c.args.kept.now.pending ≡ None = search rules in
    let m = asked_end (g.X.Leaves.world c.args.leaves.now) (g.X.Leaves.world c.next.new.self) c.next.ensures.grows (g.met.X.Leaves.laws c.args.leaves.now c.requires.ready) (g.met.X.Leaves.laws c.next.new.self c.next.ensures.ready) forms i c.args.kept.now h k none c.next.new.cursor c.next.result c.next.ensures.next c.in-Err.end c.in-Err.is in
    (m.0, refl, refl, m.1, m.2)
