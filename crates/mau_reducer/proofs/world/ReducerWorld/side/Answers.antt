use Rattle.std.proofs.Common.{sym}
use Rattle.mau_reducer.specs.Worlds.{basis_of}
use Rattle.mau_reducer.specs.LaterStates.{store_grown}
use Rattle.mau_reducer.proofs.Conditions.{has_side, side_is, side_bare}
use Rattle.mau_reducer.proofs.Sides.{side_value, side_ends, side_built, side_known}
use Rattle.mau_reducer.proofs.world.ReducerWorld.side.Goals as goal

pub unreachable-requires : goal.unreachable-requires
unreachable-requires g c = has_side (basis_of g.N.Natives.operators c.args.self.now) c.args.condition c.args.at c.args.right c.requires.side (sym c.in-None.ensures)

pub instance-requires-clause-bare : goal.instance-requires-clause-bare
instance-requires-clause-bare g c = side_bare (basis_of g.N.Natives.operators c.args.self.now) c.args.condition c.args.at c.requires.ready.0.basis c.args.right c.in-Some.side.now (sym c.in-Some.ensures)

pub returns-clause-value : goal.returns-clause-value
returns-clause-value g c = λ k n.
    let b = basis_of g.N.Natives.operators c.args.self.now in
    side_value b c.requires.ready.0.basis.reducible.lawful c.args.store.now c.instance.new.store c.instance.ensures.extends c.args.self.now.table c.args.condition c.args.at c.args.binding.now c.requires.binding
    c.args.right c.in-Some.side.now (side_is b c.args.condition c.args.at c.args.right c.in-Some.side.now (sym c.in-Some.ensures) c.requires.side) c.instance.result c.instance.ensures.value k n

pub returns-clause-ends : goal.returns-clause-ends
returns-clause-ends g c = λ k n.
    let b = basis_of g.N.Natives.operators c.args.self.now in
    side_ends b c.requires.ready.0.basis.reducible.lawful c.args.store.now c.instance.new.store c.instance.ensures.extends c.args.self.now.table c.args.condition c.args.at c.args.binding.now c.requires.binding
    c.args.right c.in-Some.side.now (side_is b c.args.condition c.args.at c.args.right c.in-Some.side.now (sym c.in-Some.ensures) c.requires.side) c.instance.result c.instance.ensures.ends k n

pub returns-clause-is : goal.returns-clause-is
returns-clause-is g c =
    let b = basis_of g.N.Natives.operators c.args.self.now in
    side_built b c.requires.ready.0.basis.reducible.lawful c.args.store.now c.instance.new.store c.instance.ensures.extends c.args.self.now.table c.args.condition c.args.at c.args.binding.now c.requires.binding
    c.args.right c.in-Some.side.now (side_is b c.args.condition c.args.at c.args.right c.in-Some.side.now (sym c.in-Some.ensures) c.requires.side) c.instance.result c.instance.ensures.value

pub returns-clause-known : goal.returns-clause-known
returns-clause-known g c =
    let b = basis_of g.N.Natives.operators c.args.self.now in
    let bare = side_bare b c.args.condition c.args.at c.requires.ready.0.basis c.args.right c.in-Some.side.now (sym c.in-Some.ensures) in
    side_known b c.requires.ready.0.basis.reducible.lawful c.args.store.now c.instance.new.store c.instance.ensures.extends c.args.self.now.table c.args.condition c.args.at c.args.binding.now c.requires.binding
    c.args.right c.in-Some.side.now (side_is b c.args.condition c.args.at c.args.right c.in-Some.side.now (sym c.in-Some.ensures) c.requires.side) bare.0 c.instance.result
    (c.instance.ensures.kind bare.0 bare.1)

pub returns-clause-grows : goal.returns-clause-grows
returns-clause-grows g c =
    store_grown (basis_of g.N.Natives.operators c.args.self.now) c.args.store.now c.instance.new.store c.args.self.now.table c.args.self.now.begun c.instance.ensures.extends c.requires.ready.0
