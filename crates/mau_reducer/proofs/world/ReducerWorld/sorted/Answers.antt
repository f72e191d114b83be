use Rattle.std.proofs.Common.{sym}
use Rattle.mau_reducer.specs.Worlds.{basis_of}
use Rattle.mau_reducer.proofs.Conditions.{has_sort_there, sort_at, sort_is, sort_over}
use Rattle.mau_reducer.proofs.Sides.{value_settled, sort_tested, sort_entered}
use Rattle.mau_reducer.proofs.world.ReducerWorld.sorted.Goals as goal

pub has-requires-clause-sort : goal.has-requires-clause-sort
has-requires-clause-sort g c =
    sort_over (basis_of g.N.Natives.operators c.args.self.now) c.args.condition c.args.at c.requires.ready.0.basis c.in-Some.sort (sym c.in-Some.ensures)

pub returns-clause-value : goal.returns-clause-value
returns-clause-value g c =
    let b = basis_of g.N.Natives.operators c.args.self.now in
    let t = sort_at b c.args.condition c.args.at c.in-Some.sort (sym c.in-Some.ensures) in
    sort_tested b c.requires.ready.0.basis c.args.store.now c.args.self.now.table c.requires.ready.0.derived c.len-nodes.ensures.nodes c.args.value.0 c.requires.value
    c.args.condition c.args.at c.in-Some.sort (sort_is b c.args.condition c.args.at t.0 c.in-Some.sort t.1) c.in-Some-has.has c.in-Some-has.ensures.value

pub returns-clause-entry : goal.returns-clause-entry
returns-clause-entry g c =
    let b = basis_of g.N.Natives.operators c.args.self.now in
    let t = sort_at b c.args.condition c.args.at c.in-Some.sort (sym c.in-Some.ensures) in
    sort_entered b c.requires.ready.0.basis c.args.store.now c.args.self.now.table c.requires.ready.0.derived c.len-nodes.ensures.nodes c.args.value.0 c.requires.value
    c.args.condition c.args.at c.in-Some.sort (sort_is b c.args.condition c.args.at t.0 c.in-Some.sort t.1) c.in-Some-has.has c.in-Some-has.ensures.value

pub unreachable-requires : goal.unreachable-requires
unreachable-requires g c =
    c.in-None-has.ensures.none (value_settled (basis_of g.N.Natives.operators c.args.self.now) c.requires.ready.0.basis c.args.store.now c.args.self.now.table c.requires.ready.0.derived c.len-nodes.ensures.nodes c.args.value.0 c.requires.value)

pub unreachable-requires-in-None : goal.unreachable-requires-in-None
unreachable-requires-in-None g c = has_sort_there (basis_of g.N.Natives.operators c.args.self.now) c.args.condition c.args.at c.requires.asks (sym c.in-None.ensures)
