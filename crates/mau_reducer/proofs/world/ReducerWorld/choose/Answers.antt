use Rattle.std.proofs.Common.{suc, false, sym}
use Rattle.mau_reduce.proofs.DerivedKinds.{sort_table}
use Rattle.mau_machine.specs.Words.{rest_of}
use Rattle.mau_reducer.specs.Handles.{rules_of}
use Rattle.mau_reducer.specs.Worlds.{basis_of}
use Rattle.mau_reducer.specs.LaterStates.{comes_with}
use Rattle.mau_reducer.proofs.Conditions.{has_pattern, pattern_at, pattern_bare}
use Rattle.mau_reducer.proofs.Choosing.{asked_for, none_next, some_next, from_now, choice_next, known_next}
use Rattle.mau_reducer.proofs.world.ReducerWorld.choose.Goals as goal

pub unreachable-requires : goal.unreachable-requires
unreachable-requires g c = has_pattern (basis_of g.N.Natives.operators c.args.self.now) c.args.condition c.args.at c.requires.choices.asks (sym c.in-None.ensures)

pub next_choice-requires-clause-pattern : goal.next_choice-requires-clause-pattern
next_choice-requires-clause-pattern g c =
    let u = pattern_at (basis_of g.N.Natives.operators c.args.self.now) c.args.condition c.args.at c.in-Some.pattern.now (sym c.in-Some.ensures) in
    pattern_bare (basis_of g.N.Natives.operators c.args.self.now) c.args.condition c.args.at c.requires.ready.0.basis c.in-Some.pattern.now u.0 u.1

pub next_choice-requires-clause-choosing : goal.next_choice-requires-clause-choosing
next_choice-requires-clause-choosing g c =
    let u = pattern_at (basis_of g.N.Natives.operators c.args.self.now) c.args.condition c.args.at c.in-Some.pattern.now (sym c.in-Some.ensures) in
    asked_for g.L.Lister.with_context g.L.Lister.asked g.L.Lister.given g.L.Lister.is_for g.M.Lister.asked g.M.Lister.given g.M.Lister.is_for
    (basis_of g.N.Natives.operators c.args.self.now) c.args.store.now c.args.self.now.table c.args.condition c.args.at c.in-Some.pattern.now u.0 u.1 c.args.choices.now c.requires.choices

pub next_choice-requires-clause-sort_table : goal.next_choice-requires-clause-sort_table
next_choice-requires-clause-sort_table g c =
    sort_table c.args.self.now.program.now c.requires.ready.0.basis.reducible (g.N.Natives.operators c.args.self.now.natives) c.args.self.now.limit false c.args.store.now c.args.self.now.table c.requires.ready.0.derived

pub returns-in-Ok-clause-none : goal.returns-in-Ok-clause-none
returns-in-Ok-clause-none g c =
    let u = pattern_at (basis_of g.N.Natives.operators c.args.self.now) c.args.condition c.args.at c.in-Some.pattern.now (sym c.in-Some.ensures) in
    let e = c.next_choice.ensures in
    let b = (basis_of g.N.Natives.operators c.args.self.now) in
    none_next g.L.Lister.with_context g.L.Lister.asked g.L.Lister.given g.L.Lister.is_for g.M.Lister.asked g.M.Lister.given g.M.Lister.is_for
    (basis_of g.N.Natives.operators c.args.self.now) c.args.store.now c.next_choice.new.store c.args.self.now.table c.next_choice.new.table c.args.self.now.begun
    (comes_with (basis_of g.N.Natives.operators c.args.self.now) c.args.store.now c.next_choice.new.store c.args.self.now.table c.next_choice.new.table c.args.self.now.begun c.requires.ready.0 e.extends e.kept (e.derived (g.N.Natives.operators c.args.self.now.natives) c.args.self.now.limit c.requires.ready.0.derived))
    c.args.condition c.args.at c.in-Some.pattern.now u.0 u.1 c.args.choices.now c.next_choice.new.choices c.requires.choices e.binding e.value
    c.in-Ok.next c.parted.result c.parted.ensures.pairs (c.in-Ok.ensures.none b.hooks b.limit c.requires.ready.0.derived (rest_of (rules_of b) c.args.condition (suc c.args.at)))

pub returns-in-Ok-clause-some : goal.returns-in-Ok-clause-some
returns-in-Ok-clause-some g c =
    let u = pattern_at (basis_of g.N.Natives.operators c.args.self.now) c.args.condition c.args.at c.in-Some.pattern.now (sym c.in-Some.ensures) in
    let e = c.next_choice.ensures in
    let b = (basis_of g.N.Natives.operators c.args.self.now) in
    some_next g.L.Lister.with_context g.L.Lister.asked g.L.Lister.given g.L.Lister.is_for g.M.Lister.asked g.M.Lister.given g.M.Lister.is_for
    (basis_of g.N.Natives.operators c.args.self.now) c.args.store.now c.next_choice.new.store c.args.self.now.table c.next_choice.new.table c.args.self.now.begun
    (comes_with (basis_of g.N.Natives.operators c.args.self.now) c.args.store.now c.next_choice.new.store c.args.self.now.table c.next_choice.new.table c.args.self.now.begun c.requires.ready.0 e.extends e.kept (e.derived (g.N.Natives.operators c.args.self.now.natives) c.args.self.now.limit c.requires.ready.0.derived))
    c.args.condition c.args.at c.in-Some.pattern.now u.0 u.1 c.args.choices.now c.next_choice.new.choices c.requires.choices e.binding e.value
    c.in-Ok.next c.parted.result c.parted.ensures.pairs (c.in-Ok.ensures.some b.hooks b.limit c.requires.ready.0.derived (rest_of (rules_of b) c.args.condition (suc c.args.at)))

pub returns-in-Ok-clause-known : goal.returns-in-Ok-clause-known
returns-in-Ok-clause-known g c =
    let u = pattern_at (basis_of g.N.Natives.operators c.args.self.now) c.args.condition c.args.at c.in-Some.pattern.now (sym c.in-Some.ensures) in
    let e = c.next_choice.ensures in
    known_next g.L.Lister.with_context g.L.Lister.asked g.L.Lister.given g.L.Lister.is_for g.M.Lister.asked g.M.Lister.given g.M.Lister.is_for
    (basis_of g.N.Natives.operators c.args.self.now) c.args.store.now c.next_choice.new.store c.args.self.now.table c.next_choice.new.table c.args.self.now.begun
    (comes_with (basis_of g.N.Natives.operators c.args.self.now) c.args.store.now c.next_choice.new.store c.args.self.now.table c.next_choice.new.table c.args.self.now.begun c.requires.ready.0 e.extends e.kept (e.derived (g.N.Natives.operators c.args.self.now.natives) c.args.self.now.limit c.requires.ready.0.derived))
    c.args.condition c.args.at c.in-Some.pattern.now u.0 u.1 c.args.choices.now c.next_choice.new.choices c.requires.choices e.binding e.value
    c.in-Ok.next c.parted.result c.parted.ensures.pairs c.parted.ensures.one_each c.in-Ok.ensures.values c.in-Ok.ensures.variables c.in-Ok.ensures.choosing

pub returns-in-Ok-clause-begun : goal.returns-in-Ok-clause-begun
returns-in-Ok-clause-begun g c =
    let u = pattern_at (basis_of g.N.Natives.operators c.args.self.now) c.args.condition c.args.at c.in-Some.pattern.now (sym c.in-Some.ensures) in
    let e = c.next_choice.ensures in
    from_now g.L.Lister.with_context g.L.Lister.asked g.L.Lister.given g.L.Lister.is_for g.M.Lister.asked g.M.Lister.given g.M.Lister.is_for
    (basis_of g.N.Natives.operators c.args.self.now) c.args.store.now c.next_choice.new.store c.args.self.now.table c.next_choice.new.table c.args.self.now.begun
    (comes_with (basis_of g.N.Natives.operators c.args.self.now) c.args.store.now c.next_choice.new.store c.args.self.now.table c.next_choice.new.table c.args.self.now.begun c.requires.ready.0 e.extends e.kept (e.derived (g.N.Natives.operators c.args.self.now.natives) c.args.self.now.limit c.requires.ready.0.derived))
    c.args.condition c.args.at c.in-Some.pattern.now u.0 u.1 c.args.choices.now c.next_choice.new.choices c.requires.choices e.binding e.value
    c.parted.result

pub returns-in-Ok-clause-solves : goal.returns-in-Ok-clause-solves
returns-in-Ok-clause-solves g c =
    let u = pattern_at (basis_of g.N.Natives.operators c.args.self.now) c.args.condition c.args.at c.in-Some.pattern.now (sym c.in-Some.ensures) in
    let e = c.next_choice.ensures in
    choice_next g.L.Lister.with_context g.L.Lister.asked g.L.Lister.given g.L.Lister.is_for g.M.Lister.asked g.M.Lister.given g.M.Lister.is_for
    (basis_of g.N.Natives.operators c.args.self.now) c.args.store.now c.next_choice.new.store c.args.self.now.table c.next_choice.new.table c.args.self.now.begun
    (comes_with (basis_of g.N.Natives.operators c.args.self.now) c.args.store.now c.next_choice.new.store c.args.self.now.table c.next_choice.new.table c.args.self.now.begun c.requires.ready.0 e.extends e.kept (e.derived (g.N.Natives.operators c.args.self.now.natives) c.args.self.now.limit c.requires.ready.0.derived))
    c.args.condition c.args.at c.in-Some.pattern.now u.0 u.1 c.args.choices.now c.next_choice.new.choices c.requires.choices e.binding e.value
    c.in-Ok.next c.parted.result c.parted.ensures.pairs c.in-Ok.ensures.extension c.in-Ok.ensures.solves

pub returns-in-Ok-clause-grows : goal.returns-in-Ok-clause-grows
returns-in-Ok-clause-grows g c =
    let e = c.next_choice.ensures in
    comes_with (basis_of g.N.Natives.operators c.args.self.now) c.args.store.now c.next_choice.new.store c.args.self.now.table c.next_choice.new.table c.args.self.now.begun c.requires.ready.0 e.extends e.kept
    (e.derived (g.N.Natives.operators c.args.self.now.natives) c.args.self.now.limit c.requires.ready.0.derived)

pub returns-in-Err-clause-grows : goal.returns-in-Err-clause-grows
returns-in-Err-clause-grows g c =
    let e = c.next_choice.ensures in
    comes_with (basis_of g.N.Natives.operators c.args.self.now) c.args.store.now c.next_choice.new.store c.args.self.now.table c.next_choice.new.table c.args.self.now.begun c.requires.ready.0 e.extends e.kept
    (e.derived (g.N.Natives.operators c.args.self.now.natives) c.args.self.now.limit c.requires.ready.0.derived)
