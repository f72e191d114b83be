use Rattle.std.proofs.Common.{false, Ok, Err}
use Rattle.mau_reduce.proofs.DerivedKinds.{sort_table}
use Rattle.mau_reducer.specs.Worlds.{basis_of}
use Rattle.mau_reducer.specs.LaterStates.{comes_with}
use Rattle.mau_reducer.proofs.Attempted.{none, some, ends, all_known}
use Rattle.mau_reducer.proofs.world.ReducerWorld.attempt.Goals as goal

pub next_attempt-requires-clause-compiled : goal.next_attempt-requires-clause-compiled
next_attempt-requires-clause-compiled g c = c.requires.ready.0.basis.compiled

pub next_attempt-requires-clause-sort_table : goal.next_attempt-requires-clause-sort_table
next_attempt-requires-clause-sort_table g c =
    sort_table c.args.self.now.program.now c.requires.ready.0.basis.reducible (g.N.Natives.operators c.args.self.now.natives) c.args.self.now.limit false c.args.store.now c.args.self.now.table c.requires.ready.0.derived

pub returns-in-Ok-clause-none : goal.returns-in-Ok-clause-none
returns-in-Ok-clause-none g c =
    let b = basis_of g.N.Natives.operators c.args.self.now in
    let e = c.next_attempt.ensures in
    none g.L.Lister.with_context g.L.Lister.asked g.L.Lister.given g.L.Lister.is_for g.M.Lister.asked g.M.Lister.given g.M.Lister.is_for b c.requires.ready.0.basis c.args.store.now c.next_attempt.new.store c.args.self.now.table c.next_attempt.new.table
    c.args.self.now.begun (comes_with b c.args.store.now c.next_attempt.new.store c.args.self.now.table c.next_attempt.new.table c.args.self.now.begun c.requires.ready.0 e.extends e.kept (e.derived b.hooks b.limit c.requires.ready.0.derived))
    c.args.term.0 c.requires.term.known.term c.args.attempts.now c.requires.attempts
    (Ok c.in-Ok.next) (rw (← c.deref_mut.ensures.value) (c.in-Ok.ensures.none b.hooks b.limit c.requires.ready.0.derived))

pub returns-in-Ok-clause-some : goal.returns-in-Ok-clause-some
returns-in-Ok-clause-some g c =
    let b = basis_of g.N.Natives.operators c.args.self.now in
    let e = c.next_attempt.ensures in
    some g.L.Lister.with_context g.L.Lister.asked g.L.Lister.given g.L.Lister.is_for g.M.Lister.asked g.M.Lister.given g.M.Lister.is_for b c.requires.ready.0.basis c.args.store.now c.next_attempt.new.store c.args.self.now.table c.next_attempt.new.table
    c.args.self.now.begun (comes_with b c.args.store.now c.next_attempt.new.store c.args.self.now.table c.next_attempt.new.table c.args.self.now.begun c.requires.ready.0 e.extends e.kept (e.derived b.hooks b.limit c.requires.ready.0.derived))
    c.args.term.0 c.requires.term.known.term c.args.attempts.now c.requires.attempts
    (record { term = c.args.attempts.now.term; attempts = record c.args.attempts.now.attempts { value = c.next_attempt.new.attempts } }) c.requires.attempts.own (Ok c.in-Ok.next) c.in-Ok.ensures.last
    (rw (← c.deref_mut.ensures.value) (c.in-Ok.ensures.some b.hooks b.limit c.requires.ready.0.derived))

pub returns-in-Ok-clause-known : goal.returns-in-Ok-clause-known
returns-in-Ok-clause-known g c =
    let b = basis_of g.N.Natives.operators c.args.self.now in
    let e = c.next_attempt.ensures in
    let o = c.in-Ok.ensures in
    all_known g.L.Lister.with_context g.L.Lister.asked g.L.Lister.given g.L.Lister.is_for g.M.Lister.asked g.M.Lister.given g.M.Lister.is_for b c.requires.ready.0.basis c.args.store.now c.next_attempt.new.store c.args.self.now.table c.next_attempt.new.table
    c.args.self.now.begun (comes_with b c.args.store.now c.next_attempt.new.store c.args.self.now.table c.next_attempt.new.table c.args.self.now.begun c.requires.ready.0 e.extends e.kept (e.derived b.hooks b.limit c.requires.ready.0.derived))
    c.args.term.0 c.requires.term.known.term c.args.attempts.now c.requires.attempts
    (record { term = c.args.attempts.now.term; attempts = record c.args.attempts.now.attempts { value = c.next_attempt.new.attempts } }) c.requires.attempts.own (rw (← c.deref_mut.ensures.value) e.given) (Ok c.in-Ok.next) o.values o.last o.listed o.variables o.sorts o.tried

pub returns-in-Ok-clause-grows : goal.returns-in-Ok-clause-grows
returns-in-Ok-clause-grows g c =
    let b = basis_of g.N.Natives.operators c.args.self.now in
    let e = c.next_attempt.ensures in
    comes_with b c.args.store.now c.next_attempt.new.store c.args.self.now.table c.next_attempt.new.table c.args.self.now.begun c.requires.ready.0 e.extends e.kept (e.derived b.hooks b.limit c.requires.ready.0.derived)

pub returns-in-Err-clause-ends : goal.returns-in-Err-clause-ends
returns-in-Err-clause-ends g c =
    let b = basis_of g.N.Natives.operators c.args.self.now in
    let e = c.next_attempt.ensures in
    ends g.L.Lister.with_context g.L.Lister.asked g.L.Lister.given g.L.Lister.is_for g.M.Lister.asked g.M.Lister.given g.M.Lister.is_for b c.requires.ready.0.basis c.args.store.now c.next_attempt.new.store c.args.self.now.table c.next_attempt.new.table
    c.args.self.now.begun (comes_with b c.args.store.now c.next_attempt.new.store c.args.self.now.table c.next_attempt.new.table c.args.self.now.begun c.requires.ready.0 e.extends e.kept (e.derived b.hooks b.limit c.requires.ready.0.derived))
    c.args.term.0 c.requires.term.known.term c.args.attempts.now c.requires.attempts
    (Err c.in-Err.end) (λ k n. rw (← c.deref_mut.ensures.value) (c.in-Err.ensures.ends b.hooks b.limit k n))

pub returns-in-Err-clause-grows : goal.returns-in-Err-clause-grows
returns-in-Err-clause-grows g c =
    let b = basis_of g.N.Natives.operators c.args.self.now in
    let e = c.next_attempt.ensures in
    comes_with b c.args.store.now c.next_attempt.new.store c.args.self.now.table c.next_attempt.new.table c.args.self.now.begun c.requires.ready.0 e.extends e.kept (e.derived b.hooks b.limit c.requires.ready.0.derived)
