use Rattle.std.proofs.Common.{Option, None, Result, sym, subst}
use Rattle.mau_api.specs.Programs.{program_over}
use Rattle.mau_stratrun.specs.declared.leaves.Yielded.{Yielded}
use Rattle.mau_stratrun.specs.declared.leaves.LeafEnd.{LeafEnd}
use Rattle.mau_stratrun.specs.Worlds.{IsNextYield}
use Rattle.mau_leaves.specs.Tests.{left_of_test}
use Rattle.mau_leaves.specs.Follows.{IsNextGiven}
use Rattle.mau_leaves.specs.Cursors.{fixed_of, world_of}
use Rattle.mau_leaves.specs.declared.cursor.LeafCursor.TheVariants.{Test}
use Rattle.mau_leaves.proofs.Follows.{follow}
use Rattle.mau_leaves.proofs.Cursors.{test_yields}
use Rattle.mau_leaves.proofs.cursor.next_of_test.Goals as goal

pub next_test-found-requires-clause-test : goal.next_test-found-requires-clause-test
next_test-found-requires-clause-test g c = c.requires.yields.3.test

pub returns-clause-next : goal.returns-clause-next
returns-clause-next g c = λ d t ys h.
    let m = g.E.Evaluator.meanings c.args.evaluator.now in
    let p = c.args.program.now in
    let leaves = c.args.leaves.now in
    let old = c.args.store.now in
    let new = c.next_test-found.new.store in
    let after = g.E.Evaluator.table c.next_test-found.new.evaluator in
    let s = c.next_test-found.new.test in
    let P = program_over p m.hooks in
    let r = c.next_test-found.result in
    let left = left_of_test g.L.Lister.asked g.L.Lister.given p m.hooks in
    let next = follow P c.args.limit (fixed_of p m leaves).definitions d h.form t h.results (left old c.args.test.now) (left new s) h.rest new r c.next_test-found.ensures.next in
    let own = subst (λ b. IsNextGiven P b (fixed_of p m leaves).definitions d t h.results (left new s) new r) c.requires.limit next in
    subst (λ (y : Result (Option Yielded) LeafEnd). IsNextYield (world_of g.L.Lister.asked g.L.Lister.given g.L.Lister.is_for g.L.Lister.with_context p m leaves new after) (Test s) d t ys y) (sym c.yielded.ensures)
    (test_yields g.L.Lister.asked g.L.Lister.given g.L.Lister.is_for g.L.Lister.with_context p m leaves new after None d t h.results ys h.yielded s h.form c.next_test-found.ensures.test r c.next_test-found.ensures.itself own)
