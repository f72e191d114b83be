use Rattle.std.proofs.Common.{sym, subst}
use Rattle.mau_api.specs.Meanings.{Meanings}
use Rattle.mau_stratrun.specs.Worlds.{LeavesGrow, IsNextYield}
use Rattle.mau_leaves.specs.Cursors.{world_of}
use Rattle.mau_leaves.proofs.Tables.{over_of}
use Rattle.mau_leaves.proofs.Cursors.{world_grown}
use Rattle.mau_leaves.proofs.cursor.RunLeavesLeaves.next.Goals as goal

pub returns-clause-next : goal.returns-clause-next
returns-clause-next g c = λ d t ys y.
    let r = c.args.self.now in
    let n = c.next_of-found.new in
    subst (λ (m : Meanings). IsNextYield (world_of g.L.Lister.asked g.L.Lister.given g.L.Lister.is_for g.L.Lister.with_context r.program.now m r.leaves.now n.store (g.E.Evaluator.table n.evaluator)) n.cursor d t ys c.next_of-found.result)
    (sym c.next_of-found.ensures.meanings) (c.next_of-found.ensures.next d t ys y)

pub returns-clause-grows : goal.returns-clause-grows
returns-clause-grows g c =
    let r = c.args.self.now in
    let n = c.next_of-found.new in
    let p = r.program.now in
    let m = g.E.Evaluator.meanings r.evaluator in
    let ready = c.requires.ready.0 in
    let over = over_of p m (g.E.Evaluator.meanings n.evaluator) c.next_of-found.ensures.meanings ready.goes_by.program n.store (g.E.Evaluator.table n.evaluator) (g.met.E.Evaluator.derived n.evaluator n.store c.next_of-found.ensures.fits) in
    subst (λ (k : Meanings). LeavesGrow (world_of g.L.Lister.asked g.L.Lister.given g.L.Lister.is_for g.L.Lister.with_context p m r.leaves.now r.store (g.E.Evaluator.table r.evaluator))
    (world_of g.L.Lister.asked g.L.Lister.given g.L.Lister.is_for g.L.Lister.with_context p k r.leaves.now n.store (g.E.Evaluator.table n.evaluator))) (sym c.next_of-found.ensures.meanings)
    (world_grown g.L.Lister.asked g.L.Lister.given g.L.Lister.is_for g.L.Lister.with_context p m r.leaves.now ready.runnable ready.goes_by r.store n.store (g.E.Evaluator.table r.evaluator) (g.E.Evaluator.table n.evaluator) c.next_of-found.ensures.extends
    c.next_of-found.ensures.kept over)
