use Rattle.std.proofs.Common.{◌≡◌, ◌∙◌, ap, subst}
use Rattle.mau_chart.specs.Nodes.{trees_at}
use Rattle.mau_chart.specs.Reads.{made}
use Rattle.mau_chart.specs.Chart.{edge, Offered}
use Rattle.mau_chart.specs.Table.{table, cells, edge_of}
use Rattle.mau_chart.proofs.Grows.{full_offered, same_offered}
use Rattle.mau_chart.proofs.Cells.{seen_at}
use Rattle.mau_chart.proofs.chart.Chart.lift.Goals as goal

pub returns-then-is_full-clause-offered : goal.returns-then-is_full-clause-offered
returns-then-is_full-clause-offered c f h =
    let s = c.args.self.now in
    let t = table s in
    let e = seen_at s.store (cells s.rows.items c.args.i) c.args.k f c.fact.result.now c.fact.ensures h in
    subst (λ z. Offered t t c.args.i (edge c.args.item z.end (made c.args.op z.trees))) e (full_offered t c.args.i (edge c.args.item c.fact.result.now.end (made c.args.op (trees_at s.store c.fact.result.now.trees.items))) (c.is_full.ensures c.if-is_full.true))

pub returns-clause-offered : goal.returns-clause-offered
returns-clause-offered c f h =
    let s = c.args.self.now in
    let t = table s in
    let d = table c.make.new.self in
    let n = table c.offer.new.self in
    let a = c.fact-2.result.now in
    let x : edge_of s.store a ≡ f = seen_at s.store (cells s.rows.items c.args.i) c.args.k f a c.fact-2.ensures h in
    let z : edge_of s.store c.fact.result.now ≡ f = seen_at s.store (cells s.rows.items c.args.i) c.args.k f c.fact.result.now c.fact.ensures h in
    let e = c.in_ok-trees.ensures.items ∙ c.deref.ensures.value in
    let ts = c.in_ok-whole.ensures.made ∙ ap (λ v. made c.args.op (trees_at s.store v)) e ∙ ap (λ v. made c.args.op v.trees) x in
    same_offered t d n c.args.i (edge c.args.item f.end (made c.args.op f.trees)) c.in_ok-whole.ensures.same
    (subst (λ v. Offered d n c.args.i (edge c.args.item v (made c.args.op f.trees))) (ap (λ v. v.end) z) (subst (λ v. Offered d n c.args.i (edge c.args.item c.fact.result.now.end v)) ts c.in_ok-offer.ensures.offered))
