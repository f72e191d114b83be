use Rattle.std.proofs.Common.{◌≡◌, ◌++◌, sym, ◌∙◌, ap, ap₂, length, subst}
use Rattle.mau_chart.specs.Nodes.{trees_at, AllBelow}
use Rattle.mau_chart.specs.Chart.{edge, Offered}
use Rattle.mau_chart.specs.Table.{table, cells, edge_of}
use Rattle.mau_chart.proofs.Grows.{full_offered}
use Rattle.mau_chart.proofs.Lists.{trees_at-append, AllBelow-append}
use Rattle.mau_chart.proofs.Cells.{seen_at}
use Rattle.mau_chart.proofs.chart.Chart.join.Goals as goal

pub returns-then-is_full-clause-offered : goal.returns-then-is_full-clause-offered
returns-then-is_full-clause-offered c f g h k =
    let s = c.args.self.now in
    let t = table s in
    let e = seen_at s.store (cells s.rows.items c.args.m) c.args.x g c.fact.result.now c.fact.ensures k in
    subst (λ z. Offered t t c.args.i (edge c.args.item z.end (f.trees ++ z.trees))) e (full_offered t c.args.i (edge c.args.item c.fact.result.now.end (f.trees ++ trees_at s.store c.fact.result.now.trees.items)) (c.is_full.ensures c.if-is_full.true))

pub offer-requires-clause-below : goal.offer-requires-clause-below
offer-requires-clause-below c =
    let s = c.args.self.now in
    let a = c.fact-2.result.now in
    let b = c.fact-3.result.now in
    subst (AllBelow (length s.store)) (sym (c.in_ok-extend_from_slice.ensures.items ∙ ap₂ (λ x y. x ++ y) (c.in_ok-trees.ensures.items ∙ c.deref.ensures.value) c.deref-2.ensures.value))
    (AllBelow-append (length s.store) a.trees.items b.trees.items (c.requires.chart c.args.i c.args.k a c.fact-2.ensures).below (c.requires.chart c.args.m c.args.x b c.fact-3.ensures).below)

pub returns-clause-offered : goal.returns-clause-offered
returns-clause-offered c f g h k =
    let s = c.args.self.now in
    let t = table s in
    let n = table c.offer.new.self in
    let a = c.fact-2.result.now in
    let b = c.fact-3.result.now in
    let x : edge_of s.store a ≡ f = seen_at s.store (cells s.rows.items c.args.i) c.args.k f a c.fact-2.ensures h in
    let y : edge_of s.store b ≡ g = seen_at s.store (cells s.rows.items c.args.m) c.args.x g b c.fact-3.ensures k in
    let z : edge_of s.store c.fact.result.now ≡ g = seen_at s.store (cells s.rows.items c.args.m) c.args.x g c.fact.result.now c.fact.ensures k in
    let e = c.in_ok-extend_from_slice.ensures.items ∙ ap₂ (λ x y. x ++ y) (c.in_ok-trees.ensures.items ∙ c.deref.ensures.value) c.deref-2.ensures.value in
    let ts = ap (trees_at s.store) e ∙ trees_at-append s.store a.trees.items b.trees.items ∙ ap₂ (λ v w. v ++ w) (ap (λ v. v.trees) x) (ap (λ v. v.trees) y) in
    subst (λ v. Offered t n c.args.i (edge c.args.item v (f.trees ++ g.trees))) (ap (λ v. v.end) z) (subst (λ v. Offered t n c.args.i (edge c.args.item c.fact.result.now.end v)) ts c.in_ok-offer.ensures.offered)
