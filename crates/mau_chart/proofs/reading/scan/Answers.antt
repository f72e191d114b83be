use Rattle.std.proofs.Common.{◌≡◌, ◌+◌, true, false, refl, length, sym, ◌∙◌, subst, arith}
use Rattle.std.proofs.lemmas.List.{length-map}
use Rattle.mau_chart.specs.Goal.{Scanned}
use Rattle.mau_chart.specs.Table.{table, cells, edge_of}
use Rattle.mau_chart.proofs.Cells.{slice_get-seen}
use Rattle.mau_chart.proofs.Scan.{first_goal, same_goal, no_goal}
use Rattle.mau_chart.proofs.reading.scan.Goals as goal
use Rattle.mau_chart.proofs.reading.scan.Goals.{then-is_goal+in-Nothing, else-is_goal}

pub loop-k-preserved : goal.loop-k-preserved
loop-k-preserved c =
    let s = c.args.chart.now in
    let k = c.loop-k.k in
    let a = c.fact-fact.result.now in
    let e = slice_get-seen s.store (cells s.rows.items 0) k a c.fact-fact.ensures in
    let S = Scanned c.args.low c.args.high c.args.n (table s) in
    elim c.if-is_goal.branch [
      | then-is_goal+in-Nothing w ↦
          subst (S (k + 1)) (sym w.answer-is) (first_goal c.args.low c.args.high c.args.n (table s) k (k + 1) (edge_of s.store a).trees refl (edge_of s.store a, e, c.is_goal.ensures.0 w.if-is_goal.true, refl) (subst (S k) w.in-Nothing.is c.loop-k.invariant))
      | else-is_goal w ↦
          subst (S (k + 1)) (sym w.answer-is) (no_goal c.args.low c.args.high c.args.n (table s) k (k + 1) (edge_of s.store a) c.loop-k.answer refl e (λ g. let z : false ≡ true = sym w.if-is_goal.false ∙ c.is_goal.ensures.1 g in cc) c.loop-k.invariant)
    ]

pub loop-k-preserved-then-alike : goal.loop-k-preserved-then-alike
loop-k-preserved-then-alike c =
    let s = c.args.chart.now in
    let k = c.loop-k.k in
    let a = c.fact-fact.result.now in
    let e = slice_get-seen s.store (cells s.rows.items 0) k a c.fact-fact.ensures in
    let S = Scanned c.args.low c.args.high c.args.n (table s) in
    let i = subst (S k) c.in-One.is c.loop-k.invariant in
    same_goal c.args.low c.args.high c.args.n (table s) c.in-One.j k (k + 1) i.0 (edge_of s.store a).trees refl i.1 (edge_of s.store a, e, c.is_goal.ensures.0 c.if-is_goal.true, refl) (sym i.1.3 ∙ (c.alike.ensures i.1.0 (edge_of s.store a) i.1.1 e).0 c.if-alike.true) i

pub returns-in-One : goal.returns-in-One
returns-in-One c =
    let s = c.args.chart.now in
    let k = c.loop-k.k in
    let a = c.fact-fact.result.now in
    let e = slice_get-seen s.store (cells s.rows.items 0) k a c.fact-fact.ensures in
    let S = Scanned c.args.low c.args.high c.args.n (table s) in
    let i = subst (S k) c.in-One.is c.loop-k.invariant in
    (i.0, (edge_of s.store a).trees, i.1, (edge_of s.store a, e, c.is_goal.ensures.0 c.if-is_goal.true, refl), λ q. let z : false ≡ true = sym c.if-alike.false ∙ (c.alike.ensures i.1.0 (edge_of s.store a) i.1.1 e).1 (i.1.3 ∙ q) in cc)

pub returns : goal.returns
returns c =
    let s = c.args.chart.now in
    let z : c.loop-k.k ≡ length (table s 0) = omega (arith, length-map (cells s.rows.items 0) (edge_of s.store), c.count-k-end.ensures, c.loop-k-test.false, c.loop-k.auto.k-end) in
    subst (λ m. Scanned c.args.low c.args.high c.args.n (table s) m c.loop-k.answer) z c.loop-k.invariant
