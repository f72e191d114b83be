use Rattle.std.proofs.Common.{◌≡◌, sym, ◌∙◌, ap, Some, None, Option}
use Rattle.mau_terms.specs.declared.ids.OpId.{OpId}
use Rattle.mau_chart.specs.declared.grammar.Item.{Item}
use Rattle.mau_chart.specs.Table.{table, cells, edge_of}
use Rattle.mau_chart.proofs.Cells.{slice_get-seen}
use Rattle.mau_chart.proofs.Step.{some_one}
use Rattle.mau_chart.proofs.Trials.{completed_none, completed_lift}
use Rattle.mau_chart.proofs.fill.complete.Goals as goal

never : (x : Option (Item × Option OpId)) (y : Item × Option OpId) → x ≡ None → x ≡ Some y → ⊥
never x y e h = cc

pub returns-in-None-clause-completed : goal.returns-in-None-clause-completed
returns-in-None-clause-completed c =
    let s = c.args.chart.now in
    let a = c.fact.result.now in
    completed_none c.args.input.productions.now (table s) c.args.i c.args.k (edge_of s.store a) (slice_get-seen s.store (cells s.rows.items c.args.i) c.args.k a c.fact.ensures)
    (λ to o h. never c.lift_of.result (to, o) c.in-None.is (c.lift_of.ensures.only to o h))

alike : (x : Option (Item × Option OpId)) (a : Item) (b : Option OpId) (c : Item) (d : Option OpId) → x ≡ Some (a, b) → x ≡ Some (c, d) → (a ≡ c) × (b ≡ d)
alike x a b c d e h =
    let p = some_one (a, b) (c, d) (sym e ∙ h) in
    (ap (λ z. z.0) p, ap (λ z. z.1) p)

pub returns-in_ok-lift-in-Some-clause-completed : goal.returns-in_ok-lift-in-Some-clause-completed
returns-in_ok-lift-in-Some-clause-completed c =
    let s = c.args.chart.now in
    let a = c.fact.result.now in
    completed_lift c.args.input.productions.now (table s) (table c.lift.new.self) c.args.i c.args.k (edge_of s.store a) c.in-Some.whole c.in-Some.op (slice_get-seen s.store (cells s.rows.items c.args.i) c.args.k a c.fact.ensures)
    c.in-Some.ensures.some
    (λ to u h. alike c.lift_of.result c.in-Some.whole c.in-Some.op to u c.in-Some.is (c.lift_of.ensures.only to u h))
    c.in_ok-lift-in-Some.ensures.offered
