use Rattle.std.proofs.Common.{◌≡◌, ◌<◌, ◌+◌, refl, sym, ◌∙◌, length, get_or, subst, arith}
use Rattle.std.proofs.lemmas.Option.{slice_get-get_or}
use Rattle.mau_chart.specs.Chart.{Begun}
use Rattle.mau_chart.specs.Table.{table, IsChart}
use Rattle.mau_chart.proofs.Rows.{begun_on, begun_other}
use Rattle.mau_chart.proofs.fill.begin.Goals as goal
use Rattle.mau_chart.proofs.fill.begin.Goals.{then-leaf-i+in_ok-say, else-leaf-i}

pub loop-k-preserved : goal.loop-k-preserved
loop-k-preserved c =
    let ls = c.args.input.leaves.now in
    let k = c.loop-k.k in
    let h : k < length ls = omega arith in
    elim c.if-leaf-i.branch [
      | then-leaf-i+in_ok-say w ↦
          subst (λ z. record { chart : IsChart z; rows : length z.rows.items ≡ length c.args.chart.now.rows.items; begun : Begun ls (table c.args.chart.now) (table z) c.args.i (k + 1) }) (sym w.chart-is)
          record {
            chart = w.in_ok-say.ensures.chart;
            rows = w.in_ok-say.ensures.rows ∙ c.loop-k.invariant.rows;
            begun = begun_on ls (table c.args.chart.now) (table c.loop-k.chart) (table w.say.new.self) c.args.i k (k + 1) (get_or ls k _) (slice_get-get_or ls k _ h) w.if-leaf-i.true refl c.loop-k.invariant.begun w.in_ok-say.ensures.offered;
          }
      | else-leaf-i w ↦
          subst (λ z. record { chart : IsChart z; rows : length z.rows.items ≡ length c.args.chart.now.rows.items; begun : Begun ls (table c.args.chart.now) (table z) c.args.i (k + 1) }) (sym w.chart-is)
          record {
            chart = c.loop-k.invariant.chart;
            rows = c.loop-k.invariant.rows;
            begun = begun_other ls (table c.args.chart.now) (table c.loop-k.chart) c.args.i k (k + 1) (get_or ls k _) (slice_get-get_or ls k _ h) w.if-leaf-i.false refl c.loop-k.invariant.begun;
          }
    ]
