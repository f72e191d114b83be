use Rattle.std.proofs.Common.{◌≡◌, ◌<◌, ◌+◌, true, false, refl, sym, ◌∙◌, length, get_or, subst, arith}
use Rattle.std.proofs.lemmas.Option.{slice_get-get_or}
use Rattle.mau_chart.specs.declared.grammar.Item.TheVariants.{Part}
use Rattle.mau_chart.specs.Chart.{Ended, Wants}
use Rattle.mau_chart.specs.Table.{table, IsChart}
use Rattle.mau_chart.proofs.Rows.{ended_on, ended_other}
use Rattle.mau_chart.proofs.fill.finish.Goals as goal
use Rattle.mau_chart.proofs.fill.finish.Goals.{then-is_wanted+in_ok-say, else-is_wanted}

pub loop-k-preserved : goal.loop-k-preserved
loop-k-preserved c =
    let ps = c.args.input.productions.now in
    let ls = c.args.input.leaves.now in
    let k = c.loop-k.k in
    let i = c.args.i in
    let h : k < length ps = omega arith in
    let p = get_or ps k c.index-input-k.result in
    let its = slice_get-get_or ps k c.index-input-k.result h in
    let len : c.len.result ≡ length p.pieces.items = omega (arith, c.len.ensures, p.pieces.ok.0) in
    elim c.if-is_wanted.branch [
      | then-is_wanted+in_ok-say w ↦
          subst (λ z. record { chart : IsChart z; rows : length z.rows.items ≡ length c.args.chart.now.rows.items; ended : Ended ps ls (table c.args.chart.now) (table z) i (k + 1) }) (sym w.chart-is)
          record {
            chart = w.in_ok-say.ensures.chart;
            rows = w.in_ok-say.ensures.rows ∙ c.loop-k.invariant.rows;
            ended = ended_on ps ls (table c.args.chart.now) (table c.loop-k.chart) (table w.say.new.self) i k (k + 1) c.len.result p its len refl c.loop-k.invariant.ended w.in_ok-say.ensures.offered;
          }
      | else-is_wanted w ↦
          subst (λ z. record { chart : IsChart z; rows : length z.rows.items ≡ length c.args.chart.now.rows.items; ended : Ended ps ls (table c.args.chart.now) (table z) i (k + 1) }) (sym w.chart-is)
          record {
            chart = c.loop-k.invariant.chart;
            rows = c.loop-k.invariant.rows;
            ended = ended_other ps ls (table c.args.chart.now) (table c.loop-k.chart) i k (k + 1) p its
                (λ u. (
                let v = c.is_wanted.ensures.wanted ls i c.requires.mask (subst (λ d. Wants ps ls i (Part k d)) (sym len) u) k c.len.result refl h in
                let z : false ≡ true = sym w.if-is_wanted.false ∙ v in
                cc
                ))
                refl c.loop-k.invariant.ended;
          }
    ]
