use Rattle.std.proofs.Common.{sym, subst}
use Rattle.mau_chart.specs.Chart.{Offered, edge}
use Rattle.mau_chart.specs.Table.{table, seen, AreKnown, HasOther}
use Rattle.mau_chart.specs.Nodes.{trees_at}
use Rattle.mau_chart.proofs.Cells.{put_offered, put_known, put_second}
use Rattle.mau_chart.proofs.chart.Chart.offer.Goals as goal

pub returns-in_ok-put-in-First-clause-chart : goal.returns-in_ok-put-in-First-clause-chart
returns-in_ok-put-in-First-clause-chart c =
    let s = c.args.self.now in
    let n = c.put.new.self in
    let p = c.in_ok-put-in-First.ensures.put in
    subst (λ ts. AreKnown ts n.rows.items) (sym c.in_ok-put-in-First.ensures.store) (put_known s.store s.rows.items n.rows.items c.args.i _ p c.requires.chart record { below = c.requires.below; second = λ e. cc })

pub returns-in_ok-put-in-First-clause-offered : goal.returns-in_ok-put-in-First-clause-offered
returns-in_ok-put-in-First-clause-offered c =
    let s = c.args.self.now in
    let n = c.put.new.self in
    subst (λ ts. Offered (table s) (seen ts n.rows.items) c.args.i (edge c.args.item c.args.end (trees_at s.store c.args.trees.items))) (sym c.in_ok-put-in-First.ensures.store) (put_offered s.store s.rows.items n.rows.items c.args.i _ c.in_ok-put-in-First.ensures.put)

pub returns-in_ok-put-in-Second-clause-chart : goal.returns-in_ok-put-in-Second-clause-chart
returns-in_ok-put-in-Second-clause-chart c =
    let s = c.args.self.now in
    let n = c.put-in-Second.new.self in
    let p = c.in_ok-put-in-Second.ensures.put in
    subst (λ ts. AreKnown ts n.rows.items) (sym c.in_ok-put-in-Second.ensures.store) (put_known s.store s.rows.items n.rows.items c.args.i _ p c.requires.chart record { below = c.requires.below; second = λ e. put_second s.store s.rows.items n.rows.items c.args.i _ p (subst (λ us. HasOther (table s) c.args.i c.args.item c.args.end (trees_at s.store us)) c.deref.ensures.value (c.is_news.ensures.second c.in-Second.is)) })

pub returns-in_ok-put-in-Second-clause-offered : goal.returns-in_ok-put-in-Second-clause-offered
returns-in_ok-put-in-Second-clause-offered c =
    let s = c.args.self.now in
    let n = c.put-in-Second.new.self in
    subst (λ ts. Offered (table s) (seen ts n.rows.items) c.args.i (edge c.args.item c.args.end (trees_at s.store c.args.trees.items))) (sym c.in_ok-put-in-Second.ensures.store) (put_offered s.store s.rows.items n.rows.items c.args.i _ c.in_ok-put-in-Second.ensures.put)
