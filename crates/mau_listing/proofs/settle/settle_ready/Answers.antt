use Rattle.std.proofs.Common.{Contains, rules, tests, sym, subst}
use Rattle.mau_sorts.specs.Table.{IsSettled}
use Rattle.mau_sorts.proofs.Settling.{entries_same}
use Rattle.mau_listing.proofs.Growth.{settled_kept}
use Rattle.mau_listing.proofs.Closed.{closed_same, closed_more}
use Rattle.mau_listing.proofs.Entered.{table_more}
use Rattle.mau_listing.proofs.settle.settle_ready.Goals as goal

pub returns-in_err-settle_declared-clause-table : goal.returns-in_err-settle_declared-clause-table
returns-in_err-settle_declared-clause-table c = λ known t. record {
  entries = entries_same c.args.sig.now known c.args.store.now c.args.sorts.now c.settle_declared.new.self c.in_err-settle_declared.ensures.unchanged t.entries;
  settled = λ u r among.
      let is = t.settled u r among in
      record { number = is.number; there = is.there; tree = is.tree; settled = settled_kept c.args.sorts.now c.settle_declared.new.self c.settle_declared.ensures.kept is.number is.settled };
  further = λ u r among. subst (λ is. Contains is (t.settled u r among).number) (sym c.in_err-settle_declared.ensures.unchanged.further) (t.further u r among);
}

pub returns-clause-table : goal.returns-clause-table
returns-clause-table c = λ known t.
    let unsettled : ¬ IsSettled c.args.sorts.now c.args.id.0 = search (rules, tests) in
    table_more c.args.store.now c.requires.nodes c.args.sig.now known c.args.sorts.now c.settle_declared.new.self c.args.id.0
    c.requires.ready.there unsettled c.settle_declared.ensures.kept c.in_ok-settle_declared.ensures.ok.kept (c.in_ok-settle_declared.ensures.value known) t

pub returns-in_err-settle_declared-clause-closed : goal.returns-in_err-settle_declared-clause-closed
returns-in_err-settle_declared-clause-closed c = closed_same c.args.store.now c.args.sorts.now c.settle_declared.new.self c.in_err-settle_declared.ensures.unchanged

pub returns-clause-closed : goal.returns-clause-closed
returns-clause-closed c =
    closed_more c.args.sig.now c.args.store.now c.args.sorts.now c.settle_declared.new.self c.args.id.0 c.requires.ready c.settle_declared.ensures.kept c.in_ok-settle_declared.ensures.ok.others
