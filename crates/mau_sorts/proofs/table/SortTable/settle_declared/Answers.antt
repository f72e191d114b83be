use Rattle.mau_store.specs.View.{node_of}
use Rattle.mau_sorts.proofs.Entries.{entered_value}
use Rattle.mau_sorts.proofs.table.SortTable.settle_declared.Goals as goal

pub returns-clause-value : goal.returns-clause-value
returns-clause-value c =
    entered_value c.args.sig.now c.args.store.now c.args.self.now c.enter.new.self c.args.id.0 (node_of c.view.result) c.args.more.now c.in_ok-set.set
    (record { exact = c.in_ok-set.ensures.exact; over = c.in_ok-set.ensures.over; apart = c.in_ok-set.ensures.apart; ascending = c.in_ok-set.ensures.ascending })
    (record { entered = c.in_ok-enter.ensures.ok; others = c.in_ok-enter.ensures.others })
    c.requires.ready.there c.view.ensures.tree (c.requires.ready.arguments _ c.view.ensures.node)
