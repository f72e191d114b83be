use Rattle.std.proofs.Common.{[], false}
use Rattle.mau_store.proofs.Growth.{extension_is_preorder}
use Rattle.mau_deriving.proofs.Kept.{derived_same}
use Rattle.mau_deriving.proofs.Lawful.{heads}
use Rattle.mau_deriving.proofs.DerivedMore.{derived_more}
use Rattle.mau_listing.proofs.Closed.{closed_same, closed_more}
use Rattle.mau_settling.proofs.Leaves.{leaf_given}
use Rattle.mau_settling.proofs.plain.settle_leaf.Goals as goal

pub returns-in_err-settle_declared-clause-derived : goal.returns-in_err-settle_declared-clause-derived
returns-in_err-settle_declared-clause-derived c = λ hooks limit d.
    derived_same c.args.program.now hooks limit c.args.store.now c.args.table.now c.settle_declared.new.self c.in_err-settle_declared.ensures.unchanged c.in_err-settle_declared.ensures.over d

pub returns-clause-derived : goal.returns-clause-derived
returns-clause-derived c = λ hooks limit d.
    derived_more c.args.program.now hooks limit false (heads c.args.program.now c.requires.lawful c.requires.signature hooks) c.requires.lawful.accepted c.args.store.now c.has_nodes.ensures c.args.table.now d c.args.term.0
    c.requires.begins.ready c.requires.begins.unsettled (c.requires.begins.term.within.normal, c.requires.begins.term.bare) [] c.settle_declared.new.self c.in_ok-settle_declared.ensures.kept c.in_ok-settle_declared.ensures.ok
    c.in_ok-settle_declared.ensures.over c.in_ok-settle_declared.ensures.value (leaf_given c.args.program.now hooks limit _ c.requires.leaf)

pub returns-in_err-settle_declared-clause-later : goal.returns-in_err-settle_declared-clause-later
returns-in_err-settle_declared-clause-later c = record {
  extends = extension_is_preorder.reflexive c.args.store.now;
  kept = c.in_err-settle_declared.ensures.kept;
  over = c.in_err-settle_declared.ensures.over;
  closed = closed_same c.args.store.now c.args.table.now c.settle_declared.new.self c.in_err-settle_declared.ensures.unchanged c.requires.begins.closed;
}

pub returns-clause-later : goal.returns-clause-later
returns-clause-later c = record {
  extends = extension_is_preorder.reflexive c.args.store.now;
  kept = c.in_ok-settle_declared.ensures.kept;
  over = c.in_ok-settle_declared.ensures.over;
  closed = closed_more c.args.program.now.sig c.args.store.now c.args.table.now c.settle_declared.new.self c.args.term.0 c.requires.begins.ready c.in_ok-settle_declared.ensures.kept c.in_ok-settle_declared.ensures.ok.others c.requires.begins.closed;
}
