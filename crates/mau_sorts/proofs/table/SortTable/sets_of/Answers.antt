use Rattle.std.proofs.Common.{ap, ◌∙◌}
use Rattle.std.specs.Prelude.{is_some}
use Rattle.mau_sorts.specs.Derived.{sets}
use Rattle.mau_sorts.proofs.Entries.{sets_more, settled_number}
use Rattle.mau_sorts.proofs.table.SortTable.sets_of.Goals as goal

pub unreachable-requires : goal.unreachable-requires
unreachable-requires c =
    let some = settled_number c.args.self.now c.args.ids.now c.loop-id.id-index (record { 0 = 0 }) c.requires c.loop-id-test.true in
    let none = ap is_some c.in-None.ensures in cc (some, none)

pub loop-id-preserved : goal.loop-id-preserved
loop-id-preserved c =
    ap sets c.in_ok-push-in-Some.ensures.items
    ∙ sets_more c.args.self.now c.args.ids.now c.loop-id.found.items c.loop-id.id-index (record { 0 = 0 }) c.in-Some.set c.loop-id-test.true c.loop-id.invariant c.in-Some.ensures
