use Rattle.std.proofs.Common.{false}
use Rattle.mau_check.specs.declared.kept.Holes.TheVariants.{Absent}
use Rattle.mau_check.specs.declared.said.Said.TheVariants.{Leads}
use Rattle.mau_logic.specs.Shown.{known_by}
use Rattle.mau_check.specs.Told.{EndsInSort}
use Rattle.mau_check.proofs.Tells.{said_at_place, some_here}
use Rattle.mau_check.proofs.sorts.some_ends_shown.Goals as goal

pub ends_shown-requires-clause-said : goal.ends_shown-requires-clause-said
ends_shown-requires-clause-said c = said_at_place c.args.sig.now c.args.store.now c.args.uses.now c.requires.uses.0 c.loop-said.said-index (Leads false (record { id = record { 0 = 0 }; kind = 0; holes = Absent }) (record { id = record { 0 = 0 }; kind = 0; holes = Absent })) c.loop-said-test.true c.requires.uses.1

pub returns-then-ends-clause-end : goal.returns-then-ends-clause-end
returns-then-ends-clause-end c t us h =
    some_here (EndsInSort c.args.sig.now c.args.store.now (known_by c.args.sig.now us) c.args.from.0 c.args.sort) c.args.uses.now c.loop-said.said-index (Leads false (record { id = record { 0 = 0 }; kind = 0; holes = Absent }) (record { id = record { 0 = 0 }; kind = 0; holes = Absent })) c.loop-said-test.true (c.in_ok-ends.ensures.shown c.if-ends.true us h)
