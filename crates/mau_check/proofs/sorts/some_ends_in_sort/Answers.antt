use Rattle.std.proofs.Common.{◌≡◌, true, false, refl}
use Rattle.mau_check.specs.declared.kept.Holes.TheVariants.{Absent}
use Rattle.mau_check.specs.declared.said.Said.TheVariants.{Leads}
use Rattle.mau_check.specs.Told.{EndsInSort}
use Rattle.mau_check.proofs.Tells.{said_at_place, some_here, not_here, none_left}
use Rattle.mau_check.proofs.sorts.some_ends_in_sort.Goals as goal

pub ends_in_sort-requires-clause-said : goal.ends_in_sort-requires-clause-said
ends_in_sort-requires-clause-said c = said_at_place c.args.sig.now c.args.store.now c.args.uses.now c.requires.uses.0 c.loop-said.said-index (Leads false (record { id = record { 0 = 0 }; kind = 0; holes = Absent }) (record { id = record { 0 = 0 }; kind = 0; holes = Absent })) c.loop-said-test.true c.requires.uses.1

pub returns-then-ends-clause-end : goal.returns-then-ends-clause-end
returns-then-ends-clause-end c known h = (
  (λ t. some_here (EndsInSort c.args.sig.now c.args.store.now known c.args.from.0 c.args.sort) c.args.uses.now c.loop-said.said-index (Leads false (record { id = record { 0 = 0 }; kind = 0; holes = Absent }) (record { id = record { 0 = 0 }; kind = 0; holes = Absent })) c.loop-said-test.true ((c.in_ok-ends.ensures.has known h).0 c.if-ends.true)),
  (λ g. refl),
)

pub loop-said-preserved : goal.loop-said-preserved
loop-said-preserved c = record {
  plain = c.ends_in_sort.ensures.plain;
  behind = λ known h g.
      not_here (EndsInSort c.args.sig.now c.args.store.now known c.args.from.0 c.args.sort) c.args.uses.now c.loop-said.said-index (Leads false (record { id = record { 0 = 0 }; kind = 0; holes = Absent }) (record { id = record { 0 = 0 }; kind = 0; holes = Absent })) c.loop-said-test.true
      (λ q. let y : c.in_ok-ends.ends ≡ true = (c.in_ok-ends.ensures.has known h).1 q in let n = c.if-ends.false in absurd cc)
      (c.loop-said.invariant.behind known h g);
}

pub returns-clause-end : goal.returns-clause-end
returns-clause-end c known h = (
  (λ t. absurd cc),
  (λ g. absurd (none_left (EndsInSort c.args.sig.now c.args.store.now known c.args.from.0 c.args.sort) c.args.uses.now c.loop-said.said-index c.loop-said-test.false (c.loop-said.invariant.behind known h g))),
)
