use Rattle.std.proofs.Common.{take}
use Rattle.mau_store.specs.Node.{Extends}
use Rattle.mau_match.specs.Led.{GathersValues}
use Rattle.mau_match.proofs.lead.gathered.Given as goal

-- the values of the parts so far
abbrev pub invariant-loop-part : goal.invariant-loop-part
invariant-loop-part l = record {
  extends : Extends l.fn.store l.store;
  few : GathersValues l.sig l.limits l.variable l.fn.store l.store (take l.part-index l.parts) l.out.items;
}
