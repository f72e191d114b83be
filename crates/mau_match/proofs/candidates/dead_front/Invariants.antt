use Rattle.std.proofs.Common.{◌≤◌, ◌<◌, length, take}
use Rattle.mau_store.specs.Node.{Extends}
use Rattle.mau_store.specs.Trees.{trees_at}
use Rattle.mau_store.specs.View.{numbers}
use Rattle.mau_match.specs.Fronts.{NoneGoesOn}
use Rattle.mau_match.proofs.candidates.dead_front.Given as goal

-- no answer goes on with so many elements
abbrev pub invariant-loop : goal.invariant-loop
invariant-loop l = record {
  extends : Extends l.fn.store l.store;
  order : l.low < l.high;
  room : l.high ≤ length l.list;
  dead : NoneGoesOn l.sig l.limits l.fn.store l.trial l.places l.chosen l.op.0 (trees_at l.fn.store (numbers (take l.high l.list)));
}
