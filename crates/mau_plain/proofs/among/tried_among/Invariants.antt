use Rattle.std.proofs.Common.{List, All, Contains, take}
use Rattle.mau_terms.specs.declared.ids.TermId.{TermId}
use Rattle.mau_store.specs.Node.{Extends}
use Rattle.mau_plain.specs.Behind.{IsTriedBehind}
use Rattle.mau_plain.proofs.among.tried_among.Given as goal

abbrev pub invariant-loop-list : goal.invariant-loop-list
invariant-loop-list l = record {
  among : All (Contains l.lists) l.out.items;
  tried : All (IsTriedBehind l.sig l.fn.store l.sorts l.trial l.places) l.out.items;
  all : (vs : List TermId) → Contains (take l.list-index l.lists) vs → IsTriedBehind l.sig l.fn.store l.sorts l.trial l.places vs → Contains l.out.items vs;
  extends : Extends l.fn.store l.store;
}
