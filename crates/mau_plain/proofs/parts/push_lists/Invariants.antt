use Rattle.std.proofs.Common.{take}
use Rattle.mau_signature.specs.Signature.{theory_at}
use Rattle.mau_plain.specs.Gathered.{Gathers}
use Rattle.mau_plain.specs.Parts.{IsOverOneList}
use Rattle.mau_plain.proofs.parts.push_lists.Given as goal

abbrev pub invariant-loop-list : goal.invariant-loop-list
invariant-loop-list l = Gathers (theory_at l.sig) l.fn.store l.store l.fn.out.items l.out.items (IsOverOneList (theory_at l.sig) l.op.0 l.fn.store (take l.list-index l.lists))
