use Rattle.std.proofs.Common.{take}
use Rattle.mau_signature.specs.Signature.{theory_at}
use Rattle.mau_store.specs.Trees.{trees_at}
use Rattle.mau_store.specs.View.{numbers}
use Rattle.mau_plain.specs.Gathered.{Gathers}
use Rattle.mau_plain.specs.Parts.{IsPartOfOne}
use Rattle.mau_plain.proofs.parts.push_all_parts.Given as goal

abbrev pub invariant-loop-id : goal.invariant-loop-id
invariant-loop-id l = Gathers (theory_at l.sig) l.fn.store l.store l.fn.out.items l.out.items (IsPartOfOne (theory_at l.sig) l.fn.op.0 (trees_at l.fn.store (numbers (take l.id-index l.ids))))
