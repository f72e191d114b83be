use Rattle.std.proofs.Common.{drop}
use Rattle.mau_signature.specs.Signature.{theory_at}
use Rattle.mau_store.specs.Node.{Extends}
use Rattle.mau_store.specs.Trees.{trees_at}
use Rattle.mau_store.specs.View.{numbers}
use Rattle.mau_canon.specs.Standing.{StandWithin}
use Rattle.mau_syntactic.proofs.Running.{Making}
use Rattle.mau_syntactic.proofs.template.Template.run.Given as goal

abbrev pub invariant-loop-part : goal.invariant-loop-part
invariant-loop-part l = record {
  making : Making l.fn.sig (l.self.1) (trees_at l.fn.store (numbers l.values)) l.self.0 (drop l.part-index l.part-items) (trees_at l.store (numbers l.stack.items));
  stack : StandWithin (theory_at l.fn.sig) l.store (numbers l.stack.items);
  extends : Extends l.fn.store l.store;
}
