use Rattle.std.proofs.Common.{take, All}
use Rattle.mau_poset.specs.Order.{kind_of}
use Rattle.mau_signature.specs.Faults.{HasSorts, IsSuccessorIn}
use Rattle.mau_evaluation_tests.proofs.signed.assert_all.Given as goal

abbrev pub invariant-loop-decl : goal.invariant-loop-decl
invariant-loop-decl g l = record {
  sorts : All (HasSorts l.poset) (take l.decl-index l.decls);
  successors : All (IsSuccessorIn l.poset (kind_of l.poset l.sort)) (take l.decl-index l.decls);
}
