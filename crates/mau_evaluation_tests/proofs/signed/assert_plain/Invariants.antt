use Rattle.std.proofs.Common.{take, All}
use Rattle.mau_signature.specs.Faults.{HasSorts}
use Rattle.mau_evaluation_tests.proofs.signed.assert_plain.Given as goal

abbrev pub invariant-loop-decl : goal.invariant-loop-decl
invariant-loop-decl g l = All (HasSorts l.poset) (take l.decl-index l.decls)
