use Rattle.std.proofs.Common.{take}
use Rattle.mau_poset.specs.Order.{kind_of}
use Rattle.mau_signature.specs.Signature.{declarations_at, result_of}
use Rattle.mau_sorts.specs.Derived.{AllIn, sets}
use Rattle.mau_sorts.proofs.Derivations.{AreResults}
use Rattle.mau_sorts.proofs.derive.given.Given as goal

abbrev pub invariant-loop-decl : goal.invariant-loop-decl
invariant-loop-decl l =
    AreResults l.sig.hierarchy (take l.decl-index l.decl-items) (AllIn l.sig.hierarchy (sets l.args))
    (kind_of l.sig.hierarchy (result_of (declarations_at l.sig l.op.0))) l.minimal.items
