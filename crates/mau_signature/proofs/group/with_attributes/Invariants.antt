use Rattle.std.proofs.Common.{◌≡◌, map}
use Rattle.mau_signature.specs.Attributes.{with_attributes}
use Rattle.mau_signature.proofs.group.with_attributes.Given as goal

abbrev pub invariant-loop-decl : goal.invariant-loop-decl
invariant-loop-decl l = l.finished.items ≡ map (with_attributes l.attrs) l.yielded
