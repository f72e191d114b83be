use Rattle.std.proofs.Common.{◌≡◌, ◌≤◌, length, take}
use Rattle.mau_signature.specs.Names.{operators_of}
use Rattle.mau_signature.proofs.build.name_all.Given as goal

abbrev pub invariant-loop-decl : goal.invariant-loop-decl
invariant-loop-decl l = (l.names ≡ operators_of l.poset (take l.decl-index l.decls)) × (length l.names ≤ l.decl-index)
