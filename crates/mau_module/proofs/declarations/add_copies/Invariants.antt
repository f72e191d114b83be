use Rattle.std.proofs.Common.{◌≡◌, ◌++◌, take}
use Rattle.mau_module.proofs.declarations.add_copies.Given as goal

abbrev pub invariant-loop-decl : goal.invariant-loop-decl
invariant-loop-decl l = l.decls.items ≡ l.fn.decls.items ++ take l.decl-index l.more
