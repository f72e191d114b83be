use Rattle.std.proofs.Common.{◌≡◌, ◌++◌, take, map, All}
use Rattle.mau_signature.specs.Faults.{HasSorts}
use Rattle.mau_renumber.specs.Carried.{declaration_to}
use Rattle.mau_module.specs.Included.{number_from}
use Rattle.mau_module.proofs.declarations.add_module_declarations.Given as goal

abbrev pub invariant-loop-decl : goal.invariant-loop-decl
invariant-loop-decl l = record {
  decls : l.decls.items ≡ l.fn.decls.items ++ map (declaration_to (number_from l.«module» l.names l.poset)) (take l.decl-index l.decl-items);
  sorts : All (HasSorts l.poset) l.fn.decls.items → All (HasSorts l.poset) l.decls.items;
}
