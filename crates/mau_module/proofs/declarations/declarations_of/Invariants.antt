use Rattle.std.proofs.Common.{◌≡◌, take, All}
use Rattle.mau_signature.specs.Faults.{HasSorts}
use Rattle.mau_module.specs.Declarations.{declarations_of}
use Rattle.mau_module.proofs.declarations.declarations_of.Given as goal

abbrev pub invariant-loop-part : goal.invariant-loop-part
invariant-loop-part l = record {
  decls : l.decls.items ≡ declarations_of l.library l.names l.poset (take l.part-index l.parts);
  sorts : All (HasSorts l.poset) l.decls.items;
}
