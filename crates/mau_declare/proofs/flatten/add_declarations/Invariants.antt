use Rattle.std.proofs.Common.{◌≡◌, ◌++◌, take, All, false}
use Rattle.mau_signature.specs.Faults.{HasSorts, is_successor}
use Rattle.mau_declare.specs.Flattened.{declarations}
use Rattle.mau_declare.proofs.flatten.add_declarations.Given as goal

abbrev pub invariant-loop-ops : goal.invariant-loop-ops
invariant-loop-ops l = record {
  value : l.decls.items ≡ l.fn.decls.items ++ declarations l.poset l.numerals (take l.ops-index l.elements.operators);
  sorts : All (HasSorts l.poset) (declarations l.poset l.numerals (take l.ops-index l.elements.operators));
  no_hooks : All (λ d. is_successor d.attrs ≡ false) (declarations l.poset l.numerals (take l.ops-index l.elements.operators));
}
