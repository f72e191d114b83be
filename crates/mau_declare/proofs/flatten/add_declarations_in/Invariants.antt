use Rattle.std.proofs.Common.{◌≡◌, ◌++◌, map, take, All, false}
use Rattle.mau_signature.specs.Faults.{HasSorts, is_successor}
use Rattle.mau_declare.specs.Flattened.{declaration_at}
use Rattle.mau_declare.proofs.flatten.add_declarations_in.Given as goal

abbrev pub invariant-loop-form : goal.invariant-loop-form
invariant-loop-form l = record {
  value : l.decls.items ≡ l.fn.decls.items ++ map (declaration_at l.poset l.numerals l.ops) (take l.form-index l.ops.forms);
  sorts : All (HasSorts l.poset) (map (declaration_at l.poset l.numerals l.ops) (take l.form-index l.ops.forms));
  no_hooks : All (λ d. is_successor d.attrs ≡ false) (map (declaration_at l.poset l.numerals l.ops) (take l.form-index l.ops.forms));
}
