-- What a world goes by.
use Rattle.std.specs.Prelude.{List, map}
use Rattle.mau_terms.specs.View.{variable_of}
use Rattle.mau_formula.specs.Operator.{Operator}
use Rattle.mau_reducer.specs.declared.reducer.Reducer.{Reducer}
use Rattle.mau_reducer.specs.Basis.{Basis}

-- `operators` says which native operators there are
abbrev pub basis_of : {L M N : Type 0} → (N → List Operator) → Reducer L M N → Basis
basis_of operators w = record {
  program = w.program.now;
  hooks = operators w.natives;
  limit = w.limit;
  compiled = w.compiled;
  built_ins = w.built_ins.items;
  asked = w.asked.items;
  asked_under = map variable_of w.asked_under.items;
}
