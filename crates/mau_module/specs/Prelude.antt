-- The modules of the prelude, made from tables as modules of a text are made from their elements.
use Rattle.std.specs.Prelude.{ℕ, List, [], ◌∷◌, ◌++◌, fold}
use Rattle.mau_signature.specs.Faults.{Given}
use Rattle.mau_grammar.specs.Grammar.{grammar_of}
use Rattle.mau_declare.specs.Names.{with_name}
use Rattle.mau_prelude.specs.declared.module.PreludeModule.{PreludeModule}
use Rattle.mau_prelude.specs.declared.module.PreludeModule.TheVariants.{TruthValue, Truth, Bool, Nat}
use Rattle.mau_prelude.specs.Tables.{TableOf, table_of}
use Rattle.mau_signing.specs.Signed.{signature_over}
use Rattle.mau_module.specs.Modules.{ModuleOf, StatementsOf, no_statements, and_more}
use Rattle.mau_module.specs.Library.{truth_value, truth, bool}
use Rattle.mau_module.specs.Included.{depth_over, parts_of, sorts_of}
use Rattle.mau_module.specs.Framed.{Frame, all_parts}
use Rattle.mau_module.specs.Carried.{carried}
use Rattle.mau_module.specs.Declarations.{hierarchy_over, given_over}

-- what a module includes that imports these, and the names of its sorts: those of its table are the last ones
abbrev pub table_frame : List ModuleOf → List ℕ → TableOf → Frame
table_frame ms imports t = record {
  depth = depth_over ms imports;
  parts = parts_of ms imports;
  names = fold with_name (sorts_of ms (parts_of ms imports)) t.sorts;
}

-- what its signature is built from
abbrev pub table_given : List ModuleOf → Frame → TableOf → Given
table_given ms f t = given_over ms f.parts f.names (hierarchy_over ms f.parts f.names t.pairs) t.declarations

-- it states equations alone
abbrev pub table_statements : TableOf → StatementsOf
table_statements t = record no_statements { equations = t.equations }

-- the module of a table
abbrev pub table_module : List ModuleOf → Frame → TableOf → ModuleOf
table_module ms f t = let s = signature_over (table_given ms f t) in record {
  name = t.name;
  depth = f.depth;
  parts = all_parts ms f.parts;
  sorts = f.names;
  signature = s;
  grammar = grammar_of s f.names t.variables;
  statements = and_more (carried ms f.names s f.parts) (table_statements t);
  own = record { pairs = t.pairs; declarations = t.declarations; statements = table_statements t };
}

-- modules, and one of the prelude behind them
abbrev pub with_table : List ModuleOf → List ℕ → PreludeModule → List ModuleOf
with_table ms imports p = ms ++ table_module ms (table_frame ms imports (table_of p)) (table_of p) ∷ []

-- truth values, the operators on them, what may be computed with them, and numbers; each imports the one before it
unfoldable pub prelude : List ModuleOf
prelude = with_table (with_table (with_table (with_table [] [] TruthValue) (truth_value ∷ []) Truth) (truth ∷ []) Bool) (bool ∷ []) Nat
