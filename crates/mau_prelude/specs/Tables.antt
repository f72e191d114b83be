-- The tables of the modules of the prelude: what each declares itself. Sorts and operators have their numbers in the whole module, which
-- has also what its imports declare.
use Rattle.std.specs.Prelude.{ℕ, List, [], ◌∷◌, ◌++◌, codes}
use Rattle.mau_signature.specs.declared.decl.Decl.{Decl}
use Rattle.mau_grammar.specs.declared.aliases.Alias.{Alias}
use Rattle.mau_program.specs.declared.statements.Equation.{Equation}
use Rattle.mau_prelude.specs.Booleans.{constants, connectives, variables, equations_of_and_and_xor, equations_that_reduce_to_xor}
use Rattle.mau_prelude.specs.Numbers.{number_pairs, sums, products, choices, comparisons}
use Rattle.mau_prelude.specs.declared.module.PreludeModule.{PreludeModule}
use Rattle.mau_prelude.specs.declared.module.PreludeModule.TheVariants.{TruthValue, Truth, Bool, Nat}

-- what a module declares: its name, its sorts in order, the pairs of a sort and one directly above it, its operators, its variables and its
-- equations
pub record TableOf : Type 0 where
  pub name : List ℕ
  pub sorts : List (List ℕ)
  pub pairs : List (ℕ × ℕ)
  pub declarations : List Decl
  pub variables : List Alias
  pub equations : List Equation

abbrev pub table_of : PreludeModule → TableOf
-- fmod TRUTH-VALUE is sort Bool . and its constants
table_of TruthValue = record {
  name = codes "TRUTH-VALUE";
  sorts = codes "Bool" ∷ [];
  pairs = [];
  declarations = constants;
  variables = [];
  equations = [];
}
-- fmod TRUTH is protecting TRUTH-VALUE . endfm
table_of Truth = record {
  name = codes "TRUTH";
  sorts = [];
  pairs = [];
  declarations = [];
  variables = [];
  equations = [];
}
-- fmod BOOL is protecting TRUTH . and its operators, variables and equations
table_of Bool = record {
  name = codes "BOOL";
  sorts = [];
  pairs = [];
  declarations = connectives;
  variables = variables;
  equations = equations_of_and_and_xor ++ equations_that_reduce_to_xor;
}
-- fmod NAT is protecting BOOL . sorts Zero NzNat Nat . and its operators
table_of Nat = record {
  name = codes "NAT";
  sorts = codes "Zero" ∷ codes "NzNat" ∷ codes "Nat" ∷ [];
  pairs = number_pairs;
  declarations = sums ++ (products ++ (choices ++ comparisons));
  variables = [];
  equations = [];
}
