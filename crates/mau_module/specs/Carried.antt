-- The statements of the parts of a module, in its numbers.
use Rattle.std.specs.Prelude.{ℕ, List, map, fold, slice_get}
use Rattle.std.specs.Option.{option_map_or}
use Rattle.mau_signature.specs.Signature.{SignatureOf}
use Rattle.mau_renumber.specs.Carried.{Numbers, operator_to, equation_to, membership_to, rule_to}
use Rattle.mau_renumber.specs.Strategies.{definition_to, strategy_declaration_to}
use Rattle.mau_module.specs.Modules.{ModuleOf, StatementsOf, no_statements, and_more}
use Rattle.mau_module.specs.Included.{number_from}

-- the numbers of a module over a signature whose sorts have these names
abbrev pub numbers_from : ModuleOf → List (List ℕ) → SignatureOf → Numbers
numbers_from m names s = record {
  sort = number_from m names s.hierarchy;
  operator = operator_to (number_from m names s.hierarchy) m.signature s;
}

-- statements and declared strategies in other numbers
abbrev pub carried_from : Numbers → StatementsOf → StatementsOf
carried_from n a = record {
  equations = map (equation_to n) a.equations;
  memberships = map (membership_to n) a.memberships;
  rules = map (rule_to n) a.rules;
  strategies = map (definition_to n) a.strategies;
  strats = map (strategy_declaration_to n) a.strats;
}

-- those that a module declares itself, over a signature whose sorts have these names
abbrev pub carried_part : List ModuleOf → List (List ℕ) → SignatureOf → ℕ → StatementsOf
carried_part ms names s p = option_map_or (λ m. carried_from (numbers_from m names s) m.own.statements) (slice_get ms p) no_statements

-- those of all parts, in order
abbrev pub carried : List ModuleOf → List (List ℕ) → SignatureOf → List ℕ → StatementsOf
carried ms names s parts = fold (λ a p. and_more a (carried_part ms names s p)) no_statements parts
