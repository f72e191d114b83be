-- Statements that a module adds to those of the modules that it includes.
use Rattle.std.specs.Prelude.{drop, length}
use Rattle.mau_module.specs.declared.statements.Counts.{Counts}
use Rattle.mau_module.specs.Modules.{StatementsOf}

-- the statements and declared strategies behind so many
abbrev pub behind : Counts → StatementsOf → StatementsOf
behind n a = record {
  equations = drop n.equations a.equations;
  memberships = drop n.memberships a.memberships;
  rules = drop n.rules a.rules;
  strategies = drop n.strategies a.strategies;
  strats = drop n.strats a.strats;
}

abbrev pub counts_of : StatementsOf → Counts
counts_of a = record {
  equations = length a.equations;
  memberships = length a.memberships;
  rules = length a.rules;
  strategies = length a.strategies;
  strats = length a.strats;
}
