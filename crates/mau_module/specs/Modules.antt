-- Modules that were accepted.
use Rattle.std.specs.Prelude.{ℕ, List, [], ◌++◌, ◌+◌, length}
use Rattle.mau_signature.specs.declared.decl.Decl.{Decl}
use Rattle.mau_signature.specs.Signature.{SignatureOf}
use Rattle.mau_grammar.specs.Grammar.{GrammarOf}
use Rattle.mau_program.specs.declared.statements.Equation.{Equation}
use Rattle.mau_program.specs.declared.statements.Membership.{Membership}
use Rattle.mau_program.specs.declared.statements.Rule.{Rule}
use Rattle.mau_program.specs.declared.definitions.StratDef.{StratDef}
use Rattle.mau_program.specs.declared.definitions.StratDecl.{StratDecl}

-- Statements, each kind in order: equations, memberships, rules, and the definitions of strategies. Beside them the strategies that are
-- declared.
pub record StatementsOf : Type 0 where
  pub equations : List Equation
  pub memberships : List Membership
  pub rules : List Rule
  pub strategies : List StratDef
  pub strats : List StratDecl

abbrev pub no_statements : StatementsOf
no_statements = record { equations = []; memberships = []; rules = []; strategies = []; strats = [] }

-- some statements, and then others
abbrev pub and_more : StatementsOf → StatementsOf → StatementsOf
and_more a b = record {
  equations = a.equations ++ b.equations;
  memberships = a.memberships ++ b.memberships;
  rules = a.rules ++ b.rules;
  strategies = a.strategies ++ b.strategies;
  strats = a.strats ++ b.strats;
}

-- how many statements they are; a declared strategy is none
abbrev pub statement_total : StatementsOf → ℕ
statement_total a = length a.equations + length a.memberships + length a.rules + length a.strategies

-- What a module itself declares, beside its sorts: subsort pairs, operators and statements. Its numbers are those of the whole module.
pub record PartOf : Type 0 where
  pub pairs : List (ℕ × ℕ)
  pub declarations : List Decl
  pub statements : StatementsOf

-- A module with all that it includes.
pub record ModuleOf : Type 0 where
  pub name : List ℕ
  -- 1 without imports, else 1 more than that of its deepest import
  pub depth : ℕ
  -- the numbers of the modules that it includes, in order, each once; its own is the last
  pub parts : List ℕ
  -- the names of the sorts, in the order of their numbers
  pub sorts : List (List ℕ)
  pub signature : SignatureOf
  -- how its terms are written
  pub grammar : GrammarOf
  -- those of its parts, in their order
  pub statements : StatementsOf
  -- what it declares itself
  pub own : PartOf
