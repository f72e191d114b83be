-- Strategies as trees: what a strategy is in every definition. Each form of the language is a constructor, over its parts.
use Rattle.std.specs.Prelude.{ℕ, List}
use Rattle.mau_terms.specs.Tree.{Tree}
use Rattle.mau_terms.specs.declared.ids.VarId.{VarId}
use Rattle.mau_terms.specs.declared.bare.Bare.{Bare}
use Rattle.mau_program.specs.declared.statements.Fragment.{Fragment}
use Rattle.mau_program.specs.declared.strategies.TestKind.{TestKind}
use Rattle.mau_program.specs.declared.strategies.Assign.{Assign}

mutual
  pub data StrategyOf : Type 0 where
    -- idle, fail, all
    idle : StrategyOf
    fail : StrategyOf
    every_rule : StrategyOf
    -- a label and its assignments; top(s)
    label : List ℕ → List Assign → StrategyOf
    top_only : StrategyOf → StrategyOf
    -- a name and its arguments
    call : List ℕ → List Tree → StrategyOf
    -- a test, by its pattern and its condition
    test : TestKind → Bare → List Fragment → StrategyOf
    -- s *, s +, s !
    star : StrategyOf → StrategyOf
    plus : StrategyOf → StrategyOf
    to_normal : StrategyOf → StrategyOf
    -- s ; t, s | t, s or-else t, s ? t : u
    in_turn : StrategyOf → StrategyOf → StrategyOf
    either : StrategyOf → StrategyOf → StrategyOf
    or_else : StrategyOf → StrategyOf → StrategyOf
    branch : StrategyOf → StrategyOf → StrategyOf → StrategyOf
    -- not(s), try(s), test(s)
    negation : StrategyOf → StrategyOf
    attempt : StrategyOf → StrategyOf
    test_of : StrategyOf → StrategyOf
    -- a pattern and its condition, and the strategies for values of its variables
    part_rewrite : TestKind → Bare → List Fragment → Uses → StrategyOf
    -- a label and its assignments, and the strategies for its rewriting fragments
    label_by : List ℕ → List Assign → Strategies → StrategyOf

  -- a list of strategies, which has to be a type of its own
  pub data Strategies : Type 0 where
    no_strategies : Strategies
    strategy : StrategyOf → Strategies → Strategies

  -- variables with their strategies
  pub data Uses : Type 0 where
    no_uses : Uses
    use_of : VarId → StrategyOf → Uses → Uses
