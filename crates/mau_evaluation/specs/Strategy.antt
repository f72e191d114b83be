-- Strategies: their forms, and the definitions of named ones.
use Rattle.std.specs.Prelude.{ℕ, List}
use Rattle.mau_terms.specs.Tree.{Tree}
use Rattle.mau_terms.specs.Subst.{Variable}
use Rattle.mau_evaluation.specs.Program.{Fragment}

-- where a pattern is looked for: at the root without extension (`match`), at the root with it (`xmatch`), at any place with it (`amatch`)
pub data TestKind : Type 0 where
  at_top : TestKind
  within_top : TestKind
  anywhere : TestKind

-- X <- t, where X is a rule's variable of this name and sort
pub record Assign : Type 0 where
  pub name : List ℕ
  pub sort : ℕ
  pub term : Tree

mutual
  pub data Strategy : Type 0 where
    -- idle and fail
    idle : Strategy
    fail : Strategy
    -- all
    every_rule : Strategy
    -- l, or l[X <- t, Y <- u]
    label : List ℕ → List Assign → Strategy
    -- top(A), where A is a label form or all
    top_only : Strategy → Strategy
    -- name, or name(t, u)
    call : List ℕ → List Tree → Strategy
    -- match P s.t. C, xmatch P s.t. C, amatch P s.t. C
    test : TestKind → Tree → List Fragment → Strategy
    -- E *, E + and E !
    star : Strategy → Strategy
    plus : Strategy → Strategy
    to_normal : Strategy → Strategy
    -- E ; F
    in_turn : Strategy → Strategy → Strategy
    -- E | F
    either : Strategy → Strategy → Strategy
    -- E or-else F
    or_else : Strategy → Strategy → Strategy
    -- E ? F : G
    branch : Strategy → Strategy → Strategy → Strategy
    -- not(E), try(E) and test(E)
    negation : Strategy → Strategy
    attempt : Strategy → Strategy
    test_of : Strategy → Strategy
    -- matchrew P s.t. C by X using E, Y using F, and so xmatchrew and amatchrew
    part_rewrite : TestKind → Tree → List Fragment → PartUses → Strategy
    -- l{E, F}, or l[X <- t]{E, F}
    label_by : List ℕ → List Assign → Strategies → Strategy

  -- X using E, Y using F
  pub data PartUses : Type 0 where
    no_parts : PartUses
    part_use : Variable → Strategy → PartUses → PartUses

  -- E, F
  pub data Strategies : Type 0 where
    no_strategies : Strategies
    strategy : Strategy → Strategies → Strategies

-- sd name(P, Q) := E, or csd name(P, Q) := E if C
pub record StratDef : Type 0 where
  pub name : List ℕ
  pub args : List Tree
  pub body : Strategy
  pub cond : List Fragment
