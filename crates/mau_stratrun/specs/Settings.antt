-- What a run of a strategy is over.
use Rattle.std.specs.Prelude.{ℕ, ◌<◌, List}
use Rattle.mau_terms.specs.Tree.{Tree}
use Rattle.mau_evaluation.specs.Program.{Program}
use Rattle.mau_evaluation.specs.Engine.{engine_of}
use Rattle.mau_evaluation.specs.Strategy.{Strategy, every_rule, top_only, StratDef}
use Rattle.mau_evaluation.specs.OrderedLists.{AsksFirst}
use Rattle.mau_strat.specs.Configurations.{TellsApart}
use Rattle.mau_strat.specs.Forms.{IsLeaf}
use Rattle.mau_stratrun.specs.declared.leaves.Lead.{Lead}
use Rattle.mau_stratrun.specs.declared.leaves.Lead.TheVariants.{All, TopOfAll, Leaf, TopOf}

-- what stays the same: the program, the definitions of named strategies, what the numbers of leaves stand for, and the limits of an item: its levels and its budget
pub record Fixed : Type 0 where
  pub program : Program
  pub definitions : List StratDef
  pub leaf : ℕ → Strategy
  pub leaves : ℕ
  pub levels : ℕ
  pub budget : ℕ

-- the terms that numbers stand for are what grows
pub record Setting : Type 0 where
  pub fixed : Fixed
  pub terms : ℕ
  pub tree : ℕ → Tree

-- numbers of leaves stand for leaves, for one only if they are one; and conditions give the first solution that is shown
pub record IsFixed (f : Fixed) : Type 0 where
  pub apart : TellsApart f.leaf f.leaves
  pub kinds : (l : ℕ) → l < f.leaves → IsLeaf (f.leaf l)
  pub asks : (k B b : ℕ) → AsksFirst f.program (engine_of f.program k B b)

-- the strategy whose results are asked for
abbrev pub strategy_of : (ℕ → Strategy) → Lead → Strategy
strategy_of leaf All = every_rule
strategy_of leaf TopOfAll = top_only every_rule
strategy_of leaf (Leaf l) = leaf l.0
strategy_of leaf (TopOf l) = top_only (leaf l.0)

abbrev pub IsLeadIn : ℕ → Lead → Type 0
IsLeadIn leaves All = Unit {0}
IsLeadIn leaves TopOfAll = Unit {0}
IsLeadIn leaves (Leaf l) = l.0 < leaves
IsLeadIn leaves (TopOf l) = l.0 < leaves
