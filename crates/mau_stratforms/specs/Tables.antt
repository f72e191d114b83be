-- Leaves by numbers: the number of a leaf is its place.
use Rattle.std.specs.Prelude.{◌≡◌, ℕ, ◌<◌, List, length, slice_get, Some}
use Rattle.std.specs.List.{slice_index_or}
use Rattle.mau_evaluation.specs.Strategy.{Strategy, idle}
use Rattle.mau_strat.specs.Sharing.{EachOnce}
use Rattle.mau_strat.specs.Configurations.{TellsApart}
use Rattle.mau_strat.specs.Forms.{IsLeaf}

-- no leaf has two numbers, and what has a number is a leaf
pub record IsTable (table : List Strategy) : Type 0 where
  pub once : EachOnce table
  pub leaves : (l : ℕ) (x : Strategy) → slice_get table l ≡ Some x → IsLeaf x

-- the leaf with a number; past their end idle, which is never meant
abbrev pub leaf_in : List Strategy → ℕ → Strategy
leaf_in table l = slice_index_or table l idle

-- ---- a law: it is proved, a public function of the module `laws` has it for its contract

-- numbers of leaves stand for one only if they are one, and for leaves
abbrev pub TablesTellApart : Type 0
TablesTellApart = (table : List Strategy) → IsTable table → TellsApart (leaf_in table) (length table) × ((l : ℕ) → l < length table → IsLeaf (leaf_in table l))
