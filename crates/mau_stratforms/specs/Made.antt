-- Strategies by numbers over a table of leaves, and those of a program.
use Rattle.std.specs.Prelude.{◌≡◌, ℕ, ◌<◌, List, map, length, All, slice_get, Some}
use Rattle.std.specs.List.{slice_index_or}
use Rattle.mau_evaluation.specs.Strategy.{Strategy, idle}
use Rattle.mau_program.specs.Trees.{StrategyOf}
use Rattle.mau_program.specs.declared.definitions.StratDef.{StratDef}
use Rattle.mau_strat.specs.declared.configs.StrategyId.{StrategyId}
use Rattle.mau_strat.specs.declared.forms.Form.{Form}
use Rattle.mau_strat.specs.Sharing.{Extends}
use Rattle.mau_strat.specs.Forms.{AreForms, LeafIn, strategy_at}
use Rattle.mau_stratforms.specs.Meanings.{meaning_of, definition_of}
use Rattle.mau_stratforms.specs.Tables.{IsTable, leaf_in}

-- the strategy with this number is s
abbrev pub IsNumberOf : List Form → List Strategy → Strategy → ℕ → Type 0
IsNumberOf forms table s n = (n < length forms) × (strategy_at (leaf_in table) forms n ≡ s)

-- a strategy has this number, and the bodies of these definitions have those, over a table that has all their leaves
pub record AreFormsOf (definitions : List StratDef) (s : StrategyOf) (forms : List Form) (table : List Strategy) (bodies : List StrategyId) (n : ℕ) : Type 0 where
  pub are_forms : AreForms forms
  pub leaves : All (LeafIn (length table)) forms
  pub is_table : IsTable table
  pub strategy : IsNumberOf forms table (meaning_of s) n
  pub count : length bodies ≡ length definitions
  pub numbers : (k : ℕ) (b : StrategyId) → slice_get bodies k ≡ Some b → IsNumberOf forms table (slice_index_or (map (λ d. d.body) (map definition_of definitions)) k idle) b.0

-- ---- as strategies are added

-- the leaves of the table have these numbers, others may be any
abbrev pub HasLeaves : (ℕ → Strategy) → List Strategy → Type 0
HasLeaves leaf table = (l : ℕ) (x : Strategy) → slice_get table l ≡ Some x → leaf l ≡ x

-- the strategy with this number is s, and stays so as leaves are added
abbrev pub IsMade : List Form → List Strategy → Strategy → ℕ → Type 0
IsMade forms table s n = (n < length forms) × ((leaf : ℕ → Strategy) → HasLeaves leaf table → strategy_at leaf forms n ≡ s)

-- there may be further strategies and leaves; those that were there keep their numbers
pub record Goes (f : List Form) (t : List Strategy) (f' : List Form) (t' : List Strategy) : Type 0 where
  pub forms : Extends f f'
  pub table : Extends t t'
  pub are_forms : AreForms f'
  pub leaves : All (LeafIn (length t')) f'
