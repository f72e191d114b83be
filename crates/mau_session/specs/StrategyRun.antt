-- Strategy runs of a command: what their strategies are read over, and what goes on.
use Rattle.std.specs.Prelude.{ℕ, ◌+◌, List, length, map}
use Rattle.mau_terms.specs.Tree.{Tree}
use Rattle.mau_tokens.specs.declared.token.Token.{Token}
use Rattle.mau_modtext.specs.Word.{Word}
use Rattle.mau_program.specs.Trees.{StrategyOf}
use Rattle.mau_evaluation.specs.Strategy.{StratDef}
use Rattle.mau_strattext.specs.Setting.{SettingOf, setting_of}
use Rattle.mau_stratforms.specs.Meanings.{meaning_of, definition_of}
use Rattle.mau_solutions.specs.Listings.{ReachedOf, reached_first}
use Rattle.mau_module.specs.Modules.{ModuleOf}
use Rattle.mau_module.specs.Conditions.{context_of}
use Rattle.mau_module.specs.Named.{labels_of}
use Rattle.mau_session.specs.Terms.{Pairs}

-- the tokens ts are those of a strategy, over the labels of all rules of the module and all strategies that are declared there
abbrev pub strategy_setting : List Word → ModuleOf → List Token → SettingOf
strategy_setting ws m ts = setting_of ws ts (context_of m) (labels_of m.statements.rules) m.statements.strats

-- what the definitions of the module mean, in order
abbrev pub definitions_of : ModuleOf → List StratDef
definitions_of m = map definition_of m.statements.strategies

-- a strategy run that may go on: where it stands, how many solutions were shown, and the variables of the command that began it
pub record StrategyRunOf : Type 0 where
  pub reached : ReachedOf
  pub shown : ℕ
  pub variables : Pairs

-- a run of the strategy x from v, of which nothing was shown
abbrev pub begun_strategy : StrategyOf → Tree → Pairs → StrategyRunOf
begun_strategy x v ns = record { reached = reached_first (meaning_of x) v; shown = 0; variables = ns }

-- it has shown these too, each with its sort, and stands at `last`
abbrev pub shown_further : StrategyRunOf → List (Tree × ℕ) → ReachedOf → StrategyRunOf
shown_further r found last = record { reached = last; shown = r.shown + length found; variables = r.variables }
