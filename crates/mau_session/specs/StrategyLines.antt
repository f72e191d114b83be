-- The bytes of the answers of strategy runs, and what they leave.
use Rattle.std.specs.Prelude.{ℕ, zero, suc, ◌+◌, List, [], ◌∷◌, ◌++◌, length, codes, decimal}
use Rattle.mau_terms.specs.Tree.{Tree}
use Rattle.mau_strattext.specs.declared.fault.StratFault.{StratFault}
use Rattle.mau_solutions.specs.Listings.{StrategyEnd, no_more, bound_reached, ends_by, call_depth}
use Rattle.mau_module.specs.Modules.{ModuleOf}
use Rattle.mau_session.specs.Terms.{Pairs}
use Rattle.mau_session.specs.Answers.{item_head, faulty_line, shown_strategy_fault}
use Rattle.mau_session.specs.Lines.{result_line, end_line}
use Rattle.mau_session.specs.StrategyRun.{StrategyRunOf}
use Rattle.mau_session.specs.State.{a_strategy_run, OutcomeOf, has_ended, goes_on}

-- why the strategy of a command is refused
abbrev pub strategy_fault_line : ℕ → StratFault → List ℕ
strategy_fault_line k f = faulty_line k (shown_strategy_fault f)

abbrev pub strategy_head : ℕ → ModuleOf → List ℕ
strategy_head k m = item_head k ++ codes "dsrewrite in " ++ m.name ++ codes "\n"

-- the solution with the number i, and the sort that is shown for it
abbrev pub solution_lines : ModuleOf → Pairs → ℕ → Tree × ℕ → List ℕ
solution_lines m ns i x = codes "Solution " ++ decimal i ++ codes "\n" ++ result_line m ns x.1 x.0

-- the solutions, numbered from i on
abbrev pub all_solutions : ModuleOf → Pairs → ℕ → List (Tree × ℕ) → List ℕ
all_solutions m ns i [] = []
all_solutions m ns i (x ∷ found) = solution_lines m ns i x ++ all_solutions m ns (i + 1) found

-- where there is no further solution behind so many
abbrev pub no_more_line : ℕ → List ℕ
no_more_line zero = codes "No solution.\n"
no_more_line (suc n) = codes "No more solutions.\n"

-- where so many solutions were shown in all, by an item with this budget
abbrev pub strategy_end_line : ℕ → StrategyEnd → ℕ → List ℕ
strategy_end_line budget no_more n = no_more_line n
strategy_end_line budget bound_reached n = codes "Bound reached.\n"
strategy_end_line budget (ends_by e) n = end_line budget e
strategy_end_line budget call_depth n = codes "Call depth: 200.\n"

-- what a strategy run shows, behind the solutions that it has shown before
abbrev pub strategy_lines : ModuleOf → ℕ → StrategyRunOf → List (Tree × ℕ) → StrategyEnd → List ℕ
strategy_lines m budget r found e = all_solutions m r.variables (r.shown + 1) found ++ strategy_end_line budget e (r.shown + length found)

-- where as many solutions were shown as were asked for, the run may go on
abbrev pub left_by_strategy : StrategyEnd → StrategyRunOf → OutcomeOf
left_by_strategy no_more r = has_ended
left_by_strategy bound_reached r = goes_on (a_strategy_run r)
left_by_strategy (ends_by e) r = has_ended
left_by_strategy call_depth r = has_ended
