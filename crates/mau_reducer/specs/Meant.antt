-- What the evaluator's answers mean: the definitions of evaluation for its program. No result is remembered.
use Rattle.std.specs.Prelude.{ℕ, List, Option, false}
use Rattle.mau_terms.specs.Tree.{Tree}
use Rattle.mau_evaluation.specs.Run.{Run}
use Rattle.mau_evaluation.specs.Program.{Fragment, Program}
use Rattle.mau_evaluation.specs.Evaluation.{Binding, eval, sorts_at, solve_at, solve_after_at}
use Rattle.mau_api.specs.Programs.{program_over}
use Rattle.mau_api.specs.Meanings.{Meanings}
use Rattle.mau_reducer.specs.Basis.{Basis}

-- these do not compute, since an item has 2,000 levels
unfoldable pub evaluation_by : Program → ℕ → ℕ → Tree → Run Tree
evaluation_by P = eval P

unfoldable pub solving_by : Program → ℕ → ℕ → List Fragment → Binding → Run (Option Binding)
solving_by P = solve_at P

unfoldable pub solving_after_by : Program → ℕ → ℕ → Binding → List Fragment → Binding → Run (Option Binding)
solving_after_by P = solve_after_at P

unfoldable pub sorting_by : Program → ℕ → ℕ → Tree → Run (List ℕ)
sorting_by P = sorts_at P

abbrev pub meanings_of : Basis → Meanings
meanings_of b = record {
  program = b.program;
  hooks = b.hooks;
  limit = b.limit;
  remembers = false;
  evaluation = evaluation_by (program_over b.program b.hooks);
  solving = solving_by (program_over b.program b.hooks);
  solving_after = solving_after_by (program_over b.program b.hooks);
  sorting = sorting_by (program_over b.program b.hooks);
}
