use Rattle.std.proofs.Common.{◌≡◌, ℕ, List, false}
use Rattle.mau_formula.specs.Operator.{Operator}
use Rattle.mau_program.specs.declared.program.Program as Typed
use Rattle.mau_api.specs.Meanings.{meanings_by}
use Rattle.mau_api.specs.Answers.{IsDerivedTable}
use Rattle.mau_settling.specs.Settlings.{IsSettling, DerivesCurrent}
use Rattle.mau_settling.specs.Beginning.{IsLater}
use Rattle.mau_settling.proofs.solving.settle_by.Given as goal

abbrev pub invariant-loop : goal.invariant-loop
invariant-loop g l = record {
  settling : IsSettling l.program l.store l.table l.settling;
  derives : (hooks : List Operator) (limit : ℕ) → g.S.ConditionSolver.right l.fn.solver l.program hooks limit → IsDerivedTable (meanings_by l.program hooks limit false) l.fn.store l.fn.table
      → DerivesCurrent l.program hooks limit l.store l.settling;
  derived : (hooks : List Operator) (limit : ℕ) → g.S.ConditionSolver.right l.fn.solver l.program hooks limit → IsDerivedTable (meanings_by l.program hooks limit false) l.fn.store l.fn.table
      → IsDerivedTable (meanings_by l.program hooks limit false) l.store l.table;
  right : (p : Typed.Program) (hooks : List Operator) (limit : ℕ) → g.S.ConditionSolver.right l.fn.solver p hooks limit → g.S.ConditionSolver.right l.solver p hooks limit;
  term : l.settling.term ≡ l.fn.term;
  later : IsLater l.program l.fn.store l.store l.fn.table l.table;
}
