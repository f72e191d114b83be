use Rattle.std.proofs.Common.{◌≡◌, ℕ, List, false}
use Rattle.mau_formula.specs.Operator.{Operator}
use Rattle.mau_api.specs.Meanings.{meanings_by}
use Rattle.mau_api.specs.Answers.{IsDerivedTable}
use Rattle.mau_settling.specs.Settlings.{IsSettling, DerivesCurrent}
use Rattle.mau_settling.specs.Beginning.{IsLater}
use Rattle.mau_settling.proofs.settling.Settling.advance.Given as goal

abbrev pub invariant-loop : goal.invariant-loop
invariant-loop g l = record {
  settling : IsSettling l.program l.store l.table l.self;
  derives : (hooks : List Operator) (limit : ℕ) → IsDerivedTable (meanings_by l.program hooks limit false) l.fn.store l.fn.table
      → DerivesCurrent l.program hooks limit l.fn.store l.fn.self → DerivesCurrent l.program hooks limit l.store l.self;
  derived : (hooks : List Operator) (limit : ℕ) → DerivesCurrent l.program hooks limit l.fn.store l.fn.self
      → IsDerivedTable (meanings_by l.program hooks limit false) l.fn.store l.fn.table → IsDerivedTable (meanings_by l.program hooks limit false) l.store l.table;
  term : l.self.term ≡ l.fn.self.term;
  later : IsLater l.program l.fn.store l.store l.fn.table l.table;
}
