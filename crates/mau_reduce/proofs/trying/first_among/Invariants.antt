use Rattle.std.proofs.Common.{◌-◌, ℕ, List, false, drop, length}
use Rattle.mau_formula.specs.Operator.{Operator}
use Rattle.mau_store.specs.Node.{Extends}
use Rattle.mau_store.specs.Trees.{tree_at}
use Rattle.mau_sorts.specs.Table.{KeepsEntries}
use Rattle.mau_evaluation.specs.Run.{first_of}
use Rattle.mau_api.specs.Programs.{program_over}
use Rattle.mau_api.specs.Meanings.{meanings_by}
use Rattle.mau_api.specs.Answers.{IsDerivedTable}
use Rattle.mau_reduce.specs.Tables.{IsSortTable}
use Rattle.mau_reduce.specs.Comes.{ComesTo}
use Rattle.mau_reduce.specs.Trying.{applied_number}
use Rattle.mau_reduce.proofs.trying.first_among.Given as goal

abbrev pub invariant-loop-next : goal.invariant-loop-next
invariant-loop-next g l = record {
  extends : Extends l.fn.store l.store;
  kept : KeepsEntries l.fn.table l.table;
  sort_table : IsSortTable l.program.sig l.store l.table;
  derived : (hooks : List Operator) (limit : ℕ) → IsDerivedTable (meanings_by l.program hooks limit false) l.fn.store l.fn.table → IsDerivedTable (meanings_by l.program hooks limit false) l.store l.table;
  rest : (hooks : List Operator) (B : ℕ) → IsDerivedTable (meanings_by l.program hooks B false) l.fn.store l.fn.table →
      ComesTo (program_over l.program hooks) (λ k. first_of (applied_number (program_over l.program hooks) B k (tree_at l.fn.store l.term.0)) (drop l.fn.next l.order))
      (λ k. first_of (applied_number (program_over l.program hooks) B k (tree_at l.fn.store l.term.0)) (drop l.next l.order));
}

abbrev pub decreases-loop-next : goal.decreases-loop-next
decreases-loop-next g l = length l.order - l.next
