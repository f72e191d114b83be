-- Tables of an evaluator, over the sorts of its program.
use Rattle.std.proofs.Common.{◌≡◌, List, subst}
use Rattle.mau_store.specs.Node.{Node}
use Rattle.mau_sorts.specs.Table.{Table, AreOver}
use Rattle.mau_program.specs.declared.program.Program.{Program}
use Rattle.mau_api.specs.Meanings.{Meanings}
use Rattle.mau_api.specs.Answers.{IsDerivedTable}

pub over_of : (p : Program) (m n : Meanings) → n ≡ m → m.program ≡ p → (nodes : List Node) (table : Table) → IsDerivedTable n nodes table → AreOver p.sig.hierarchy table
over_of p m n same program nodes table derived =
    subst (λ (q : Program). AreOver q.sig.hierarchy table) program (subst (λ (k : Meanings). AreOver k.program.sig.hierarchy table) same derived.over)
