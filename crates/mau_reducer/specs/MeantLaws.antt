-- What is meant is lawful.
use Rattle.std.proofs.Common.{◌≡◌, ℕ, List, false, refl, sym, subst}
use Rattle.mau_terms.specs.Tree.{Tree}
use Rattle.mau_evaluation.specs.Program.{Fragment, Program}
use Rattle.mau_evaluation.specs.Evaluation.{Binding, eval, sorts_at, solve_at, solve_after_at}
use Rattle.mau_store.specs.Node.{Node}
use Rattle.mau_sorts.specs.Table.{Table}
use Rattle.mau_api.specs.Meanings.{meanings_by, AreMeanings}
use Rattle.mau_api.specs.Answers.{IsDerivedTable}
use Rattle.mau_api.proofs.LawfulMeanings.{meanings_are_lawful}
use Rattle.mau_reducer.specs.Basis.{Basis}
use Rattle.mau_reducer.specs.States.{IsOwnTable}
use Rattle.mau_reducer.specs.Meant.{evaluation_by, solving_by, solving_after_by, sorting_by, meanings_of}

pub meanings_are : (b : Basis) → meanings_of b ≡ meanings_by b.program b.hooks b.limit false
unfolding evaluation_by solving_by solving_after_by sorting_by
meanings_are b = refl

pub are_meanings : (b : Basis) → AreMeanings (meanings_of b)
are_meanings b = subst AreMeanings (sym (meanings_are b)) (meanings_are_lawful b.program b.hooks b.limit false)

-- the table has the sorts that are meant
pub derived_as_meant : (b : Basis) (nodes : List Node) (table : Table) → IsOwnTable b nodes table → IsDerivedTable (meanings_of b) nodes table
derived_as_meant b nodes table own = subst (λ m. IsDerivedTable m nodes table) (sym (meanings_are b)) own

pub evaluation_is : (P : Program) (k B : ℕ) (t : Tree) → evaluation_by P k B t ≡ eval P k B t
unfolding evaluation_by
evaluation_is P k B t = refl

pub sorting_is : (P : Program) (k B : ℕ) (t : Tree) → sorting_by P k B t ≡ sorts_at P k B t
unfolding sorting_by
sorting_is P k B t = refl

pub solving_is : (P : Program) (k B : ℕ) (c : List Fragment) (σ : Binding) → solving_by P k B c σ ≡ solve_at P k B c σ
unfolding solving_by
solving_is P k B c σ = refl

pub solving_after_is : (P : Program) (k B : ℕ) (last : Binding) (c : List Fragment) (σ : Binding) → solving_after_by P k B last c σ ≡ solve_after_at P k B last c σ
unfolding solving_after_by
solving_after_is P k B last c σ = refl
