-- The order of lists of values by their numbers, and the least of some.
use Rattle.std.specs.Prelude.{◌≡◌, ℕ, List, Option, None, Some, Contains}
use Rattle.std.specs.Cmp.Lexicographic.{slice_cmp}
use Rattle.std.specs.declared.cmp.Ordering.{Ordering}
use Rattle.std.specs.declared.cmp.Ordering.TheVariants.{Less, Greater}
use Rattle.mau_terms.specs.Solution.{list_cmp, value_keys}
use Rattle.mau_terms.specs.declared.ids.TermId.{TermId}
use Rattle.mau_terms.specs.declared.theory.Theory.{Theory}
use Rattle.mau_store.specs.Node.{Node}
use Rattle.mau_store.specs.Trees.{trees_at}
use Rattle.mau_store.specs.View.{numbers}
use Rattle.mau_listing.specs.declared.solution.Solution.{Solution}

-- the order of values of variables that first occur under these operators
abbrev pub values_cmp : (ℕ → Theory) → List (Option ℕ) → List Node → List TermId → List TermId → Ordering
values_cmp th os nodes vs ws = slice_cmp list_cmp (value_keys th os (trees_at nodes (numbers vs))) (value_keys th os (trees_at nodes (numbers ws)))

-- vs comes behind the values of the last solution, if there is one
abbrev pub IsBehindLast : (ℕ → Theory) → List (Option ℕ) → List Node → Option Solution → List TermId → Type 0
IsBehindLast th os nodes None vs = Unit {0}
IsBehindLast th os nodes (Some last) vs = values_cmp th os nodes last.values vs ≡ Less

-- none of these comes before vs
abbrev pub IsLeastOf : (ℕ → Theory) → List (Option ℕ) → List Node → List (List TermId) → List TermId → Type 0
IsLeastOf th os nodes ls vs = (ws : List TermId) → Contains ls ws → values_cmp th os nodes vs ws ≡ Greater → ⊥
