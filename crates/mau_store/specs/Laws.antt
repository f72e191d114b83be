-- The laws of shared terms. Each is proved: a public function of the module `laws` has it for its contract.
use Rattle.std.specs.Prelude.{◌≡◌, ◌↔◌, ℕ, List, Some, slice_get}
use Rattle.std.specs.declared.cmp.Ordering.TheVariants.{Equal as Tied}
use Rattle.mau_terms.specs.Tree.{Tree}
use Rattle.mau_terms.specs.Order.{tree_cmp}
use Rattle.mau_terms.specs.Lawful.{AreLawful}
use Rattle.mau_terms.specs.Bare.{TermSignature, IsBare, EqualModulo, IsLawful}
use Rattle.mau_terms.specs.declared.theory.Theory.{Theory}
use Rattle.mau_store.specs.Node.{Node, arguments, IsOf, AreNodes, Extends}
use Rattle.mau_store.specs.Trees.{tree_over, tree_at, StandsFor, StandsForNorm, StandForNorms}

-- ---- numbers and trees

-- the tree of a number is made of its node, over the trees of the arguments
abbrev pub TreeOfNode : Type 0
TreeOfNode =
    (nodes : List Node) → AreNodes nodes → (i : ℕ) (n : Node) → slice_get nodes i ≡ Some n →
    tree_at nodes i ≡ tree_over (tree_at nodes) n

-- two numbers are one exactly where they stand for the same tree
abbrev pub OneNumberWhereOneTree : Type 0
OneNumberWhereOneTree =
    (nodes : List Node) → AreNodes nodes → (i j : ℕ) → IsOf nodes i → IsOf nodes j →
    (i ≡ j) ↔ (tree_at nodes i ≡ tree_at nodes j)

-- two numbers tie in the order of trees exactly where they are one
abbrev pub TiedWhereOneNumber : Type 0
TiedWhereOneNumber =
    (nodes : List Node) → AreNodes nodes → (i j : ℕ) → IsOf nodes i → IsOf nodes j →
    (tree_cmp (tree_at nodes i) (tree_at nodes j) ≡ Tied) ↔ (i ≡ j)

-- numbers that stand for two bare terms are one exactly where the terms are equal modulo the axioms
abbrev pub OneNumberWhereEqual : Type 0
OneNumberWhereEqual =
    (s : TermSignature) → IsLawful s → (t u : Tree) → IsBare s t → IsBare s u →
    (nodes : List Node) → AreNodes nodes → (i j : ℕ) → IsOf nodes i → IsOf nodes j →
    StandsFor s.theory nodes i t → StandsFor s.theory nodes j u → (i ≡ j) ↔ EqualModulo s t u

-- the arguments of a normal form are normal forms
abbrev pub ArgumentsStandForNorms : Type 0
ArgumentsStandForNorms =
    (th : ℕ → Theory) → AreLawful th → (nodes : List Node) → AreNodes nodes → (i : ℕ) (n : Node) → slice_get nodes i ≡ Some n →
    StandsForNorm th nodes i → StandForNorms th nodes (arguments n)

-- ---- stores that grow

-- a store extends itself, and what extends an extension extends the first
pub record ExtensionIsPreorder : Type 0 where
  pub reflexive : (s : List Node) → Extends s s
  pub transitive : (s t u : List Node) → Extends s t → Extends t u → Extends s u

-- the number i keeps its node and its tree
pub record KeepsTerm (old new : List Node) (i : ℕ) : Type 0 where
  pub number : IsOf new i
  pub node : slice_get new i ≡ slice_get old i
  pub tree : tree_at new i ≡ tree_at old i

-- an extension keeps each number that was there
abbrev pub ExtensionKeepsTerms : Type 0
ExtensionKeepsTerms = (old new : List Node) → Extends old new → (i : ℕ) → IsOf old i → KeepsTerm old new i
