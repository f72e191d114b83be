-- The laws of built terms. Each is proved: a public function of the module `laws` has it for its contract.
use Rattle.std.specs.Prelude.{◌≡◌, ◌↔◌, ℕ, List, All, Some, map, slice_get}
use Rattle.mau_terms.specs.Tree.{Tree, node}
use Rattle.mau_terms.specs.Norm.{norm}
use Rattle.mau_terms.specs.Reading.{nest}
use Rattle.mau_terms.specs.Lawful.{AreLawful}
use Rattle.mau_terms.specs.Bare.{TermSignature, IsBare, EqualModulo, IsLawful}
use Rattle.mau_terms.specs.declared.theory.Theory.{Theory}
use Rattle.mau_store.specs.Node.{Node, arguments, IsOf, AreNodes, Extends}
use Rattle.mau_store.specs.Trees.{StandsFor}
use Rattle.mau_canon.specs.Within.{IsWithin}
use Rattle.mau_canon.specs.Standing.{StandsWithin, StandWithin}

-- ---- equal terms

-- the numbers that two calls give for two bare terms, one call after the other, are one exactly where the terms are equal modulo
-- the axioms
abbrev pub OneNumberWhereEqual : Type 0
OneNumberWhereEqual =
    (s : TermSignature) → IsLawful s → (t u : Tree) → IsBare s t → IsBare s u →
    (old new : List Node) → AreNodes new → Extends old new → (i j : ℕ) → IsOf old i → IsOf new j →
    StandsFor s.theory old i t → StandsFor s.theory new j u → (i ≡ j) ↔ EqualModulo s t u

-- ---- lists of an associative operator

-- an operator over a list of normal forms stands for the operator over the terms, which is nested where it is associative
abbrev pub ListStandsForNested : Type 0
ListStandsForNested =
    (th : ℕ → Theory) → AreLawful th → (f : ℕ) (ts : List Tree) →
    norm th (node f (map (norm th) ts)) ≡ norm th (nest (th f).assoc f ts)

-- ---- normal forms within the limits

-- the arguments of a normal form within the limits are such normal forms
abbrev pub ArgumentsStandWithin : Type 0
ArgumentsStandWithin =
    (th : ℕ → Theory) → AreLawful th → (nodes : List Node) → AreNodes nodes → (i : ℕ) (n : Node) → slice_get nodes i ≡ Some n →
    StandsWithin th nodes i → StandWithin th nodes (arguments n)

-- what is within the limits was built of normal forms within the limits
abbrev pub ArgumentsAreWithin : Type 0
ArgumentsAreWithin =
    (th : ℕ → Theory) → AreLawful th → (f : ℕ) (ts : List Tree) → All (λ t. norm th t ≡ t) ts →
    IsWithin th (norm th (node f ts)) → All (IsWithin th) ts

-- they stay what they are in a store that grows
abbrev pub StandsWithinExtended : Type 0
StandsWithinExtended =
    (th : ℕ → Theory) (old new : List Node) → Extends old new → (i : ℕ) → StandsWithin th old i → StandsWithin th new i
