-- Normal forms within the limits, and why a term has none.
use Rattle.std.specs.Prelude.{◌≡◌, ℕ, ◌<◌, ◌≤◌, true, false}
use Rattle.mau_terms.specs.Tree.{Tree}
use Rattle.mau_terms.specs.Depth.{depth}
use Rattle.mau_terms.specs.Norm.{holds_overflow}
use Rattle.mau_terms.specs.declared.theory.Theory.{Theory}
use Rattle.mau_canon.specs.declared.TheConstants.{MAX_DEPTH}
use Rattle.mau_canon.specs.declared.fault.BuildFault.{BuildFault}
use Rattle.mau_canon.specs.declared.fault.BuildFault.TheVariants.{TooDeep, Overflow, NoMemory}

-- ---- trees, where th gives the axioms of each operator

-- t is at most 1,000 deep, and does not hold the successor of the greatest numeral
pub record IsWithin (th : ℕ → Theory) (t : Tree) : Type 0 where
  pub shallow : depth t ≤ MAX_DEPTH
  pub no_overflow : holds_overflow th t ≡ false

-- why the normal form t is refused: it is too deep, or else it holds the successor of the greatest numeral; memory may be wanting
-- for every term
abbrev pub IsCause : (ℕ → Theory) → Tree → BuildFault → Type 0
IsCause th t TooDeep = MAX_DEPTH < depth t
IsCause th t Overflow = (depth t ≤ MAX_DEPTH) × (holds_overflow th t ≡ true)
IsCause th t NoMemory = Unit {0}
