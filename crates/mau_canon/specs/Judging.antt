-- The tests by which the code judges a normal form.
use Rattle.std.specs.Prelude.{◌≡◌, ℕ, ◌<◌, ◌≤◌, ◌==◌, Bool, true, false, ◌&&◌}
use Rattle.mau_terms.specs.Tree.{Tree, apply}
use Rattle.mau_terms.specs.Depth.{depth}
use Rattle.mau_terms.specs.Norm.{is_greatest_numeral}
use Rattle.mau_canon.specs.declared.TheConstants.{MAX_DEPTH}
use Rattle.mau_canon.specs.declared.fault.BuildFault.{BuildFault}
use Rattle.mau_canon.specs.declared.fault.BuildFault.TheVariants.{TooDeep, Overflow, NoMemory}

-- t is f, which s says is the successor, over the greatest numeral
abbrev pub is_overflow : Bool → ℕ → Tree → Bool
is_overflow s f (apply g ts) = s && ((g == f) && is_greatest_numeral ts)
is_overflow s f t = false

-- why a normal form is refused, by its depth d, and where o says whether it holds the successor of the greatest numeral
abbrev pub IsJudged : ℕ → Bool → BuildFault → Type 0
IsJudged d o TooDeep = MAX_DEPTH < d
IsJudged d o Overflow = (d ≤ MAX_DEPTH) × (o ≡ true)
IsJudged d o NoMemory = ⊥
