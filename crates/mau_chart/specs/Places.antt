-- Places with their ends, and ends that are marked.
use Rattle.std.specs.Prelude.{◌≡◌, ℕ, ◌≤◌, ◌<◌, List, Bool, Some, true, false, get_or}
use Rattle.std.specs.List.{slice_get}
use Rattle.mau_chart.specs.declared.places.Place.{Place}

-- each place ends between low and high
abbrev pub AreWithin : ℕ → ℕ → List Place → Type 0
AreWithin low high places = (z : ℕ) (p : Place) → slice_get places z ≡ Some p → (low ≤ p.end) × (p.end ≤ high)

-- each end from low to below high is marked
abbrev pub IsStretch : List Bool → ℕ → ℕ → Type 0
IsStretch full low high = (e : ℕ) → low ≤ e → e < high → get_or full e false ≡ true
