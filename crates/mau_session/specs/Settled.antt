-- The sorts of a subject, which are taken before a listing begins.
use Rattle.std.specs.Prelude.{◌≡◌, ◌⊎◌, ℕ, ◌≤◌, List}
use Rattle.mau_terms.specs.Tree.{Tree}
use Rattle.mau_terms.specs.Finite.{IsIn}
use Rattle.mau_evaluation.specs.Run.{End, stopped, too_deep, overflowed, done, ended}
use Rattle.mau_api.specs.Meanings.{Meanings, program_of}
use Rattle.mau_results.specs.Results.{item_levels}

-- the sorts of the normal form t are known by the meanings e, on some number of levels and with the budget of an item for each condition of a membership
pub record AreSortsKnown (e : Meanings) (t : Tree) : Type 0 where
  pub levels : ℕ
  pub sorts : List ℕ
  pub known : (b : ℕ) → e.sorting levels e.limit t b ≡ done sorts 0 b

-- u is t or an identity
abbrev pub IsTakenFor : Meanings → Tree → Tree → Type 0
IsTakenFor e t u = (u ≡ t) ⊎ IsIn u (program_of e).units

-- The sorts of t or of an identity end so: Stopped for just the budget of an item, Too deep for just the levels of an item, and Overflow for limits that are no
-- smaller. Sorts take nothing from the budget of the item itself.
abbrev pub SortsEnd : Meanings → Tree → End → Type 0
SortsEnd e t stopped = (u : Tree) × IsTakenFor e t u × ((k : ℕ) × (e.sorting k e.limit u 0 ≡ ended stopped))
SortsEnd e t too_deep = (u : Tree) × IsTakenFor e t u × ((B c : ℕ) × (e.sorting item_levels B u c ≡ ended too_deep))
SortsEnd e t overflowed = (u : Tree) × IsTakenFor e t u × ((k B c : ℕ) × (item_levels ≤ k) × (e.limit ≤ B) × (0 ≤ c) × (e.sorting k B u c ≡ ended overflowed))
