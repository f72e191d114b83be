-- What a listing ends as, once the list that it gave is no longer read.
use Rattle.std.specs.Prelude.{⊤}
use Rattle.std.specs.Borrow.{MutBor, Fml, follows_so}
use mathlib.Core.Option.{none}
use Rattle.mau_lists.specs.Place.{Place}
use Rattle.mau_lists.specs.contracts.sub_lists.SubLists.{the_row}
use Rattle.mau_lists.specs.contracts.segments.Segments.{the_row as segments_row}

-- s ends at a place that P holds of
abbrev pub SubListsEndAs : MutBor Place → (Place → Type 0) → Fml
SubListsEndAs s P = follows_so the_row the_row s.ghost_name none (λ _ _. ⊤) P

abbrev pub SegmentsEndAs : MutBor Place → (Place → Type 0) → Fml
SegmentsEndAs s P = follows_so segments_row segments_row s.ghost_name none (λ _ _. ⊤) P
