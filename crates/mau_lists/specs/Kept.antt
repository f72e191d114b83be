-- What holds of the lists that a listing keeps.
use Rattle.std.specs.Prelude.{◌≡◌, ℕ, List, length, Option, IfSome}
use Rattle.mau_terms.specs.declared.ids.TermId.{TermId}
use Rattle.mau_lists.specs.Lists.{IsSubList}
use Rattle.mau_lists.specs.Place.{front_of, IsWithin}
use Rattle.mau_lists.specs.Following.{FitsIn}

-- there is room for any sub-list of the items, and what is due is one
pub record HoldsRoom (items given due : List TermId) (due_len : Option ℕ) : Type 0 where
  pub given_room : length given ≡ length items
  pub due_room : length due ≡ length items
  pub within : IsWithin due_len (length items)
  pub part : IfSome (front_of due_len due) (λ list. IsSubList list items)

-- the part that is due is one of the items, and there is a number for each place of them
pub record HoldsTable (items : List TermId) (fronts : List ℕ) (due : Option (ℕ × ℕ)) : Type 0 where
  pub fits : FitsIn items due
  pub room : length fronts ≡ length items
