-- Lists by numbers: a list is a first element before a list with a smaller number, and 0 is the number of the empty list.
use Rattle.std.specs.Prelude.{◌≡◌, ℕ, ◌≤◌, List, [], ◌∷◌, ◌++◌, fold, slice_get, slice_index_or, Some}
use Rattle.mau_strat.specs.declared.lists.Link.{Link}

-- ---- values by numbers, which are their places

-- no value has two numbers
abbrev pub EachOnce : {A : Type 0} → List A → Type 0
EachOnce {A = A} xs = (j k : ℕ) (x : A) → slice_get xs j ≡ Some x → slice_get xs k ≡ Some x → j ≡ k

-- those that were there keep their numbers; others may follow
abbrev pub Extends : {A : Type 0} → List A → List A → Type 0
Extends {A = A} old new = (more : List A) × (new ≡ old ++ more)

-- ---- lists by numbers

-- the list with a number; past their end the empty list, which is never meant
abbrev pub list_at : {A : Type 0} → List (List A) → ℕ → List A
list_at ls n = slice_index_or ls n []

-- what is stored makes one list more
abbrev pub add_list : {A : Type 0} → List (List A) → Link A → List (List A)
add_list ls k = ls ++ (k.first ∷ list_at ls k.rest) ∷ []

-- the lists that are stored, in the order of their numbers
abbrev pub lists_of : {A : Type 0} → List (Link A) → List (List A)
lists_of links = fold add_list ([] ∷ []) links

-- what holds of what is stored: each is stored once, and its rest has a smaller number
pub record AreLinks {A : Type 0} (links : List (Link A)) : Type 0 where
  pub once : EachOnce links
  pub older : (n : ℕ) (k : Link A) → slice_get links n ≡ Some k → k.rest ≤ n
