-- What values of the code stand for, the code of trees, and the variables of an item, computed.
use Rattle.std.proofs.Common.{◌≡◌, ℕ, List, [], ◌∷◌, true, false, Option, Some, None, refl, ap, arith}
use Rattle.mau_terms.specs.Tree.{variable, numeral, no_trees, tree, trees_of, list_of, node}
use Rattle.mau_terms.specs.View.{tree_of, variable_of, instance_by}
use Rattle.mau_terms.specs.Code.{marks_of, tree_at_marks}
use Rattle.mau_terms.specs.Vars.{same_pair, place_of, with_pair, AreDistinct, IsGiven}
use Rattle.mau_terms.specs.declared.ids.VarId.{VarId}
use Rattle.mau_terms.specs.declared.ids.OpId.{OpId}
use Rattle.mau_terms.specs.declared.bare.Bare.TheVariants.{Var, Num, App}
use Rattle.mau_terms.proofs.Examples.Signature.{a, b, g, X}

-- ---- trees

trees_of_two : trees_of (a ∷ b ∷ []) ≡ tree a (tree b no_trees)
trees_of_two = refl

list_of_two : list_of (tree a (tree b no_trees)) ≡ a ∷ b ∷ []
list_of_two = refl

binary_node : node 10 (a ∷ b ∷ []) ≡ g a b
binary_node = refl

-- ---- terms of the code

abbrev first : VarId
first = record { index = 0; sort = 1 }

abbrev ten : OpId
ten = record { 0 = 10 }

tree_of_variable : tree_of (Var first) ≡ variable 0 1
tree_of_variable = refl

tree_of_numeral : tree_of (Num 5) ≡ numeral 5
tree_of_numeral = refl

tree_of_operator : tree_of (App ten (a ∷ b ∷ [])) ≡ g a b
tree_of_operator = refl

variable_of_first : variable_of first ≡ (0, 1)
variable_of_first = refl

instance_by_one : instance_by ((first, Num 5) ∷ []) (g X a) ≡ g (numeral 5) a
instance_by_one = refl

instance_by_none : instance_by [] (g X a) ≡ g X a
instance_by_none = refl

-- the first of two values counts
instance_by_two : instance_by ((first, Num 5) ∷ (first, Num 6) ∷ []) X ≡ numeral 5
instance_by_two = refl

-- ---- the code of trees

marks_of_variable : marks_of X ≡ (0, (0, 1)) ∷ []
marks_of_variable = refl

marks_of_constant : marks_of a ≡ (3, (0, 0)) ∷ (2, (3, 0)) ∷ []
marks_of_constant = refl

read_again : tree_at_marks (marks_of (g a X)) ≡ g a X
read_again = refl

-- ---- the variables of an item: X, Y and Z are the bytes 88, 89 and 90

abbrev pairs : List (List ℕ × ℕ)
pairs = (88 ∷ [], 1) ∷ (89 ∷ [], 1) ∷ (88 ∷ [], 2) ∷ []

same : same_pair (88 ∷ [], 1) (88 ∷ [], 1) ≡ true
same = refl

other_name : same_pair (88 ∷ [], 1) (88 ∷ 49 ∷ [], 1) ≡ false
other_name = refl

other_sort : same_pair (88 ∷ [], 1) (88 ∷ [], 2) ≡ false
other_sort = refl

place_of_first : place_of pairs (88 ∷ [], 1) ≡ 0
place_of_first = refl

-- a name with another sort is another variable
place_of_third : place_of pairs (88 ∷ [], 2) ≡ 2
place_of_third = refl

place_of_new : place_of pairs (90 ∷ [], 1) ≡ 3
place_of_new = refl

old_pair_stays : with_pair pairs (89 ∷ [], 1) ≡ pairs
old_pair_stays = refl

new_pair_goes_last : with_pair ((88 ∷ [], 1) ∷ []) (89 ∷ [], 1) ≡ (88 ∷ [], 1) ∷ (89 ∷ [], 1) ∷ []
new_pair_goes_last = refl

first_pair : with_pair [] (88 ∷ [], 1) ≡ (88 ∷ [], 1) ∷ []
first_pair = refl

distinct : AreDistinct pairs
distinct = (refl, (refl, (refl, tt)))

twice : AreDistinct ((88 ∷ [], 1) ∷ (89 ∷ [], 1) ∷ (88 ∷ [], 1) ∷ []) → ⊥
twice x = let e = x.0 in cc

given : IsGiven pairs (record { index = 1; sort = 1 })
given = (89 ∷ [], refl)

abbrev sort_of : Option (List ℕ × ℕ) → ℕ
sort_of None = 0
sort_of (Some x) = x.1

-- an index that is there, with another sort
not_of_this_sort : IsGiven pairs (record { index = 1; sort = 2 }) → ⊥
not_of_this_sort x = omega (arith, ap sort_of x.1)

not_yet_given : IsGiven pairs (record { index = 3; sort = 1 }) → ⊥
not_yet_given x = let e = x.1 in cc
