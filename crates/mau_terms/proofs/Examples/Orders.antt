-- Computed comparisons of trees, and sorted lists.
use Rattle.std.proofs.Common.{◌≡◌, [], ◌∷◌, refl}
use Rattle.std.specs.declared.cmp.Ordering.TheVariants.{Less, Equal, Greater}
use Rattle.mau_terms.specs.Tree.{variable, numeral, node}
use Rattle.mau_terms.specs.Order.{tree_cmp, insert_tree, sort_trees}
use Rattle.mau_terms.proofs.Examples.Signature.{none, a, b, c, nil, s, f, g, X, Y}

numerals_by_value : tree_cmp (numeral 9) (numeral 10) ≡ Less
numerals_by_value = refl

numeral_before_variable : tree_cmp (numeral 7) (variable 0 0) ≡ Less
numeral_before_variable = refl

variable_before_operator : tree_cmp a (variable 9 9) ≡ Greater
variable_before_operator = refl

variables_by_index : tree_cmp (variable 0 5) (variable 1 2) ≡ Less
variables_by_index = refl

variables_by_sort : tree_cmp (variable 1 5) (variable 1 2) ≡ Greater
variables_by_sort = refl

operators_by_number : tree_cmp none nil ≡ Less
operators_by_number = refl

-- the operator comes before its arguments
number_before_arguments : tree_cmp (f b b) (g a a) ≡ Less
number_before_arguments = refl

arguments_from_the_left : tree_cmp (g a c) (g b a) ≡ Less
arguments_from_the_left = refl

prefix_first : tree_cmp (node 1 (a ∷ b ∷ [])) (node 1 (a ∷ b ∷ a ∷ [])) ≡ Less
prefix_first = refl

-- but the first difference decides
difference_before_length : tree_cmp (node 1 (b ∷ [])) (node 1 (a ∷ b ∷ a ∷ [])) ≡ Greater
difference_before_length = refl

tied : tree_cmp (g a X) (g a X) ≡ Equal
tied = refl

inserted : insert_tree b (a ∷ c ∷ []) ≡ a ∷ b ∷ c ∷ []
inserted = refl

inserted_again : insert_tree a (a ∷ c ∷ []) ≡ a ∷ a ∷ c ∷ []
inserted_again = refl

sorted : sort_trees (s a ∷ c ∷ X ∷ numeral 3 ∷ Y ∷ []) ≡ numeral 3 ∷ X ∷ Y ∷ s a ∷ c ∷ []
sorted = refl

sorted_keeps_each : sort_trees (b ∷ a ∷ b ∷ []) ≡ a ∷ b ∷ b ∷ []
sorted_keeps_each = refl

sorted_nothing : sort_trees [] ≡ []
sorted_nothing = refl
