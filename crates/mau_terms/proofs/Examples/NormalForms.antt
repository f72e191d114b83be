-- Computed normal forms, lists, depths and overflows.
use Rattle.std.proofs.Common.{◌≡◌, [], ◌∷◌, true, false, Some, None, refl}
use Rattle.mau_terms.specs.Tree.{Tree, numeral, node}
use Rattle.mau_terms.specs.Norm.{greatest_numeral, is_unit, elements, pieces, all_pieces, arrange, over_one, finish, build, norm, holds_overflow}
use Rattle.mau_terms.specs.Depth.{depth}
use Rattle.mau_terms.specs.Solution.{list_under, over_list}
use Rattle.mau_terms.specs.Reading.{nest, reading}
use Rattle.mau_terms.proofs.Examples.Signature.{theory, constant, set_axioms, f_axioms, k_axioms, plain, none, a, b, c, nil, s, set, k, f, h, g, p, m, X}

abbrev N : Tree → Tree
N = norm theory

-- the list of the set a b
abbrev ab : Tree
ab = node 1 (a ∷ b ∷ [])

-- ---- the twelve ways to write a, b and the identity under an associative and commutative operator

twelve_1 : N (set (set a b) none) ≡ ab
twelve_1 = refl

twelve_2 : N (set (set a none) b) ≡ ab
twelve_2 = refl

twelve_3 : N (set (set b a) none) ≡ ab
twelve_3 = refl

twelve_4 : N (set (set b none) a) ≡ ab
twelve_4 = refl

twelve_5 : N (set (set none a) b) ≡ ab
twelve_5 = refl

twelve_6 : N (set (set none b) a) ≡ ab
twelve_6 = refl

twelve_7 : N (set a (set b none)) ≡ ab
twelve_7 = refl

twelve_8 : N (set a (set none b)) ≡ ab
twelve_8 = refl

twelve_9 : N (set b (set a none)) ≡ ab
twelve_9 = refl

twelve_10 : N (set b (set none a)) ≡ ab
twelve_10 = refl

twelve_11 : N (set none (set a b)) ≡ ab
twelve_11 = refl

twelve_12 : N (set none (set b a)) ≡ ab
twelve_12 = refl

-- ---- associativity and commutativity

-- a list keeps its order
list_in_order : N (f (f b a) b) ≡ node 8 (b ∷ a ∷ b ∷ [])
list_in_order = refl

-- a pair is sorted, and not made one list with another
pair_sorted : N (h (h b a) b) ≡ h b (h a b)
pair_sorted = refl

-- an element stands as often as it is there
list_sorted : N (set (set b a) b) ≡ node 1 (a ∷ b ∷ b ∷ [])
list_sorted = refl

no_axiom : N (g (g b a) (g a X)) ≡ g (g b a) (g a X)
no_axiom = refl

-- ---- identities

-- one that is a numeral
zero_dropped : N (p (p (numeral 0) b) a) ≡ node 11 (b ∷ a ∷ [])
zero_dropped = refl

all_zero : N (p (numeral 0) (numeral 0)) ≡ numeral 0
all_zero = refl

-- none as an argument of an operator with another identity, and that identity as an element
other_identity_stays : N (k none b) ≡ k none b
other_identity_stays = refl

both_identities : N (set (k nil b) (set a (k none nil))) ≡ ab
both_identities = refl

-- without associativity the identity is dropped, and nothing is made a list
dropped_in_pair : N (k (k nil b) (k a nil)) ≡ k b a
dropped_in_pair = refl

-- under a commutative operator that is not associative
dropped_in_commutative_pair : N (m (m b none) (m none a)) ≡ m a b
dropped_in_commutative_pair = refl

-- ---- lists that collapse

-- to no element: the identity
collapse_to_identity : N (set (k nil none) (set none none)) ≡ none
collapse_to_identity = refl

-- to one element
collapse_to_element : N (set none (set a none)) ≡ a
collapse_to_element = refl

-- what collapses to a list of the same operator becomes a part of the list around it
collapse_to_list : N (set (k nil (set b a)) b) ≡ node 1 (a ∷ b ∷ b ∷ [])
collapse_to_list = refl

collapse_to_ordered_list : N (f (k (f a b) nil) a) ≡ node 8 (a ∷ b ∷ a ∷ [])
collapse_to_ordered_list = refl

-- ---- the successor

five : N (s (s (numeral 3))) ≡ numeral 5
five = refl

greatest_is_reached : N (s (numeral 340282366920938463463374607431768211454)) ≡ numeral 340282366920938463463374607431768211455
greatest_is_reached = refl

greatest_stays : N (s (numeral 340282366920938463463374607431768211455)) ≡ s (numeral greatest_numeral)
greatest_stays = refl

variable_stays : N (s (s X)) ≡ s (s X)
variable_stays = refl

-- a successor that becomes an element, and 0 that is dropped
counted_in_list : N (p (s (s (numeral 3))) (numeral 0)) ≡ numeral 5
counted_in_list = refl

-- ---- the parts of the definition

unit_found : is_unit (Some (constant 2)) none ≡ true
unit_found = refl

other_constant : is_unit (Some (constant 2)) nil ≡ false
other_constant = refl

no_identity : is_unit None none ≡ false
no_identity = refl

elements_of_list : elements true 1 ab ≡ a ∷ b ∷ []
elements_of_list = refl

elements_of_pair : elements false 9 (h a b) ≡ h a b ∷ []
elements_of_pair = refl

elements_of_other : elements true 8 ab ≡ ab ∷ []
elements_of_other = refl

pieces_of_identity : pieces true (Some (constant 2)) 1 none ≡ []
pieces_of_identity = refl

pieces_of_several : all_pieces true (Some (constant 2)) 1 (ab ∷ none ∷ c ∷ []) ≡ a ∷ b ∷ c ∷ []
pieces_of_several = refl

arranged : arrange true (b ∷ a ∷ X ∷ numeral 7 ∷ a ∷ []) ≡ numeral 7 ∷ X ∷ a ∷ a ∷ b ∷ []
arranged = refl

not_arranged : arrange false (b ∷ a ∷ []) ≡ b ∷ a ∷ []
not_arranged = refl

successor_of_three : over_one true 0 (numeral 3) ≡ numeral 4
successor_of_three = refl

not_the_successor : over_one false 0 (numeral 3) ≡ node 0 (numeral 3 ∷ [])
not_the_successor = refl

constant_is_finished : finish false None false 3 [] ≡ a
constant_is_finished = refl

identity_is_finished : finish true (Some (constant 2)) false 1 [] ≡ none
identity_is_finished = refl

element_is_finished : finish true None false 8 (a ∷ []) ≡ a
element_is_finished = refl

build_of_lists : build set_axioms 1 (ab ∷ none ∷ node 1 (a ∷ c ∷ []) ∷ []) ≡ node 1 (a ∷ a ∷ b ∷ c ∷ [])
build_of_lists = refl

build_of_pair : build k_axioms 6 (nil ∷ b ∷ []) ≡ b
build_of_pair = refl

build_of_constant : build plain 3 [] ≡ a
build_of_constant = refl

-- ---- the list of a normal form, and back

list_of_set : list_under set_axioms 1 ab ≡ a ∷ b ∷ []
list_of_set = refl

list_of_identity : list_under set_axioms 1 none ≡ []
list_of_identity = refl

list_of_element : list_under set_axioms 1 (k a b) ≡ k a b ∷ []
list_of_element = refl

over_no_element : over_list set_axioms 1 [] ≡ none
over_no_element = refl

over_one_element : over_list set_axioms 1 (a ∷ []) ≡ a
over_one_element = refl

over_two_elements : over_list set_axioms 1 (b ∷ a ∷ []) ≡ ab
over_two_elements = refl

over_ordered_list : over_list f_axioms 8 (b ∷ a ∷ []) ≡ f b a
over_ordered_list = refl

-- ---- a normal form as a bare term

read_list : reading theory (node 1 (a ∷ b ∷ b ∷ [])) ≡ set a (set b b)
read_list = refl

read_pair : reading theory (h a b) ≡ h a b
read_pair = refl

read_below : reading theory (k (node 8 (a ∷ b ∷ a ∷ [])) nil) ≡ k (f a (f b a)) nil
read_below = refl

nested_to_the_right : nest true 8 (a ∷ b ∷ c ∷ []) ≡ f a (f b c)
nested_to_the_right = refl

nested_alone : nest true 8 (a ∷ []) ≡ a
nested_alone = refl

not_nested : nest false 6 (a ∷ b ∷ []) ≡ k a b
not_nested = refl

-- ---- depth and overflow

leaf_depth : depth a ≡ 1
leaf_depth = refl

numeral_depth : depth (numeral 7) ≡ 1
numeral_depth = refl

deep : depth (g (g a b) c) ≡ 3
deep = refl

list_depth_counts_once : depth (N (set a (set b c))) ≡ 2
list_depth_counts_once = refl

overflow : holds_overflow theory (N (g a (s (numeral 340282366920938463463374607431768211455)))) ≡ true
overflow = refl

two_too_many : holds_overflow theory (N (s (s (numeral 340282366920938463463374607431768211454)))) ≡ true
two_too_many = refl

no_overflow : holds_overflow theory (N (g a (s (numeral 340282366920938463463374607431768211454)))) ≡ false
no_overflow = refl

other_operator : holds_overflow theory (g a (numeral 340282366920938463463374607431768211455)) ≡ false
other_operator = refl
