-- Computed cases of each definition, over two stores.
use Rattle.std.proofs.Common.{◌≡◌, zero, suc, ◌<◌, List, [], ◌∷◌, slice_get, refl, ap, lit<, arith}
use Rattle.std.proofs.lemmas.List.Elements.{All-nil, All-cons, All-head, All-tail}
use Rattle.std.specs.declared.cmp.Ordering.TheVariants.{Greater}
use Rattle.std.specs.Borrow.{Bor}
use Rattle.std.specs.Global.{Vec}
use Rattle.mau_terms.specs.Tree.{Tree, variable, numeral, node}
use Rattle.mau_terms.specs.Order.{tree_cmp}
use Rattle.mau_terms.specs.declared.ids.TermId.{TermId}
use Rattle.mau_terms.proofs.Examples.Signature.{theory}
use Rattle.mau_store.specs.Node.{Node, numeral_node, variable_node, operator_node, arguments, IsOf, AreBelow, AreOf, IsShared, IsClosed, AreNodes, Extends}
use Rattle.mau_store.specs.View.{numbers, node_of, stored_node}
use Rattle.mau_store.specs.Trees.{tree_over, tree_or, add_tree, trees, tree_at, trees_at, StandsFor, StandsForNorm, StandForNorms}
use Rattle.mau_store.specs.declared.node.NodeView.TheVariants.{Num, Var, App}
use Rattle.mau_store.specs.declared.node.StoredNode.TheVariants.{Num as StoredNum, Var as StoredVar, App as StoredApp}

-- 0 is the numeral 5, 1 the variable 0 of the sort 1, 2 the constant a, 3 is f(a, 5), and 4 is g(f(a, 5), f(a, 5))
abbrev store : List Node
store = numeral_node 5 ∷ variable_node 0 1 ∷ operator_node 3 [] ∷ operator_node 8 (2 ∷ 0 ∷ []) ∷ operator_node 10 (3 ∷ 3 ∷ []) ∷ []

abbrev five : Tree
five = numeral 5

abbrev X : Tree
X = variable 0 1

abbrev a : Tree
a = node 3 []

-- f(a, 5)
abbrev pair : Tree
pair = node 8 (a ∷ five ∷ [])

-- ---- nodes of the code

abbrev ids : List TermId
ids = record { 0 = 2 } ∷ record { 0 = 0 } ∷ []

numbers_of_two : numbers ids ≡ 2 ∷ 0 ∷ []
numbers_of_two = refl

numbers_of_one : numbers (record { 0 = 7 } ∷ []) ≡ 7 ∷ []
numbers_of_one = refl

numbers_of_none : numbers [] ≡ []
numbers_of_none = refl

node_of_numeral : node_of (Num 5) ≡ numeral_node 5
node_of_numeral = refl

node_of_variable : node_of (Var (record { index = 0; sort = 1 })) ≡ variable_node 0 1
node_of_variable = refl

node_of_application : (args : Bor (List TermId)) → args.now ≡ ids → node_of (App (record { 0 = 8 }) args) ≡ operator_node 8 (2 ∷ 0 ∷ [])
node_of_application args e = ap (λ is. operator_node 8 (numbers is)) e

stored_numeral : stored_node (StoredNum 5) ≡ numeral_node 5
stored_numeral = refl

stored_variable : stored_node (StoredVar (record { index = 0; sort = 1 })) ≡ variable_node 0 1
stored_variable = refl

stored_application : (args : Vec TermId) → args.items ≡ ids → stored_node (StoredApp (record { 0 = 8 }) args) ≡ operator_node 8 (2 ∷ 0 ∷ [])
stored_application args e = ap (λ is. operator_node 8 (numbers is)) e

-- ---- nodes and numbers

no_arguments : arguments (numeral_node 5) ≡ []
no_arguments = refl

no_arguments_of_constant : arguments (operator_node 3 []) ≡ []
no_arguments_of_constant = refl

two_arguments : arguments (operator_node 8 (2 ∷ 0 ∷ [])) ≡ 2 ∷ 0 ∷ []
two_arguments = refl

first_is_of : IsOf store 0
first_is_of = lit< tt

last_is_of : IsOf store 4
last_is_of = lit< tt

next_is_not : IsOf store 5 → ⊥
next_is_not h = omega (arith, h)

two_are_of : AreOf store (4 ∷ 0 ∷ [])
two_are_of = All-cons (λ i. i < 5) 4 (0 ∷ []) (lit< tt) (All-cons (λ i. i < 5) 0 [] (lit< tt) (All-nil (λ i. i < 5)))

none_are_of : AreOf [] []
none_are_of = All-nil (λ i. i < 0)

five_is_not_of : AreOf store (4 ∷ 5 ∷ []) → ⊥
five_is_not_of h = omega (arith, All-head (λ i. i < 5) 5 [] (All-tail (λ i. i < 5) 4 (5 ∷ []) h))

three_is_below : AreBelow 4 (3 ∷ [])
three_is_below = All-cons (λ i. i < 4) 3 [] (lit< tt) (All-nil (λ i. i < 4))

none_are_below : AreBelow 0 []
none_are_below = All-nil (λ i. i < 0)

one_is_not_below : AreBelow 4 (4 ∷ []) → ⊥
one_is_not_below h = omega (arith, All-head (λ i. i < 4) 4 [] h)

-- ---- stores

empty_store : AreNodes []
empty_store = record { shared = λ j k n p q. absurd (cc); closed = λ k n p. absurd (cc) }

-- a node twice
not_shared : IsShared (numeral_node 5 ∷ variable_node 0 1 ∷ numeral_node 5 ∷ []) → ⊥
not_shared h = omega (arith, h 0 2 (numeral_node 5) refl refl)

-- an argument that is not older
not_closed : IsClosed (operator_node 8 (0 ∷ []) ∷ []) → ⊥
not_closed h = omega (arith, All-head (λ i. i < 0) 0 [] (h 0 (operator_node 8 (0 ∷ [])) refl))

-- a constant, and an operator over it
abbrev two_nodes : List Node
two_nodes = operator_node 3 [] ∷ operator_node 8 (0 ∷ []) ∷ []

two_shared : IsShared two_nodes
two_shared zero zero n p q = refl
two_shared zero (suc zero) n p q = absurd (cc)
two_shared (suc zero) zero n p q = absurd (cc)
two_shared (suc zero) (suc zero) n p q = refl
two_shared zero (suc (suc k)) n p q = absurd (cc)
two_shared (suc zero) (suc (suc k)) n p q = absurd (cc)
two_shared (suc (suc j)) k n p q = absurd (cc)

two_closed : IsClosed two_nodes
two_closed zero (numeral_node m) p = absurd (cc)
two_closed zero (variable_node i s) p = absurd (cc)
two_closed zero (operator_node f is) p = let e : is ≡ [] = cc in rw e (All-nil (λ i. i < 0))
two_closed (suc zero) (numeral_node m) p = absurd (cc)
two_closed (suc zero) (variable_node i s) p = absurd (cc)
two_closed (suc zero) (operator_node f is) p = let e : is ≡ 0 ∷ [] = cc in rw e (All-cons (λ i. i < 1) 0 [] (lit< tt) (All-nil (λ i. i < 1)))
two_closed (suc (suc k)) n p = absurd (cc)

two_are_nodes : AreNodes two_nodes
two_are_nodes = record { shared = two_shared; closed = two_closed }

five_twice : AreNodes (numeral_node 5 ∷ variable_node 0 1 ∷ numeral_node 5 ∷ []) → ⊥
five_twice h = not_shared h.shared

-- ---- extension

extends_itself : Extends store store
extends_itself = ([], refl)

extends_by_one : Extends (operator_node 3 [] ∷ []) two_nodes
extends_by_one = (operator_node 8 (0 ∷ []) ∷ [], refl)

-- a node that was there may not change its number
not_extended : Extends (operator_node 3 [] ∷ []) (numeral_node 5 ∷ operator_node 3 [] ∷ []) → ⊥
not_extended x = let e = ap (λ ns. slice_get ns 0) x.1 in cc

-- ---- trees

tree_over_numeral : tree_over (λ i. X) (numeral_node 5) ≡ five
tree_over_numeral = refl

tree_over_constant : tree_over (λ i. X) (operator_node 3 []) ≡ a
tree_over_constant = refl

tree_over_two : tree_over numeral (operator_node 8 (2 ∷ 0 ∷ [])) ≡ node 8 (numeral 2 ∷ numeral 0 ∷ [])
tree_over_two = refl

tree_or_second : tree_or (five ∷ a ∷ []) 1 ≡ a
tree_or_second = refl

tree_or_past : tree_or (five ∷ a ∷ []) 2 ≡ numeral 0
tree_or_past = refl

tree_or_first : tree_or (five ∷ a ∷ []) 0 ≡ five
tree_or_first = refl

add_first : add_tree [] (numeral_node 5) ≡ five ∷ []
add_first = refl

add_constant : add_tree (five ∷ []) (operator_node 3 []) ≡ five ∷ a ∷ []
add_constant = refl

add_pair : add_tree (five ∷ a ∷ []) (operator_node 8 (1 ∷ 0 ∷ [])) ≡ five ∷ a ∷ pair ∷ []
add_pair = refl

trees_of_nothing : trees [] ≡ []
trees_of_nothing = refl

trees_of_store : trees store ≡ five ∷ X ∷ a ∷ pair ∷ node 10 (pair ∷ pair ∷ []) ∷ []
trees_of_store = refl

trees_of_two : trees (numeral_node 5 ∷ operator_node 0 (0 ∷ []) ∷ []) ≡ five ∷ node 0 (five ∷ []) ∷ []
trees_of_two = refl

tree_of_first : tree_at store 0 ≡ five
tree_of_first = refl

tree_of_fourth : tree_at store 3 ≡ pair
tree_of_fourth = refl

-- an argument that occurs twice is in the tree twice
tree_of_last : tree_at store 4 ≡ node 10 (pair ∷ pair ∷ [])
tree_of_last = refl

trees_of_some : trees_at store (2 ∷ 0 ∷ 2 ∷ []) ≡ a ∷ five ∷ a ∷ []
trees_of_some = refl

trees_of_one : trees_at store (1 ∷ []) ≡ X ∷ []
trees_of_one = refl

trees_of_none : trees_at store [] ≡ []
trees_of_none = refl

in_the_order_of_trees : tree_cmp (tree_at store 4) (tree_at store 3) ≡ Greater
in_the_order_of_trees = refl

-- ---- normal forms: 0 is the successor, 3 and 4 are the constants a and b, 8 is associative, and 10 has no axiom

stands_for_five : StandsFor theory store 0 (node 0 (numeral 4 ∷ []))
stands_for_five = refl

stands_for_pair : StandsFor theory store 3 pair
stands_for_pair = refl

stands_not_for_four : StandsFor theory store 0 (numeral 4) → ⊥
stands_not_for_four e = cc

last_stands_for_norm : StandsForNorm theory store 4
last_stands_for_norm = refl

-- s 5 is 6
successor_is_no_norm : StandsForNorm theory (numeral_node 5 ∷ operator_node 0 (0 ∷ []) ∷ []) 1 → ⊥
successor_is_no_norm e = cc

-- f over one argument is the argument
one_element_is_no_norm : StandsForNorm theory (operator_node 3 [] ∷ operator_node 8 (0 ∷ []) ∷ []) 1 → ⊥
one_element_is_no_norm e = cc

two_stand_for_norms : StandForNorms theory store (3 ∷ 1 ∷ [])
two_stand_for_norms = All-cons (StandsForNorm theory store) 3 (1 ∷ []) refl (All-cons (StandsForNorm theory store) 1 [] refl (All-nil (StandsForNorm theory store)))

not_both_stand_for_norms : StandForNorms theory (numeral_node 5 ∷ operator_node 0 (0 ∷ []) ∷ []) (1 ∷ 0 ∷ []) → ⊥
not_both_stand_for_norms h =
    let e = All-head (StandsForNorm theory (numeral_node 5 ∷ operator_node 0 (0 ∷ []) ∷ [])) 1 (0 ∷ []) h in
    cc

none_stand_for_norms : StandForNorms theory [] []
none_stand_for_norms = All-nil (StandsForNorm theory [])
