-- Which arguments are evaluated, and tops that change.
use Rattle.std.proofs.Common.{◌≡◌, [], ◌∷◌, refl}
use Rattle.mau_terms.specs.Tree.{Tree, numeral, node}
use Rattle.mau_terms.specs.Axioms.{binary}
use Rattle.mau_evaluation.specs.Run.{stopped, too_deep, done, ended}
use Rattle.mau_evaluation.specs.Program.{Program}
use Rattle.mau_evaluation.specs.Evaluation.{eval}
use Rattle.mau_evaluation.proofs.Examples.Signature.{program, eq, sum, yes, no, a, b, c, d, l, g, reduce}

-- ---- strategies

abbrev two : Tree
two = sum (numeral 1) (numeral 1)

-- strat (1 0): the second argument stays
second_stays : reduce (program [] []) (node 19 (two ∷ two ∷ [])) ≡ done (node 19 (numeral 2 ∷ node 2 (numeral 1 ∷ numeral 1 ∷ []) ∷ [])) 1 999999
second_stays = refl

-- eq l = l . if true then a else l fi
abbrev Loop : Program
Loop = program (eq l l ∷ []) []

branch_not_taken : reduce Loop (node 25 (yes ∷ a ∷ l ∷ [])) ≡ done a 1 999999
branch_not_taken = refl

other_branch : reduce Loop (node 25 (no ∷ l ∷ b ∷ [])) ≡ done b 1 999999
other_branch = refl

loop_ends : eval Loop 2000 9 l 9 ≡ ended stopped
loop_ends = refl

-- both sides of == are evaluated: eq c = a .
equal_sides : reduce (program (eq c a ∷ []) []) (node 26 (c ∷ a ∷ [])) ≡ done yes 2 999998
equal_sides = refl

different_sides : reduce (program (eq c a ∷ []) []) (node 26 (c ∷ b ∷ [])) ≡ done no 2 999998
different_sides = refl

-- an associative operator has all elements evaluated or none
all_elements : reduce (program (eq c a ∷ []) []) (binary 11 c (binary 11 b c)) ≡ done (node 11 (a ∷ b ∷ a ∷ [])) 2 999998
all_elements = refl

no_elements : reduce (program (eq c a ∷ []) []) (binary 28 c (binary 28 b c)) ≡ done (node 28 (c ∷ b ∷ c ∷ [])) 0 1000000
no_elements = refl

-- with extension an equation takes a part of a list, here the two elements in the middle: eq b c = d .
part_of_list : reduce (program (eq (binary 11 b c) d ∷ []) []) (node 11 (a ∷ b ∷ c ∷ a ∷ [])) ≡ done (node 11 (a ∷ d ∷ a ∷ [])) 1 999999
part_of_list = refl

-- and a part of a set, whatever stands between: eq a c = d .
part_of_set : reduce (program (eq (binary 20 a c) d ∷ []) []) (binary 20 a (binary 20 b c)) ≡ done (node 20 (b ∷ d ∷ [])) 1 999999
part_of_set = refl

-- ---- tops that change

-- a collapse under an identity: eq c = nil . In k(c, b) the identity is dropped, and b is left
abbrev Collapse : Program
Collapse = program (eq c (node 23 []) ∷ []) []

identity_dropped : reduce Collapse (node 22 (c ∷ b ∷ [])) ≡ done b 1 999999
identity_dropped = refl

-- what is left is evaluated anew one level deeper
two_levels : eval Collapse 2 9 (node 22 (c ∷ b ∷ [])) 9 ≡ done b 1 8
two_levels = refl

one_level : eval Collapse 1 9 (node 22 (c ∷ b ∷ [])) 9 ≡ ended too_deep
one_level = refl

-- g(b) is left, and has an argument: three levels
left_with_argument : eval Collapse 3 9 (node 22 (c ∷ g b ∷ [])) 9 ≡ done (g b) 1 8
left_with_argument = refl

left_with_argument_too_deep : eval Collapse 2 9 (node 22 (c ∷ g b ∷ [])) 9 ≡ ended too_deep
left_with_argument_too_deep = refl

-- under an associative operator with an identity: eq c = none . of c b one element is left, and of c c none
abbrev Vanish : Program
Vanish = program (eq c (node 21 []) ∷ []) []

one_element_left : reduce Vanish (binary 20 b c) ≡ done b 1 999999
one_element_left = refl

none_left : reduce Vanish (binary 20 c c) ≡ done (node 21 []) 2 999998
none_left = refl

-- a successor is folded: s (1 + 1)
successor_folded : reduce (program [] []) (node 1 (two ∷ [])) ≡ done (numeral 3) 1 999999
successor_folded = refl

-- m is commutative with the strategy (1 0): eq a = c . eq b = d . In m(a, b) the first argument is evaluated; m(c, b) is m(b, c), whose top has changed,
-- and is evaluated anew: then m(d, c) is m(c, d), once more
abbrev Places : Program
Places = program (eq a c ∷ eq b d ∷ []) []

places_changed : reduce Places (node 24 (a ∷ b ∷ [])) ≡ done (node 24 (c ∷ d ∷ [])) 2 999998
places_changed = refl

four_levels : eval Places 4 9 (node 24 (a ∷ b ∷ [])) 9 ≡ done (node 24 (c ∷ d ∷ [])) 2 7
four_levels = refl

three_levels : eval Places 3 9 (node 24 (a ∷ b ∷ [])) 9 ≡ ended too_deep
three_levels = refl

-- the places stay: eq a = c alone, in m(a, d)
places_stay : reduce (program (eq a c ∷ []) []) (node 24 (a ∷ d ∷ [])) ≡ done (node 24 (c ∷ d ∷ [])) 1 999999
places_stay = refl
