-- Conditions: the budget that a failed one uses, and the solutions of a matching fragment.
use Rattle.std.proofs.Common.{◌≡◌, [], ◌∷◌, Some, None, refl}
use Rattle.mau_terms.specs.Tree.{Tree, variable, node}
use Rattle.mau_terms.specs.Axioms.{binary}
use Rattle.mau_evaluation.specs.Run.{stopped, too_deep, done, ended}
use Rattle.mau_evaluation.specs.Program.{equals, matches, has_sort, reaches, Program}
use Rattle.mau_evaluation.specs.Listing.{plain, solutions}
use Rattle.mau_evaluation.specs.Evaluation.{Binding, eval, solve_at, solve_after_at}
use Rattle.mau_evaluation.proofs.Examples.Signature.{signature, program, eq, ceq, a, b, c, d, reduce}

-- ---- eq b = c . ceq d = a if b = a . eq d = c .

abbrev Failing : Program
Failing = program (eq b c ∷ ceq d a (equals b a ∷ []) ∷ eq d c ∷ []) []

-- with the limit 2
limit_two : eval Failing 2000 2 d 2 ≡ done c 1 0
limit_two = refl

-- with the limit 1 the failed condition has used the budget
limit_one : eval Failing 2000 1 d 1 ≡ ended stopped
limit_one = refl

-- the condition holds: eq b = a . ceq d = a if b = a .
holding : reduce (program (eq b a ∷ ceq d a (equals b a ∷ []) ∷ []) []) d ≡ done a 2 999998
holding = refl

-- the terms of a condition are evaluated one level deeper
one_level : eval Failing 1 9 d 9 ≡ ended too_deep
one_level = refl

two_levels : eval Failing 2 9 d 9 ≡ done c 1 7
two_levels = refl

-- ---- lists of a and b: eq last(E) = E . ceq last(L) = E if M E := L .

abbrev E : Tree
E = variable 0 6

abbrev L : Tree
L = variable 1 7

abbrev M : Tree
M = variable 2 7

abbrev list : Tree → Tree → Tree
list = binary 11

abbrev last : Tree → Tree
last t = node 12 (t ∷ [])

abbrev Lists : Program
Lists = program (eq (last E) E ∷ ceq (last L) E (matches (list M E) L ∷ []) ∷ []) []

last_of_three : reduce Lists (last (list a (list b a))) ≡ done a 1 999999
last_of_three = refl

last_of_one : reduce Lists (last b) ≡ done b 1 999999
last_of_one = refl

-- the solutions of M E and a b a, by their first values; only the second has an E that is an Elt
two_solutions : solutions signature (list M E) (node 11 (a ∷ b ∷ a ∷ [])) ≡ plain (a ∷ node 11 (b ∷ a ∷ []) ∷ []) ∷ plain (node 11 (a ∷ b ∷ []) ∷ a ∷ []) ∷ []
two_solutions = refl

-- ---- M L := X where X is a b a: the solutions one after the other

abbrev Whole : Binding
Whole = ((3, 7), node 11 (a ∷ b ∷ a ∷ [])) ∷ []

abbrev parts : Tree
parts = variable 3 7

first_solution : solve_at Lists 10 9 (matches (list M L) parts ∷ []) Whole 9 ≡ done (Some (((3, 7), node 11 (a ∷ b ∷ a ∷ [])) ∷ ((2, 7), a) ∷ ((1, 7), node 11 (b ∷ a ∷ [])) ∷ [])) 0 9
first_solution = refl

second_solution : solve_after_at Lists 10 9 (((3, 7), node 11 (a ∷ b ∷ a ∷ [])) ∷ ((2, 7), a) ∷ ((1, 7), node 11 (b ∷ a ∷ [])) ∷ []) (matches (list M L) parts ∷ []) Whole 9 ≡
    done (Some (((3, 7), node 11 (a ∷ b ∷ a ∷ [])) ∷ ((2, 7), node 11 (a ∷ b ∷ [])) ∷ ((1, 7), a) ∷ [])) 0 9
second_solution = refl

none_behind : solve_after_at Lists 10 9 (((3, 7), node 11 (a ∷ b ∷ a ∷ [])) ∷ ((2, 7), node 11 (a ∷ b ∷ [])) ∷ ((1, 7), a) ∷ []) (matches (list M L) parts ∷ []) Whole 9 ≡ done None 0 9
none_behind = refl

-- a later fragment makes the first solution fail: M L := X /\ M = a b
later_fragment : solve_at Lists 10 9 (matches (list M L) parts ∷ equals M (list a b) ∷ []) Whole 9 ≡ done (Some (((3, 7), node 11 (a ∷ b ∷ a ∷ [])) ∷ ((2, 7), node 11 (a ∷ b ∷ [])) ∷ ((1, 7), a) ∷ [])) 0 9
later_fragment = refl

-- a variable that is bound keeps its value: M L := X where M is a b
bound_before : solve_at Lists 10 9 (matches (list M L) parts ∷ []) (((2, 7), node 11 (a ∷ b ∷ [])) ∷ Whole) 9 ≡
    done (Some (((2, 7), node 11 (a ∷ b ∷ [])) ∷ ((3, 7), node 11 (a ∷ b ∷ a ∷ [])) ∷ ((1, 7), a) ∷ [])) 0 9
bound_before = refl

-- the empty condition holds, and has no second solution
empty_condition : solve_at Lists 0 0 [] Whole 0 ≡ done (Some Whole) 0 0
empty_condition = refl

empty_condition_after : solve_after_at Lists 0 0 Whole [] Whole 0 ≡ done None 0 0
empty_condition_after = refl

-- a b : Elt fails, a : Elt holds
sort_of_list : solve_at Lists 10 9 (has_sort (list a b) 6 ∷ []) [] 9 ≡ done None 0 9
sort_of_list = refl

sort_of_element : solve_at Lists 10 9 (has_sort a 6 ∷ []) [] 9 ≡ done (Some []) 0 9
sort_of_element = refl

-- no rules are applied in a condition
by_rules : solve_at Lists 10 9 (reaches a a ∷ []) [] 9 ≡ done None 0 9
by_rules = refl
