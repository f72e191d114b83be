-- Numbers: factorials, a condition and owise, and what built-ins do.
use Rattle.std.proofs.Common.{◌≡◌, [], ◌∷◌, false, refl}
use Rattle.mau_terms.specs.Tree.{Tree, variable, numeral, node}
use Rattle.mau_terms.specs.Axioms.{binary}
use Rattle.mau_evaluation.specs.Run.{stopped, overflowed, done, ended}
use Rattle.mau_evaluation.specs.Program.{equals, Program}
use Rattle.mau_evaluation.specs.Evaluation.{eval, sorts_at}
use Rattle.mau_evaluation.proofs.Examples.Signature.{program, eq, ceq, owise, sum, yes, reduce}

-- ---- op _! : Nat -> NzNat . var N : Nat . eq 0 ! = 1 . eq (s N) ! = s N * N ! .

abbrev N : Tree
N = variable 0 2

abbrev factorial : Tree → Tree
factorial t = node 4 (t ∷ [])

abbrev next : Tree → Tree
next t = node 1 (t ∷ [])

abbrev Factorials : Program
Factorials = program (eq (factorial (numeral 0)) (numeral 1) ∷ eq (factorial (next N)) (binary 3 (next N) (factorial N)) ∷ []) []

-- one application for 0 !, and an equation and a product for each number above it
five_factorial : reduce Factorials (factorial (numeral 5)) ≡ done (numeral 120) 11 999989
five_factorial = refl

its_sorts : sorts_at Factorials 2000 1000000 (numeral 120) 0 ≡ done (1 ∷ 2 ∷ 10 ∷ []) 0 0
its_sorts = refl

thirty_four_factorial : reduce Factorials (factorial (numeral 34)) ≡ done (numeral 295232799039604140847618609643520000000) 69 999931
thirty_four_factorial = refl

-- 35 times that is greater than the greatest numeral
thirty_five_factorial : reduce Factorials (factorial (numeral 35)) ≡ ended overflowed
thirty_five_factorial = refl

-- ---- ceq big(X, Y) = X if Y <= X . eq big(X, Y) = Y [owise] .

abbrev X : Tree
X = variable 0 2

abbrev Y : Tree
Y = variable 1 2

abbrev big : Tree → Tree → Tree
big t u = node 9 (t ∷ u ∷ [])

abbrev Bigger : Program
Bigger = program (ceq (big X Y) X (equals (node 5 (Y ∷ X ∷ [])) yes ∷ []) ∷ owise (big X Y) Y ∷ []) []

-- the condition fails: its application is not counted, and has used the budget
otherwise : reduce Bigger (big (numeral 3) (numeral 7)) ≡ done (numeral 7) 1 999998
otherwise = refl

-- the condition holds: its application is counted
by_condition : reduce Bigger (big (numeral 7) (numeral 3)) ≡ done (numeral 7) 2 999998
by_condition = refl

-- ---- an owise equation that stands before an ordinary one: eq N ! = 7 [owise] . eq 0 ! = 1 .

abbrev Otherwise : Program
Otherwise = program (owise (factorial N) (numeral 7) ∷ eq (factorial (numeral 0)) (numeral 1) ∷ []) []

ordinary_first : reduce Otherwise (factorial (numeral 0)) ≡ done (numeral 1) 1 999999
ordinary_first = refl

owise_where_no_other : reduce Otherwise (factorial (numeral 5)) ≡ done (numeral 7) 1 999999
owise_where_no_other = refl

-- an equation that isn't executable is not applied
not_executable : reduce (program (record (eq (factorial N) (numeral 7)) { exec = false } ∷ []) []) (factorial (numeral 5)) ≡ done (factorial (numeral 5)) 0 1000000
not_executable = refl

-- ---- built-ins

abbrev Plain : Program
Plain = program [] []

-- the first two elements of a list, twice
three_numbers : reduce Plain (sum (numeral 2) (sum (numeral 5) (numeral 4))) ≡ done (numeral 11) 2 999998
three_numbers = refl

-- what is no numeral stays
with_a_variable : reduce Plain (sum (numeral 2) (sum X (numeral 4))) ≡ done (node 2 (numeral 6 ∷ X ∷ [])) 1 999999
with_a_variable = refl

-- an operator that is associative and not commutative takes two numerals, and no list of three
two_of_a_list : reduce Plain (binary 27 (numeral 9) (numeral 4)) ≡ done (numeral 5) 1 999999
two_of_a_list = refl

three_of_a_list : reduce Plain (binary 27 (numeral 9) (binary 27 (numeral 4) (numeral 3))) ≡ done (node 27 (numeral 9 ∷ numeral 4 ∷ numeral 3 ∷ [])) 0 1000000
three_of_a_list = refl

-- 4 - 9 has no value
no_value_for_these : reduce Plain (binary 27 (numeral 4) (numeral 9)) ≡ done (node 27 (numeral 4 ∷ numeral 9 ∷ [])) 0 1000000
no_value_for_these = refl

-- a built-in comes before all equations: eq N + 1 = 7 .
built_in_first : reduce (program (eq (sum N (numeral 1)) (numeral 7) ∷ []) []) (sum (numeral 1) (numeral 1)) ≡ done (numeral 2) 1 999999
built_in_first = refl

-- an application that is due without budget
no_budget : eval Plain 2000 0 (sum (numeral 1) (numeral 1)) 0 ≡ ended stopped
no_budget = refl

-- an overflow comes without budget too
overflow_without_budget : eval Plain 2000 0 (sum (numeral 1) (numeral 340282366920938463463374607431768211455)) 0 ≡ ended overflowed
overflow_without_budget = refl

-- a value needs none
value_without_budget : eval Plain 2000 0 (numeral 1) 0 ≡ done (numeral 1) 0 0
value_without_budget = refl
