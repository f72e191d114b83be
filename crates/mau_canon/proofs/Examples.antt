-- Computed cases of each definition.
use Rattle.std.proofs.Common.{◌≡◌, ℕ, List, [], ◌∷◌, true, false, None, ◌==◌, refl, lit<, lit≤, arith}
use Rattle.mau_terms.specs.Tree.{Tree, numeral, node}
use Rattle.mau_terms.specs.Norm.{greatest_numeral}
use Rattle.mau_terms.specs.declared.theory.Theory.{Theory}
use Rattle.mau_store.specs.Node.{Node, operator_node}
use Rattle.mau_canon.specs.declared.fault.BuildFault.TheVariants.{TooDeep, Overflow, NoMemory}
use Rattle.mau_canon.specs.Within.{IsWithin, IsCause}
use Rattle.mau_canon.specs.Judging.{is_overflow, IsJudged}
use Rattle.mau_canon.specs.Standing.{StandsWithin, IsNumberOf}

-- the operator 8 is the successor, and no operator has another axiom
abbrev theory : ℕ → Theory
theory f = record { assoc = false; comm = false; id = None; succ = f == 8 }

-- g(a), and the successor of the greatest numeral
abbrev ga : Tree
ga = node 7 (node 2 [] ∷ [])

abbrev next : Tree
next = node 8 (numeral greatest_numeral ∷ [])

ga_is_within : IsWithin theory ga
ga_is_within = record { shallow = lit≤ tt; no_overflow = refl }

next_is_not_within : IsWithin theory next → ⊥
next_is_not_within w = let e : true ≡ false = w.no_overflow in absurd (cc)

next_overflows : IsCause theory next Overflow
next_overflows = (lit≤ tt, refl)

next_is_not_too_deep : IsCause theory next TooDeep → ⊥
next_is_not_too_deep h = omega arith

ga_may_lack_memory : IsCause theory ga NoMemory
ga_may_lack_memory = tt

overflow_by_test : is_overflow true 8 next ≡ true
overflow_by_test = refl

no_overflow_of_another : is_overflow true 7 next ≡ false
no_overflow_of_another = refl

deep_by_depth : IsJudged 1001 true TooDeep
deep_by_depth = lit< tt

overflow_by_depth : IsJudged 1000 true Overflow
overflow_by_depth = (lit≤ tt, refl)

-- 0 is a, and 1 is g(a)
abbrev store : List Node
store = operator_node 2 [] ∷ operator_node 7 (0 ∷ []) ∷ []

ga_is_1 : IsNumberOf store 1 ga
ga_is_1 = record { there = lit< tt; tree = refl }

one_stands_within : StandsWithin theory store 1
one_stands_within = record { there = lit< tt; normal = refl; within = ga_is_within }
