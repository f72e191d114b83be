-- Sorts by declarations and by memberships.
use Rattle.std.proofs.Common.{◌≡◌, [], ◌∷◌, true, false, refl, inl, inr}
use Rattle.mau_terms.specs.Tree.{Tree, variable, numeral, node}
use Rattle.mau_terms.specs.Subst.{variables}
use Rattle.mau_evaluation.specs.Run.{stopped, too_deep, done, ended}
use Rattle.mau_evaluation.specs.Program.{equals, Program}
use Rattle.mau_evaluation.specs.Listing.{plain, solutions}
use Rattle.mau_evaluation.specs.Evaluation.{levels, have_sorts, eval, sorts_at}
use Rattle.mau_evaluation.specs.HasSort.{HasSort, HaveThese, of_numeral, by_declaration, by_membership, none_left, next_term, next_sort}
use Rattle.mau_evaluation.proofs.Examples.Signature.{signature, program, cmb, sum, yes, reduce}

-- ---- cmb pair(X, Y) : Up if X < Y .

abbrev X : Tree
X = variable 0 2

abbrev Y : Tree
Y = variable 1 2

abbrev pub pair : Tree → Tree → Tree
pair t u = node 10 (t ∷ u ∷ [])

abbrev pub Pairs : Program
Pairs = program [] (cmb (pair X Y) 4 (equals (node 6 (X ∷ Y ∷ [])) yes ∷ []) ∷ [])

-- the one solution of P:Up and a pair has that sort, or has it not
abbrev P : Tree
P = variable 0 4

one_solution : solutions signature P (pair (numeral 1) (numeral 2)) ≡ plain (pair (numeral 1) (numeral 2) ∷ []) ∷ []
one_solution = refl

going_up : have_sorts (levels Pairs 2000 1000000).sorts (variables P) (pair (numeral 1) (numeral 2) ∷ []) 1000000 ≡ done true 0 1000000
going_up = refl

going_down : have_sorts (levels Pairs 2000 1000000).sorts (variables P) (pair (numeral 2) (numeral 1) ∷ []) 1000000 ≡ done false 0 1000000
going_down = refl

-- by the declaration Pair and its kind, and by the membership Up and what stands above it; its condition counts nothing
sorts_up : sorts_at Pairs 2000 1000000 (pair (numeral 1) (numeral 2)) 0 ≡ done (5 ∷ 12 ∷ 12 ∷ 4 ∷ 5 ∷ 12 ∷ []) 0 0
sorts_up = refl

sorts_down : sorts_at Pairs 2000 1000000 (pair (numeral 2) (numeral 1)) 0 ≡ done (5 ∷ 12 ∷ 12 ∷ []) 0 0
sorts_down = refl

-- each condition has a budget of its own; where that is used up the sorts are not known, and an evaluation that takes them ends so
no_budget_of_its_own : sorts_at Pairs 2000 0 (pair (numeral 1) (numeral 2)) 9 ≡ ended stopped
no_budget_of_its_own = refl

evaluation_ends : eval Pairs 2000 0 (pair (numeral 1) (numeral 2)) 9 ≡ ended stopped
evaluation_ends = refl

evaluation_counts_nothing : reduce Pairs (pair (numeral 1) (numeral 2)) ≡ done (pair (numeral 1) (numeral 2)) 0 1000000
evaluation_counts_nothing = refl

-- its terms are one level deeper: X < Y on the level below, and X and Y below that
one_level : sorts_at Pairs 1 9 (pair (numeral 1) (numeral 2)) 9 ≡ ended too_deep
one_level = refl

two_levels : sorts_at Pairs 2 9 (pair (numeral 2) (numeral 1)) 9 ≡ ended too_deep
two_levels = refl

three_levels : sorts_at Pairs 3 9 (pair (numeral 2) (numeral 1)) 9 ≡ done (5 ∷ 12 ∷ 12 ∷ []) 0 9
three_levels = refl

-- the derivation of pair(1, 2) : Pair from the declaration, and of pair(1, 2) : Up from the membership
are_nats : HaveThese Pairs (numeral 1 ∷ numeral 2 ∷ []) ((2 ∷ []) ∷ (2 ∷ []) ∷ [])
are_nats =
    next_sort (numeral 1) (numeral 2 ∷ []) 2 [] ((2 ∷ []) ∷ []) (of_numeral 1 2 (inr (inl refl)))
    (next_term (numeral 1) (numeral 2 ∷ []) ((2 ∷ []) ∷ [])
    (next_sort (numeral 2) [] 2 [] [] (of_numeral 2 2 (inr (inl refl)))
    (next_term (numeral 2) [] [] none_left)))

is_pair : HasSort Pairs (pair (numeral 1) (numeral 2)) 5
is_pair = by_declaration 10 _ ((2 ∷ []) ∷ (2 ∷ []) ∷ []) 5 are_nats (inl refl)

is_up : HasSort Pairs (pair (numeral 1) (numeral 2)) 4
is_up =
    by_membership (cmb (pair X Y) 4 (equals (node 6 (X ∷ Y ∷ [])) yes ∷ [])) (pair (numeral 1) (numeral 2)) (plain (numeral 1 ∷ numeral 2 ∷ [])) 4 (inl refl) refl (inl refl) are_nats
    (((0, 2), numeral 1) ∷ ((1, 2), numeral 2) ∷ [], 1, record { level = 9; each = 9; budget = 9; left = 8; comes = refl })
    (inl refl)

-- ---- declarations

-- NzNat for a sum in which some element is one, the list being nested to the right
sum_of_three : sorts_at Pairs 9 9 (sum X (sum Y (numeral 1))) 9 ≡ done (2 ∷ 10 ∷ 1 ∷ 2 ∷ 10 ∷ 10 ∷ []) 0 9
sum_of_three = refl

sum_of_two : sorts_at Pairs 9 9 (sum X Y) 9 ≡ done (2 ∷ 10 ∷ 10 ∷ []) 0 9
sum_of_two = refl

-- a term to whose arguments no declaration applies has its kind alone: N ! where N is a variable of the kind of the numbers
kind_alone : sorts_at Pairs 9 9 (node 4 (variable 0 10 ∷ [])) 9 ≡ done (10 ∷ []) 0 9
kind_alone = refl

-- sorts are read on the normal form
of_normal_form : sorts_at Pairs 9 9 (node 1 (numeral 0 ∷ [])) 9 ≡ done (1 ∷ 2 ∷ 10 ∷ []) 0 9
of_normal_form = refl
