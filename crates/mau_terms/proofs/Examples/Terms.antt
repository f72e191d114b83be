-- Bare terms, uses of axioms and chains of them.
use Rattle.std.proofs.Common.{ℕ, [], ◌∷◌, None, refl, lit<, lit≤, arith}
use Rattle.mau_terms.specs.Tree.{variable, numeral, no_trees, node}
use Rattle.mau_terms.specs.Axioms.{AxiomStep, associativity, commutativity, left_identity, right_identity, successor_of_numeral, left_to_right, right_to_left, under_operator, in_first, in_later}
use Rattle.mau_terms.specs.Bare.{IsBareIn, EqualModulo, same_term, one_step, IsLawful, HasNoAxioms}
use Rattle.mau_terms.proofs.Law.{equal_norm}
use Rattle.mau_terms.proofs.Examples.Signature.{theory, signature, constant, lawful, none, a, b, c, nil, s, set, k, f, h, g}

-- ---- bare terms

a_set_is_bare : IsBareIn signature (set a b) 2
a_set_is_bare = (refl, refl, ((refl, refl, tt), ((refl, refl, tt), tt)))

the_greatest_numeral_is_bare : IsBareIn signature (numeral 340282366920938463463374607431768211455) 2
the_greatest_numeral_is_bare = (lit≤ tt, refl)

a_greater_numeral_is_not : (n : ℕ) → IsBareIn signature (numeral 340282366920938463463374607431768211456) n → ⊥
a_greater_numeral_is_not n x = omega (arith, x.0)

a_variable_is_bare : IsBareIn signature (variable 4294967295 1) 2
a_variable_is_bare = (lit< tt, refl, refl)

a_variable_of_no_sort_is_not : (n : ℕ) → IsBareIn signature (variable 0 3) n → ⊥
a_variable_of_no_sort_is_not n x = let y = x.1 in cc

an_index_of_33_bits_is_not : (n : ℕ) → IsBareIn signature (variable 4294967296 1) n → ⊥
an_index_of_33_bits_is_not n x = omega (arith, x.0)

-- an operator has exactly its arguments
one_argument_too_few : (n : ℕ) → IsBareIn signature (node 1 (a ∷ [])) n → ⊥
one_argument_too_few n x = x.2.1

a_list_is_not_bare : (n : ℕ) → IsBareIn signature (node 1 (a ∷ b ∷ c ∷ [])) n → ⊥
a_list_is_not_bare n x = x.2.1.1

an_unknown_operator_is_not : (n : ℕ) → IsBareIn signature (node 13 []) n → ⊥
an_unknown_operator_is_not n x = let y = x.0 in cc

-- ---- one use of an axiom

grouped : AxiomStep theory (f (f a b) c) (f a (f b c))
grouped = left_to_right (associativity 8 a b c refl)

exchanged : AxiomStep theory (h a b) (h b a)
exchanged = left_to_right (commutativity 9 a b refl)

dropped : AxiomStep theory (k nil b) b
dropped = left_to_right (left_identity 6 (constant 7) b refl)

-- in the other direction
added : AxiomStep theory a (set a none)
added = right_to_left (right_identity 1 (constant 2) a refl)

counted : AxiomStep theory (s (numeral 3)) (numeral 4)
counted = left_to_right (successor_of_numeral 0 3 refl (lit< tt))

-- at a place below
counted_below : AxiomStep theory (g a (s (numeral 3))) (g a (numeral 4))
counted_below = under_operator 10 (in_later a (in_first no_trees counted))

-- ---- chains

-- s s 3 = s 4 = 5
five : EqualModulo signature (s (s (numeral 3))) (numeral 5)
five =
    one_step (2, (refl, refl, ((refl, refl, ((lit≤ tt, refl), tt)), tt))) (under_operator 0 (in_first no_trees counted))
    (one_step (2, (refl, refl, ((lit≤ tt, refl), tt))) (left_to_right (successor_of_numeral 0 4 refl (lit< tt)))
    (same_term (2, (lit≤ tt, refl))))

-- a none = a
without_none : EqualModulo signature (set a none) a
without_none =
    one_step (2, (refl, refl, ((refl, refl, tt), ((refl, refl, tt), tt)))) (left_to_right (right_identity 1 (constant 2) a refl))
    (same_term (2, (refl, refl, tt)))

-- a b = b a
turned : EqualModulo signature (set a b) (set b a)
turned =
    one_step (2, a_set_is_bare) (left_to_right (commutativity 1 a b refl))
    (same_term (2, (refl, refl, ((refl, refl, tt), ((refl, refl, tt), tt)))))

different_constants : EqualModulo signature a b → ⊥
different_constants x = let e = equal_norm signature lawful x in cc

-- an ordered list is not turned
not_turned : EqualModulo signature (f a b) (f b a) → ⊥
not_turned x = let e = equal_norm signature lawful x in cc

-- the successor of the greatest numeral is no numeral
no_greater_numeral : (n : ℕ) → EqualModulo signature (s (numeral 340282366920938463463374607431768211455)) (numeral n) → ⊥
no_greater_numeral n x = let e = equal_norm signature lawful x in cc

-- ---- signatures

has_axioms : HasNoAxioms signature → ⊥
has_axioms x = let e = x.no_assoc 8 in cc

-- an associative operator without arguments
not_lawful : IsLawful (record signature { arguments = λ o. [] }) → ⊥
not_lawful x = let e = x.assoc_kinds 8 refl in cc

-- a successor where there are no numerals
no_numerals : IsLawful (record signature { numerals = None }) → ⊥
no_numerals x = let e = (x.succ_kinds 0 refl).1 in cc
