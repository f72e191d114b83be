-- Instances, solutions and their order, computed; and what a subject can take.
use Rattle.std.proofs.Common.{◌≡◌, ℕ, zero, suc, ◌⊎◌, inl, inr, List, [], ◌∷◌, Some, None, refl, sym, ◌∙◌, ap, lit≤, lit<, ◌≤◌, arith}
use Rattle.std.specs.declared.cmp.Ordering.TheVariants.{Less, Equal}
use Rattle.mau_terms.specs.Tree.{Tree, variable, numeral, node}
use Rattle.mau_terms.specs.Norm.{norm}
use Rattle.mau_terms.specs.Axioms.{associativity, successor_of_numeral, left_to_right}
use Rattle.mau_terms.specs.Bare.{IsBareIn, IsBare, same_term, one_step}
use Rattle.mau_terms.specs.Subst.{value_at, instance, variables, with_values, Occurs}
use Rattle.mau_terms.specs.Solution.{Fits, HaveSorts, Solves, ArePieces, IsListOf, assoc_top, FitsWithin, SolvesWithin, places, value_key, solution_cmp}
use Rattle.mau_terms.specs.CanTake.{CanTake}
use Rattle.mau_terms.specs.Finite.{words, candidates, parts_under}
use Rattle.mau_terms.proofs.Law.{equal_norm, norm_equal}
use Rattle.mau_terms.proofs.Plain.{free_made}
use Rattle.mau_terms.proofs.Examples.Signature.{theory, signature, lawful, none, a, b, c, nil, s, set, k, f, g, X, Y, Z}

-- ---- variables and instances

variables_once : variables (g (g X Y) X) ≡ (0, 1) ∷ (1, 1) ∷ []
variables_once = refl

variables_by_occurrence : variables (g Y (g a X)) ≡ (1, 1) ∷ (0, 1) ∷ []
variables_by_occurrence = refl

no_variables : variables (g a (numeral 7)) ≡ []
no_variables = refl

-- of another sort, it is another variable
sort_counts : variables (g X (variable 0 2)) ≡ (0, 1) ∷ (0, 2) ∷ []
sort_counts = refl

value_of_second : value_at ((0, 1) ∷ (1, 1) ∷ []) (a ∷ b ∷ []) (1, 1) ≡ b
value_of_second = refl

others_stay : value_at ((0, 1) ∷ (1, 1) ∷ []) (a ∷ b ∷ []) (2, 1) ≡ Z
others_stay = refl

instance_of_each : instance (λ x. numeral x.0) (g X (g b Y)) ≡ g (numeral 0) (g b (numeral 1))
instance_of_each = refl

values_in_place : with_values (g (g X Y) X) (a ∷ b ∷ []) ≡ g (g a b) a
values_in_place = refl

-- at once: the variables of values stay
at_once : with_values (g X Y) (Y ∷ X ∷ []) ≡ g Y X
at_once = refl

no_values : with_values (g a b) [] ≡ g a b
no_values = refl

X_occurs : Occurs (0, 1) (g a (g X b))
X_occurs = inr (inl (inl refl))

Y_does_not_occur : Occurs (1, 1) (g a X) → ⊥
Y_does_not_occur (inl h) = h
Y_does_not_occur (inr (inl e)) = let q : 1 ≡ 0 = ap (λ v. v.0) e in omega (arith, q)
Y_does_not_occur (inr (inr h)) = h

-- ---- bare terms of the examples

constant_bare : IsBareIn signature a 2
constant_bare = (refl, refl, tt)

ab_bare : IsBareIn signature (g a b) 2
ab_bare = (refl, refl, ((refl, refl, tt), ((refl, refl, tt), tt)))

-- ---- solutions

-- g(X, b) and g(a, b)
one_value : Fits signature (g X b) (g a b) (a ∷ [])
one_value = record { one_each = refl; equal = same_term (2, ab_bare) }

-- g(X, X) and g(a, b)
first_same : (v : Tree) → g v v ≡ g a b → ⊥
first_same v e = let p : v ≡ a = cc in let q : v ≡ b = cc in cc

two_values_for_one : (vs : List Tree) → Fits signature (g X X) (g a b) vs → ⊥
two_values_for_one [] x = let e = x.one_each in cc
two_values_for_one (v ∷ u ∷ vs) x = let e = x.one_each in cc
two_values_for_one (v ∷ []) x =
    let n = norm theory v in
    let e : norm theory (g v v) ≡ g a b = equal_norm signature lawful x.equal in
    first_same n (sym (free_made 10 (n ∷ n ∷ [])) ∙ e)

-- g(X, a) and g(Y, a): a variable of the subject counts as a constant
variable_for_value : Fits signature (g X a) (g Y a) (Y ∷ [])
variable_for_value = record { one_each = refl; equal = same_term (2, (refl, refl, ((lit< tt, refl, refl), ((refl, refl, tt), tt)))) }

-- X Y and none
two_empty : Fits signature (set X Y) none (none ∷ none ∷ [])
two_empty = record {
  one_each = refl;
  equal = norm_equal signature lawful (set none none) none (2, (refl, refl, ((refl, refl, tt), ((refl, refl, tt), tt)))) (2, (refl, refl, tt)) refl;
}

-- X X Y and a a b
twice_and_rest : Fits signature (set (set X X) Y) (set (set a a) b) (a ∷ b ∷ [])
twice_and_rest = record {
  one_each = refl;
  equal = same_term (2, (refl, refl, ((refl, refl, ((refl, refl, tt), ((refl, refl, tt), tt))), ((refl, refl, tt), tt))));
}

-- s X and the greatest numeral
one_less_than_greatest : Fits signature (s X) (numeral 340282366920938463463374607431768211455) (numeral 340282366920938463463374607431768211454 ∷ [])
one_less_than_greatest = record {
  one_each = refl;
  equal =
      one_step (2, (refl, refl, ((lit≤ tt, refl), tt))) (left_to_right (successor_of_numeral 0 340282366920938463463374607431768211454 refl (lit< tt)))
      (same_term (2, (lit≤ tt, refl)));
}

-- ---- sorts: 0 has the constants a, b and c, and 1 has each term

abbrev HasSort : ℕ → Tree → Type 0
HasSort zero v = (v ≡ a) ⊎ ((v ≡ b) ⊎ (v ≡ c))
HasSort (suc r) v = Unit {0}

-- a variable of the sort 0
abbrev E : Tree
E = variable 0 0

element_and_none : Solves signature HasSort (set E Y) a (a ∷ none ∷ [])
element_and_none = (
  record {
    one_each = refl;
    equal = norm_equal signature lawful (set a none) a (2, (refl, refl, ((refl, refl, tt), ((refl, refl, tt), tt)))) (2, (refl, refl, tt)) refl;
  },
  (inl refl, (tt, tt)),
)

none_is_no_element : Solves signature HasSort (set E Y) a (none ∷ a ∷ []) → ⊥
none_is_no_element (x, (inl e, y)) = cc
none_is_no_element (x, (inr (inl e), y)) = cc
none_is_no_element (x, (inr (inr e), y)) = cc

no_variable_no_sort : HaveSorts HasSort (variables (g a b)) []
no_variable_no_sort = tt

-- ---- lists

pieces_of_set : ArePieces theory 1 (a ∷ k a b ∷ [])
pieces_of_set = (refl, refl, (refl, refl, tt))

identity_is_no_piece : ArePieces theory 1 (a ∷ none ∷ []) → ⊥
identity_is_no_piece x = let e = x.2.1 in cc

list_is_no_piece : ArePieces theory 8 (f a b ∷ []) → ⊥
list_is_no_piece x = let e = x.1 in cc

unsorted_is_no_list : IsListOf theory 1 (b ∷ a ∷ []) → ⊥
unsorted_is_no_list x = let e = x.ordered in cc

ordered_list : IsListOf theory 8 (b ∷ a ∷ [])
ordered_list = record { pieces = (refl, refl, (refl, refl, tt)); ordered = refl }

-- ---- solutions with context

-- X Y within f(a, f(b, f(a, b))): at each of three places
two_bare : IsBare signature (f a b)
two_bare = (2, (refl, refl, ((refl, refl, tt), ((refl, refl, tt), tt))))

at_the_front : FitsWithin signature (f X Y) (f a (f b (f a b))) (a ∷ b ∷ []) [] (a ∷ b ∷ [])
at_the_front = record {
  one_each = refl;
  bare = two_bare;
  left_list = record { pieces = tt; ordered = refl };
  right_list = record { pieces = (refl, refl, (refl, refl, tt)); ordered = refl };
  rest_alone = λ e. refl;
  whole = refl;
  part = inl (lit≤ tt);
}

in_the_middle : FitsWithin signature (f X Y) (f a (f b (f a b))) (b ∷ a ∷ []) (a ∷ []) (b ∷ [])
in_the_middle = record {
  one_each = refl;
  bare = (2, (refl, refl, ((refl, refl, tt), ((refl, refl, tt), tt))));
  left_list = record { pieces = (refl, refl, tt); ordered = refl };
  right_list = record { pieces = (refl, refl, tt); ordered = refl };
  rest_alone = λ e. cc;
  whole = refl;
  part = inl (lit≤ tt);
}

at_the_end : FitsWithin signature (f X Y) (f a (f b (f a b))) (a ∷ b ∷ []) (a ∷ b ∷ []) []
at_the_end = record {
  one_each = refl;
  bare = two_bare;
  left_list = record { pieces = (refl, refl, (refl, refl, tt)); ordered = refl };
  right_list = record { pieces = tt; ordered = refl };
  rest_alone = λ e. cc;
  whole = refl;
  part = inl (lit≤ tt);
}

-- X Y within a b c, and the rest
with_a_rest : FitsWithin signature (set X Y) (set a (set b c)) (a ∷ c ∷ []) [] (b ∷ [])
with_a_rest = record {
  one_each = refl;
  bare = (2, (refl, refl, ((refl, refl, tt), ((refl, refl, tt), tt))));
  left_list = record { pieces = tt; ordered = refl };
  right_list = record { pieces = (refl, refl, tt); ordered = refl };
  rest_alone = λ e. refl;
  whole = refl;
  part = inl (lit≤ tt);
}

-- the same with variables of the sort 0
with_sorts : SolvesWithin signature HasSort (set E (variable 3 0)) (set a (set b c)) (a ∷ c ∷ []) [] (b ∷ [])
with_sorts = (
  record {
    one_each = refl;
    bare = (2, (refl, refl, ((refl, refl, tt), ((refl, refl, tt), tt))));
    left_list = record { pieces = tt; ordered = refl };
    right_list = record { pieces = (refl, refl, tt); ordered = refl };
    rest_alone = λ e. refl;
    whole = refl;
    part = inl (lit≤ tt);
  },
  (inl refl, (inr (inr refl), tt)),
)

-- a part of one element, with a rest
one_element_is_no_part : FitsWithin signature (set X Y) (set a b) (a ∷ none ∷ []) [] (b ∷ []) → ⊥
one_element_is_no_part x = by x.part
  where
    left : List Tree
    left = []

    by : (2 ≤ 1) ⊎ ((left ≡ []) × (b ∷ [] ≡ [])) → ⊥
    by (inl l) = omega (arith, l)
    by (inr e) = let q = e.1 in cc

-- under another operator there is no context
no_context : FitsWithin signature (g X b) (g a b) (a ∷ []) [] []
no_context = (one_value, refl, refl)

top_of_list : assoc_top theory (f X Y) ≡ Some 8
top_of_list = refl

top_of_pair : assoc_top theory (g X Y) ≡ None
top_of_pair = refl

-- the top of a pattern is that of its normal form
top_of_collapsed : assoc_top theory (norm theory (set X none)) ≡ None
top_of_collapsed = refl

-- ---- the order of solutions

-- the solutions of X Y and a b, in order: (none, a b), (a, b), (a b, none), (b, a)
first_before_second : solution_cmp theory (set X Y) ([], none ∷ set a b ∷ []) ([], a ∷ b ∷ []) ≡ Less
first_before_second = refl

second_before_third : solution_cmp theory (set X Y) ([], a ∷ b ∷ []) ([], set a b ∷ none ∷ []) ≡ Less
second_before_third = refl

third_before_fourth : solution_cmp theory (set X Y) ([], set a b ∷ none ∷ []) ([], b ∷ a ∷ []) ≡ Less
third_before_fourth = refl

-- values stand for their classes
equal_values_tie : solution_cmp theory (set X Y) ([], set b a ∷ none ∷ []) ([], set a (set none b) ∷ none ∷ []) ≡ Equal
equal_values_tie = refl

-- those of k(X, Y) Z and a, in order: (none, nil, a), (nil, none, a); under k values are trees, and so are none and nil
as_trees : solution_cmp theory (set (k X Y) Z) ([], none ∷ nil ∷ a ∷ []) ([], nil ∷ none ∷ a ∷ []) ≡ Less
as_trees = refl

-- the left context comes first
left_first : solution_cmp theory (f X Y) ([], a ∷ b ∷ []) (a ∷ [], b ∷ a ∷ []) ≡ Less
left_first = refl

left_before_values : solution_cmp theory (f X Y) (a ∷ [], b ∷ a ∷ []) (a ∷ b ∷ [], a ∷ b ∷ []) ≡ Less
left_before_values = refl

places_of_pattern : places theory (set (k X Y) (set Z X)) ≡ None ∷ None ∷ Some 1 ∷ []
places_of_pattern = refl

places_under_set : places theory (set X (k X Y)) ≡ Some 1 ∷ None ∷ []
places_under_set = refl

place_at_top : places theory X ≡ None ∷ []
place_at_top = refl

key_as_list : value_key theory (Some 1) (set b a) ≡ a ∷ b ∷ []
key_as_list = refl

key_of_identity : value_key theory (Some 1) none ≡ []
key_of_identity = refl

key_as_tree : value_key theory None (set b a) ≡ node 1 (a ∷ b ∷ []) ∷ []
key_as_tree = refl

-- ---- what a subject can take

an_element : CanTake signature 1 (set a b) b
an_element = record {
  arguments = a ∷ b ∷ [];
  two_at_least = λ e. lit≤ tt;
  taken = inr (inl refl);
  equal = same_term (2, (refl, refl, ((refl, refl, tt), ((refl, refl, tt), tt))));
}

the_identity : CanTake signature 1 a none
the_identity = record {
  arguments = none ∷ a ∷ [];
  two_at_least = λ e. lit≤ tt;
  taken = inl refl;
  equal = norm_equal signature lawful (set none a) a (2, (refl, refl, ((refl, refl, tt), ((refl, refl, tt), tt)))) (2, (refl, refl, tt)) refl;
}

-- f(a, f(b, a)) = f(f(a, b), a)
a_part : CanTake signature 8 (f a (f b a)) (f a b)
a_part = record {
  arguments = f a b ∷ a ∷ [];
  two_at_least = λ e. lit≤ tt;
  taken = inl refl;
  equal =
      one_step (2, (refl, refl, ((refl, refl, ((refl, refl, tt), ((refl, refl, tt), tt))), ((refl, refl, tt), tt)))) (left_to_right (associativity 8 a b a refl))
      (same_term (2, (refl, refl, ((refl, refl, tt), ((refl, refl, ((refl, refl, tt), ((refl, refl, tt), tt))), tt)))));
}

the_numeral_before : CanTake signature 0 (numeral 5) (numeral 4)
the_numeral_before = record {
  arguments = numeral 4 ∷ [];
  two_at_least = λ e. cc;
  taken = inl refl;
  equal =
      one_step (2, (refl, refl, ((lit≤ tt, refl), tt))) (left_to_right (successor_of_numeral 0 4 refl (lit< tt)))
      (same_term (2, (lit≤ tt, refl)));
}

-- ---- the finite lists that the laws of finiteness name

short_words : words 1 (a ∷ b ∷ []) ≡ [] ∷ (a ∷ []) ∷ (b ∷ []) ∷ []
short_words = refl

no_words : words 0 (a ∷ b ∷ []) ≡ [] ∷ []
no_words = refl

words_of_one : words 2 (a ∷ []) ≡ [] ∷ (a ∷ []) ∷ (a ∷ a ∷ []) ∷ []
words_of_one = refl

-- more than those that can be taken: 5 and 4, and s over a list of at most one 5
parts_of_numeral : parts_under theory 0 (numeral 5) ≡ numeral 5 ∷ numeral 4 ∷ node 0 [] ∷ numeral 6 ∷ []
parts_of_numeral = refl

candidates_of_variable : candidates theory X (g a b) ≡ g a b ∷ []
candidates_of_variable = refl

candidates_of_constant : candidates theory a (g a b) ≡ []
candidates_of_constant = refl
