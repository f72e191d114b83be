-- The equations of the module of truth values are lawful over its signature.
use Rattle.std.proofs.Common.{◌≡◌, ◌≤◌, ℕ, List, [], ◌∷◌, ◌++◌, length, nat_le, true, refl, sym, subst, lit<}
use Rattle.std.specs.Prelude.{All}
use Rattle.std.proofs.lemmas.List.Elements.{All-nil, All-cons, All-append}
use Rattle.mau_poset.specs.Order.{kind_of, kinds_before, first_sort}
use Rattle.mau_terms.specs.Tree.{Tree, node, trees_of}
use Rattle.mau_terms.specs.Subst.{variables}
use Rattle.mau_terms.specs.Bare.{TermSignature, IsBareIn, AreBareIn}
use Rattle.mau_terms.specs.View.{tree_of}
use Rattle.mau_signature.specs.Signature.{SignatureOf, theory_at, terms_over}
use Rattle.mau_prelude.specs.declared.module.PreludeModule.TheVariants.{Bool}
use Rattle.mau_prelude.specs.Rows.{bare_of, a, b, c, true_term, false_term, and, or, xor, not, implies, of_a, of_ab, of_abc, equation}
use Rattle.mau_prelude.specs.Booleans.{equations_of_and_and_xor, equations_that_reduce_to_xor}
use Rattle.mau_program.specs.declared.statements.Equation.{Equation}
use Rattle.mau_program.specs.Binding.{has_only, listed}
use Rattle.mau_program.specs.LawfulStatements.{IsLawfulFragment, HasListedIn, IsLawfulEquation, IsLawfulMembership, IsLawfulRule}
use Rattle.mau_program.specs.LawfulStrategies.{IsLawfulDefinition}
use Rattle.mau_program.specs.Tops.{is_left_side}
use Rattle.mau_module.specs.Library.{truth}
use Rattle.mau_module.specs.Made.{AreLawfulOver}
use Rattle.mau_module.specs.Ready.{module_of}
use Rattle.mau_module.proofs.PreludeFacts.{ms1, ms2}
use Rattle.mau_module.proofs.Deciding.{every, every_in}
use Rattle.mau_module.proofs.PreludeSigned.{in_all}
use Rattle.mau_module.proofs.LawfulCarried.{nothing_few}
use Rattle.mau_statement.specs.declared.TheConstants.{MAX_VARIABLES}
use Rattle.std.proofs.lemmas.Bool.{leb-true}

unfoldable pub bool_signature : SignatureOf
bool_signature = (module_of ms2 (truth ∷ []) Bool).signature

abbrev over : TermSignature
over = terms_over bool_signature

-- ---- its operators and variables

abbrev IsOperatorOver : ℕ → List ℕ → Type 0
IsOperatorOver f ks = (over.has_operator f ≡ true) × (over.result f ≡ 1) × (over.arguments f ≡ ks)

true_there : IsOperatorOver 1 []
unfolding bool_signature ms1 ms2 kind_of kinds_before first_sort
true_there = (refl, refl, refl)

false_there : IsOperatorOver 2 []
unfolding bool_signature ms1 ms2 kind_of kinds_before first_sort
false_there = (refl, refl, refl)

and_there : IsOperatorOver 3 (1 ∷ 1 ∷ [])
unfolding bool_signature ms1 ms2 kind_of kinds_before first_sort
and_there = (refl, refl, refl)

or_there : IsOperatorOver 4 (1 ∷ 1 ∷ [])
unfolding bool_signature ms1 ms2 kind_of kinds_before first_sort
or_there = (refl, refl, refl)

xor_there : IsOperatorOver 5 (1 ∷ 1 ∷ [])
unfolding bool_signature ms1 ms2 kind_of kinds_before first_sort
xor_there = (refl, refl, refl)

not_there : IsOperatorOver 6 (1 ∷ [])
unfolding bool_signature ms1 ms2 kind_of kinds_before first_sort
not_there = (refl, refl, refl)

implies_there : IsOperatorOver 7 (1 ∷ 1 ∷ [])
unfolding bool_signature ms1 ms2 kind_of kinds_before first_sort
implies_there = (refl, refl, refl)

sort_there : (over.has_sort 0 ≡ true) × (over.kind_of 0 ≡ 1)
unfolding bool_signature ms1 ms2 kind_of kinds_before first_sort
sort_there = (refl, refl)

-- ---- its terms

abbrev IsTerm : Tree → Type 0
IsTerm t = IsBareIn over t 1

of_none : (f : ℕ) → IsOperatorOver f [] → IsTerm (node f [])
of_none f o = (o.0, o.1, subst (AreBareIn over (trees_of [])) (sym o.2) tt)

of_one : (f : ℕ) (t : Tree) → IsOperatorOver f (1 ∷ []) → IsTerm t → IsTerm (node f (t ∷ []))
of_one f t o p = (o.0, o.1, subst (AreBareIn over (trees_of (t ∷ []))) (sym o.2) (p, tt))

of_two : (f : ℕ) (t u : Tree) → IsOperatorOver f (1 ∷ 1 ∷ []) → IsTerm t → IsTerm u → IsTerm (node f (t ∷ u ∷ []))
of_two f t u o p q = (o.0, o.1, subst (AreBareIn over (trees_of (t ∷ u ∷ []))) (sym o.2) (p, (q, tt)))

is_a : IsTerm a
is_a = (lit< tt, sort_there.0, sort_there.1)

is_b : IsTerm b
is_b = (lit< tt, sort_there.0, sort_there.1)

is_c : IsTerm c
is_c = (lit< tt, sort_there.0, sort_there.1)

is_true : IsTerm true_term
is_true = of_none 1 true_there

is_false : IsTerm false_term
is_false = of_none 2 false_there

is_and : (t u : Tree) → IsTerm t → IsTerm u → IsTerm (and t u)
is_and t u p q = of_two 3 t u and_there p q

is_or : (t u : Tree) → IsTerm t → IsTerm u → IsTerm (or t u)
is_or t u p q = of_two 4 t u or_there p q

is_xor : (t u : Tree) → IsTerm t → IsTerm u → IsTerm (xor t u)
is_xor t u p q = of_two 5 t u xor_there p q

is_not : (t : Tree) → IsTerm t → IsTerm (not t)
is_not t p = of_one 6 t not_there p

is_implies : (t u : Tree) → IsTerm t → IsTerm u → IsTerm (implies t u)
is_implies t u p q = of_two 7 t u implies_there p q

-- ---- its left sides

abbrev IsLeft : Tree → Type 0
IsLeft t = is_left_side (theory_at bool_signature) t ≡ true

left_1 : IsLeft (and true_term a)
unfolding bool_signature ms1 ms2 kind_of kinds_before first_sort
left_1 = refl

left_2 : IsLeft (and false_term a)
unfolding bool_signature ms1 ms2 kind_of kinds_before first_sort
left_2 = refl

left_3 : IsLeft (and a a)
unfolding bool_signature ms1 ms2 kind_of kinds_before first_sort
left_3 = refl

left_4 : IsLeft (xor false_term a)
unfolding bool_signature ms1 ms2 kind_of kinds_before first_sort
left_4 = refl

left_5 : IsLeft (xor a a)
unfolding bool_signature ms1 ms2 kind_of kinds_before first_sort
left_5 = refl

left_6 : IsLeft (and a (xor b c))
unfolding bool_signature ms1 ms2 kind_of kinds_before first_sort
left_6 = refl

left_7 : IsLeft (not a)
unfolding bool_signature ms1 ms2 kind_of kinds_before first_sort
left_7 = refl

left_8 : IsLeft (or a b)
unfolding bool_signature ms1 ms2 kind_of kinds_before first_sort
left_8 = refl

left_9 : IsLeft (implies a b)
unfolding bool_signature ms1 ms2 kind_of kinds_before first_sort
left_9 = refl

-- ---- its equations

-- an equation without a condition is lawful
one_equation : (vars : List (List ℕ × ℕ)) (l r : Tree) → IsTerm (tree_of (bare_of l)) → IsTerm (tree_of (bare_of r)) → has_only (listed vars) (tree_of (bare_of l)) ≡ true
    → has_only (listed vars) (tree_of (bare_of r)) ≡ true → IsLeft (tree_of (bare_of l)) → has_only (variables (tree_of (bare_of l))) (tree_of (bare_of r)) ≡ true
    → IsLawfulEquation bool_signature (equation vars l r)
one_equation vars l r p q x y left bound = record {
  parts = record { sides = record { kind = 1; first = p; second = q }; condition = All-nil (IsLawfulFragment bool_signature) };
  listed = (x, y, All-nil (HasListedIn vars));
  left_side = left;
  bound = λ e. bound;
}

abbrev Holds : Equation → Type 0
Holds = IsLawfulEquation bool_signature

holds_1 : Holds (equation of_a (and true_term a) a)
holds_1 = one_equation of_a (and true_term a) a (is_and true_term a is_true is_a) is_a refl refl left_1 refl

holds_2 : Holds (equation of_a (and false_term a) false_term)
holds_2 = one_equation of_a (and false_term a) false_term (is_and false_term a is_false is_a) is_false refl refl left_2 refl

holds_3 : Holds (equation of_a (and a a) a)
holds_3 = one_equation of_a (and a a) a (is_and a a is_a is_a) is_a refl refl left_3 refl

holds_4 : Holds (equation of_a (xor false_term a) a)
holds_4 = one_equation of_a (xor false_term a) a (is_xor false_term a is_false is_a) is_a refl refl left_4 refl

holds_5 : Holds (equation of_a (xor a a) false_term)
holds_5 = one_equation of_a (xor a a) false_term (is_xor a a is_a is_a) is_false refl refl left_5 refl

holds_6 : Holds (equation of_abc (and a (xor b c)) (xor (and a b) (and a c)))
holds_6 = one_equation of_abc (and a (xor b c)) (xor (and a b) (and a c)) (is_and a (xor b c) is_a (is_xor b c is_b is_c)) (is_xor (and a b) (and a c) (is_and a b is_a is_b) (is_and a c is_a is_c)) refl refl left_6 refl

holds_7 : Holds (equation of_a (not a) (xor a true_term))
holds_7 = one_equation of_a (not a) (xor a true_term) (is_not a is_a) (is_xor a true_term is_a is_true) refl refl left_7 refl

holds_8 : Holds (equation of_ab (or a b) (xor (and a b) (xor a b)))
holds_8 = one_equation of_ab (or a b) (xor (and a b) (xor a b)) (is_or a b is_a is_b) (is_xor (and a b) (xor a b) (is_and a b is_a is_b) (is_xor a b is_a is_b)) refl refl left_8 refl

holds_9 : Holds (equation of_ab (implies a b) (not (xor a (and a b))))
holds_9 = one_equation of_ab (implies a b) (not (xor a (and a b))) (is_implies a b is_a is_b) (is_not (xor a (and a b)) (is_xor a (and a b) is_a (is_and a b is_a is_b))) refl refl left_9 refl

first_five : All Holds equations_of_and_and_xor
first_five =
    All-cons Holds (equation of_a (and true_term a) a) (equation of_a (and false_term a) false_term ∷ equation of_a (and a a) a ∷ equation of_a (xor false_term a) a ∷ equation of_a (xor a a) false_term ∷ []) holds_1
    (All-cons Holds (equation of_a (and false_term a) false_term) (equation of_a (and a a) a ∷ equation of_a (xor false_term a) a ∷ equation of_a (xor a a) false_term ∷ []) holds_2
    (All-cons Holds (equation of_a (and a a) a) (equation of_a (xor false_term a) a ∷ equation of_a (xor a a) false_term ∷ []) holds_3
    (All-cons Holds (equation of_a (xor false_term a) a) (equation of_a (xor a a) false_term ∷ []) holds_4
    (All-cons Holds (equation of_a (xor a a) false_term) [] holds_5
    (All-nil Holds)))))

last_four : All Holds equations_that_reduce_to_xor
last_four =
    All-cons Holds (equation of_abc (and a (xor b c)) (xor (and a b) (and a c))) (equation of_a (not a) (xor a true_term) ∷ equation of_ab (or a b) (xor (and a b) (xor a b)) ∷ equation of_ab (implies a b) (not (xor a (and a b))) ∷ []) holds_6
    (All-cons Holds (equation of_a (not a) (xor a true_term)) (equation of_ab (or a b) (xor (and a b) (xor a b)) ∷ equation of_ab (implies a b) (not (xor a (and a b))) ∷ []) holds_7
    (All-cons Holds (equation of_ab (or a b) (xor (and a b) (xor a b))) (equation of_ab (implies a b) (not (xor a (and a b))) ∷ []) holds_8
    (All-cons Holds (equation of_ab (implies a b) (not (xor a (and a b)))) [] holds_9
    (All-nil Holds))))

-- not too many variables, by a test
all_short : (es : List Equation) → every (λ (e : Equation). nat_le (length e.vars) MAX_VARIABLES) es ≡ true → All (λ (e : Equation). length e.vars ≤ MAX_VARIABLES) es
all_short es t = in_all (λ (e : Equation). length e.vars ≤ MAX_VARIABLES) es (λ e i. leb-true (length e.vars) MAX_VARIABLES (every_in (λ (x : Equation). nat_le (length x.vars) MAX_VARIABLES) es t e i))

pub bool_equations : AreLawfulOver (module_of ms2 (truth ∷ []) Bool).signature (module_of ms2 (truth ∷ []) Bool).own.statements
unfolding bool_signature
bool_equations = record {
  equations = All-append Holds equations_of_and_and_xor equations_that_reduce_to_xor first_five last_four;
  memberships = All-nil (IsLawfulMembership bool_signature);
  rules = All-nil (IsLawfulRule bool_signature);
  strategies = All-nil (IsLawfulDefinition bool_signature);
  few = record { equations = all_short (equations_of_and_and_xor ++ equations_that_reduce_to_xor) refl; memberships = nothing_few.memberships; rules = nothing_few.rules; strategies = nothing_few.strategies };
}
