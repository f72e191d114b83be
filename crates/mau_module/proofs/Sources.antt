-- The signature of some declarations: where the operator of each stands, and which declarations stand there.
use Rattle.std.proofs.Common.{◌≡◌, ◌≢◌, ◌<◌, ℕ, ◌+◌, ◌-◌, List, [], ◌∷◌, ◌++◌, Bool, true, false, not, ◌||◌, cond, map, length, get_or, Option, Some, None, refl, sym, ◌∙◌, ap, subst, arith, inl, inr}
use Rattle.std.specs.Prelude.{All, nat_lt, position}
use Rattle.std.specs.List.{list_any, position_or_len}
use Rattle.std.specs.Option.{option_map}
use Rattle.std.proofs.lemmas.List.{get_or-map, length-map}
use Rattle.std.proofs.lemmas.Bool.{lt-ltb}
use Rattle.std.proofs.lemmas.List.Quantifiers.{position-Some}
use Rattle.mau_poset.specs.Order.{Hierarchy, kind_of}
use Rattle.mau_terms.specs.Finite.{IsIn}
use Rattle.mau_terms.proofs.Finite.{in_map}
use Rattle.mau_signature.specs.declared.attributes.Attrs.{Attrs}
use Rattle.mau_signature.specs.declared.decl.Decl.{Decl}
use Rattle.mau_signature.specs.Attributes.{first_given, united, with_attributes, with_united}
use Rattle.mau_signature.specs.Names.{Operator, operator_of, same_operator, operators_of, declarations_of}
use Rattle.mau_signature.specs.Signature.{SignatureOf, signature_of, IsOperator, IsAlike, declarations_at, form_of, arguments_of, result_of, attributes_of, number_of}
use Rattle.mau_signature.proofs.Same.{same_operator-is, same_operator_itself}
use Rattle.mau_signature.proofs.Grouped.{is_among, value_at}
use Rattle.mau_signature.proofs.Whole.{some_kept, all_declared}
use Rattle.mau_module.proofs.Members.{in_filter, in_filtered, all_in}

-- ---- places of what is there

pub split_at : {A : Type 0} (xs : List A) (x : A) → IsIn x xs → (before : List A) × (after : List A) × (xs ≡ before ++ x ∷ after)
split_at [] x h = absurd h
split_at (y ∷ xs) x (inl e) = ([], xs, ap (λ z. z ∷ xs) (sym e))
split_at (y ∷ xs) x (inr h) = let r = split_at xs x h in (y ∷ r.0, r.1, ap (λ zs. y ∷ zs) r.2)

pub place_within : {A : Type 0} (p : A → Bool) (xs : List A) → list_any p xs ≡ true → position_or_len p xs < length xs
place_within p [] e = absurd cc
place_within p (x ∷ xs) e = by (p x) refl (place_within p xs)
  where
    by : (b : Bool) → p x ≡ b → (list_any p xs ≡ true → position_or_len p xs < length xs) → cond (not b) (1 + position_or_len p xs) 0 < length (x ∷ xs)
    by true k ih = omega arith
    by false k ih = let later = ih (sym (ap (λ b. b || list_any p xs) k) ∙ e) in omega (arith, later)

pub position_there : {A : Type 0} (p : A → Bool) (xs : List A) → list_any p xs ≡ true → position p xs ≡ Some (position_or_len p xs)
position_there p xs e =
    ap (λ b. cond b (Some (position_or_len p xs)) None) (lt-ltb (position_or_len p xs) (length xs) (place_within p xs e))

-- ---- what a list of declarations has united

pub built_of_one : (ds : List Decl) (name : List ℕ) → (united ds).builtin ≡ Some name → (d : Decl) × IsIn d ds × (d.attrs.builtin ≡ Some name)
built_of_one [] name e = absurd cc
built_of_one (d ∷ ds) name e = by d.attrs.builtin refl e (built_of_one ds name)
  where
    by : (b : Option (List ℕ)) → d.attrs.builtin ≡ b → first_given b (united ds).builtin ≡ Some name
        → ((united ds).builtin ≡ Some name → (x : Decl) × IsIn x ds × (x.attrs.builtin ≡ Some name)) → (x : Decl) × IsIn x (d ∷ ds) × (x.attrs.builtin ≡ Some name)
    by (Some x) is f ih = (d, inl refl, is ∙ f)
    by None is f ih = let r = ih f in (r.0, inr r.1, r.2)

built_of_group : (ds : List Decl) (name : List ℕ) → (attributes_of (with_united ds)).builtin ≡ Some name → (d : Decl) × IsIn d ds × (d.attrs.builtin ≡ Some name)
built_of_group [] name e = absurd cc
built_of_group (d ∷ ds) name e = built_of_one (d ∷ ds) name e

-- ---- the signature of some declarations

module _ (h : Hierarchy) (ds : List Decl) (numerals : Option (ℕ × ℕ)) where
  abbrev made : SignatureOf
  made = signature_of h ds numerals

  abbrev group : Operator → List Decl
  group f = with_united (declarations_of h ds f)

  -- the place of the operator of a declaration
  abbrev pub place : Decl → ℕ
  place d = position_or_len (same_operator (operator_of h d)) (operators_of h ds)

  pub operator_there : (d : Decl) → IsIn d ds → list_any (same_operator (operator_of h d)) (operators_of h ds) ≡ true
  operator_there d i = let r = split_at ds d i in is_among h r.0 d r.1 ds r.2

  pub place_lt : (d : Decl) → IsIn d ds → place d < length (operators_of h ds)
  place_lt d i = place_within (same_operator (operator_of h d)) (operators_of h ds) (operator_there d i)

  pub number_is : (d : Decl) → IsIn d ds → number_of made.names (operator_of h d) ≡ Some (record { 0 = place d + 1 })
  number_is d i =
      let known : nat_lt (place d) (length (operators_of h ds)) ≡ true = lt-ltb (place d) (length (operators_of h ds)) (place_lt d i) in
      ap (λ b. option_map (λ i. record { 0 = i + 1 }) (cond b (Some (place d)) None)) known

  pub is_operator_of : (d : Decl) → IsIn d ds → IsOperator made (place d + 1)
  is_operator_of d i = (omega arith, omega (arith, place_lt d i, length-map (operators_of h ds) group))

  pub group_is : (d : Decl) → IsIn d ds → declarations_at made (place d + 1) ≡ group (operator_of h d)
  group_is d i =
      let less : place d + 1 - 1 ≡ place d = omega arith in
      ap (λ k. get_or made.declarations k []) less ∙ value_at group (operator_of h d) (operators_of h ds) [] (operator_there d i)

  -- a declaration of the same operator is one of those
  pub in_group : (d e : Decl) → IsIn e ds → operator_of h e ≡ operator_of h d → IsIn (with_attributes (united (declarations_of h ds (operator_of h d))) e) (group (operator_of h d))
  in_group d e i same =
      let f = operator_of h d in
      in_map (with_attributes (united (declarations_of h ds f))) e (declarations_of h ds f)
      (in_filter (λ x. same_operator f (operator_of h x)) ds e (subst (λ g. same_operator f g ≡ true) (sym same) (same_operator_itself f)) i)

  pub in_group_at : (d e : Decl) → IsIn d ds → IsIn e ds → operator_of h e ≡ operator_of h d
      → IsIn (with_attributes (united (declarations_of h ds (operator_of h d))) e) (declarations_at made (place d + 1))
  in_group_at d e i j same = subst (IsIn (with_attributes (united (declarations_of h ds (operator_of h d))) e)) (sym (group_is d i)) (in_group d e j same)

  -- ---- the operator with a number

  abbrev pub no_operator : Operator
  no_operator = record { form = []; arguments = []; constant = None }

  -- the operator at the place of a declaration is its own
  pub at_place : (d : Decl) → IsIn d ds → operator_of h d ≡ get_or (operators_of h ds) (place d + 1 - 1) no_operator
  at_place d i =
      let less : place d + 1 - 1 ≡ place d = omega arith in
      let r = position-Some (same_operator (operator_of h d)) (operators_of h ds) (place d) no_operator (position_there (same_operator (operator_of h d)) (operators_of h ds) (operator_there d i)) in
      same_operator-is (operator_of h d) (get_or (operators_of h ds) (place d) no_operator) r.1 ∙ ap (λ k. get_or (operators_of h ds) k no_operator) (sym less)

  -- those of the operator n: a first one, of a declaration that is given, and others of its operator
  pub record AreOf (n : ℕ) : Type 0 where
    pub first : Decl
    pub given : IsIn first ds
    pub attributes : Attrs
    pub rest : List Decl
    pub declared : declarations_at made n ≡ with_attributes attributes first ∷ rest
    pub whole : declarations_at made n ≡ group (operator_of h first)
    pub its : operator_of h first ≡ get_or (operators_of h ds) (n - 1) no_operator

  pub at_number : (n : ℕ) → IsOperator made n → AreOf n
  at_number n o = by (declarations_of h ds f) refl
    where
      f : Operator
      f = get_or (operators_of h ds) (n - 1) no_operator

      lt : n - 1 < length (operators_of h ds)
      lt = omega (arith, o.0, o.1, length-map (operators_of h ds) group)

      at : declarations_at made n ≡ group f
      at = get_or-map group (operators_of h ds) (n - 1) no_operator [] lt

      some : declarations_of h ds f ≢ []
      some = some_kept (λ d. same_operator f (operator_of h d)) ds (all_declared h ds (n - 1) no_operator lt)

      by : (xs : List Decl) → declarations_of h ds f ≡ xs → AreOf n
      by [] e = absurd (some e)
      by (d ∷ rest) e =
          let there = in_filtered (λ x. same_operator f (operator_of h x)) ds d (subst (IsIn d) (sym e) (inl refl)) in
          let its : f ≡ operator_of h d = same_operator-is f (operator_of h d) there.1 in
          record {
            first = d;
            given = there.0;
            attributes = united (d ∷ rest);
            rest = map (with_attributes (united (d ∷ rest))) rest;
            declared = at ∙ ap with_united e;
            whole = at ∙ ap group its;
            its = sym its;
          }

  -- what has something built in has it from a declaration that is given
  pub built_given : (n : ℕ) (name : List ℕ) → IsOperator made n → (attributes_of (declarations_at made n)).builtin ≡ Some name
      → (d : Decl) × IsIn d ds × (d.attrs.builtin ≡ Some name) × (declarations_at made n ≡ declarations_at made (place d + 1))
  built_given n name o e =
      let r = at_number n o in
      let f = operator_of h r.first in
      let b = built_of_group (declarations_of h ds f) name (subst (λ (xs : List Decl). (attributes_of xs).builtin ≡ Some name) r.whole e) in
      let there = in_filtered (λ x. same_operator f (operator_of h x)) ds b.0 b.1 in
      let its : f ≡ operator_of h b.0 = same_operator-is f (operator_of h b.0) there.1 in
      (b.0, there.0, b.2, r.whole ∙ ap group its ∙ sym (group_is b.0 there.0))

  -- ---- where all declarations of an operator are alike

  module _ (alike : (n : ℕ) → IsOperator made n → All (IsAlike h (declarations_at made n)) (declarations_at made n)) where
    abbrev of_it : Decl → List Decl
    of_it d = declarations_at made (place d + 1)

    as_it : (d : Decl) → IsIn d ds → IsAlike h (of_it d) (with_attributes (united (declarations_of h ds (operator_of h d))) d)
    as_it d i = all_in (IsAlike h (of_it d)) (of_it d) (with_attributes (united (declarations_of h ds (operator_of h d))) d) (alike (place d + 1) (is_operator_of d i)) (in_group_at d d i i refl)

    pub form_at : (d : Decl) → IsIn d ds → form_of (of_it d) ≡ d.form
    form_at d i = sym (as_it d i).form

    pub arguments_at : (d : Decl) → IsIn d ds → map (kind_of h) (arguments_of (of_it d)) ≡ map (kind_of h) d.args
    arguments_at d i = sym (as_it d i).arguments

    pub result_at : (d : Decl) → IsIn d ds → kind_of h (result_of (of_it d)) ≡ kind_of h d.result
    result_at d i = sym (as_it d i).result
