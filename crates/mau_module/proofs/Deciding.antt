-- Whether declarations are without a fault, and whether their signature is accepted, by computation, where no operator has an identity.
use Rattle.std.proofs.Common.{◌≡◌, ◌<◌, ◌≤◌, ◌⊎◌, ℕ, ◌+◌, ◌-◌, List, [], ◌∷◌, ◌++◌, Bool, true, false, not, ◌&&◌, ◌||◌, cond, map, get_or, Option, Some, None, refl, sym, ◌∙◌, ap, ap₂, subst, inl, inr, arith, append_assoc, append-nil}
use Rattle.std.specs.Prelude.{filter, is_none, nat_eq, nat_le, nat_lt, if◌then◌else◌}
use Rattle.std.specs.List.{range_with_len}
use Rattle.std.proofs.lemmas.Bool.{true≢false, not-true, eqb-true, eq-eqb, leb-true, ltb-true, lt-ltb, and_parts, or_cases, or_from, or_left, or_right, cases_lt}
use Rattle.mau_poset.specs.Order.{Hierarchy, Chain, no_step, step, Leads, IsBelow, AreOnCycle, IsAtOrBelow, kind_of, kinds}
use Rattle.mau_poset.proofs.Orders.{kind_of-kind}
use Rattle.mau_terms.specs.Finite.{IsIn}
use Rattle.mau_terms.specs.Bare.{IsLawful}
use Rattle.mau_signature.specs.declared.attributes.IdSpec.{IdSpec}
use Rattle.mau_signature.specs.declared.decl.Decl.{Decl}
use Rattle.mau_signature.specs.Attributes.{united, has_two_values}
use Rattle.mau_signature.specs.Faults.{Given, has_wrong_arity, has_other_kind, attributes_suit, attributes_up_to, is_identity_in, mismatches_kind, conflicts, has_bad_strategy, lacks_identity, is_at_fault, IsFaultless, one_more}
use Rattle.mau_signature.specs.Names.{operator_of, operators_of, declarations_of}
use Rattle.mau_signature.specs.Signature.{SignatureOf, IsOperator, declarations_at, attributes_of, arguments_of, result_of, terms_over, AreAtOrBelow, swapped, Applies, IsLeastResult, AppliesNone, identity_in}
use Rattle.mau_sigcheck.specs.Tuples.{AreInKinds, IsInKind, tuples_of}
use Rattle.mau_sigcheck.specs.Accepted.{IsAccepted, IsAcceptedOperator, IsPreregular, BracketsAgree, BracketsAgreeAt, KeepsSorts, IsWithinLimit, Gives}
use Rattle.mau_module.proofs.Members.{in_filter, in_range, in_contains, contains_in, get_in}

-- ---- lists

abbrev pub every : {A : Type 0} → (A → Bool) → List A → Bool
every p [] = true
every p (x ∷ xs) = p x && every p xs

pub every_in : {A : Type 0} (p : A → Bool) (xs : List A) → every p xs ≡ true → (x : A) → IsIn x xs → p x ≡ true
every_in p [] e x i = absurd i
every_in p (y ∷ xs) e x (inl s) = subst (λ z. p z ≡ true) (sym s) (and_parts (p y) (every p xs) e).0
every_in p (y ∷ xs) e x (inr i) = every_in p xs (and_parts (p y) (every p xs) e).1 x i

-- ---- the order of sorts, by a test

pub record IsOrderTest (h : Hierarchy) (le : ℕ → ℕ → Bool) : Type 0 where
  pub sound : (a b : ℕ) → le a b ≡ true → IsAtOrBelow h a b
  pub complete : (a b : ℕ) → IsAtOrBelow h a b → le a b ≡ true

-- one of the pairs leads from a to b
abbrev pub has_pair : List (ℕ × ℕ) → ℕ → ℕ → Bool
has_pair [] a b = false
has_pair (p ∷ ps) a b = (nat_eq p.0 a && nat_eq p.1 b) || has_pair ps a b

-- none of the pairs leads on from a
abbrev pub leads_nowhere : List (ℕ × ℕ) → ℕ → Bool
leads_nowhere ps a = every (λ p. not (nat_eq p.0 a)) ps

-- no pair goes on from another
abbrev pub is_flat : List (ℕ × ℕ) → Bool
is_flat ps = every (λ p. leads_nowhere ps p.1) ps

pair_there : (ps : List (ℕ × ℕ)) (a b : ℕ) → has_pair ps a b ≡ true → IsIn (a, b) ps
pair_there [] a b e = absurd (true≢false (sym e))
pair_there (p ∷ ps) a b e = elim (or_cases (nat_eq p.0 a && nat_eq p.1 b) (has_pair ps a b) e) [
  | inl x ↦ (let q = and_parts (nat_eq p.0 a) (nat_eq p.1 b) x in inl (sym (ap₂ (λ (u v : ℕ). (u, v)) (eqb-true p.0 a q.0) (eqb-true p.1 b q.1))))
  | inr x ↦ inr (pair_there ps a b x)
]

pair_told : (ps : List (ℕ × ℕ)) (a b : ℕ) → IsIn (a, b) ps → has_pair ps a b ≡ true
pair_told [] a b i = absurd i
pair_told (p ∷ ps) a b (inl s) =
    or_left (nat_eq p.0 a && nat_eq p.1 b) (has_pair ps a b)
    (ap₂ (λ x y. x && y) (eq-eqb p.0 a (sym (ap (λ (q : ℕ × ℕ). q.0) s))) (eq-eqb p.1 b (sym (ap (λ (q : ℕ × ℕ). q.1) s))))
pair_told (p ∷ ps) a b (inr i) = or_right (nat_eq p.0 a && nat_eq p.1 b) (has_pair ps a b) (pair_told ps a b i)

nowhere : (ps : List (ℕ × ℕ)) (a c : ℕ) → leads_nowhere ps a ≡ true → IsIn (a, c) ps → ⊥
nowhere ps a c e i = true≢false (sym (eq-eqb a a refl) ∙ not-true (nat_eq a a) (every_in (λ (p : ℕ × ℕ). not (nat_eq p.0 a)) ps e (a, c) i))

-- the kind of each sort stands in a table
abbrev pub by_table : Hierarchy → List ℕ → ℕ → ℕ → Bool
by_table h table a b = nat_eq a b || (has_pair h.pairs a b || (nat_lt a h.sorts && nat_eq (get_or table a 0) b))

module _ (h : Hierarchy) (table : List ℕ) (flat : is_flat h.pairs ≡ true) (right : every (λ a. nat_eq (get_or table a 0) (kind_of h a)) (range_with_len 0 h.sorts) ≡ true) where
  table_at : (a : ℕ) → a < h.sorts → get_or table a 0 ≡ kind_of h a
  table_at a l = eqb-true (get_or table a 0) (kind_of h a) (every_in (λ a. nat_eq (get_or table a 0) (kind_of h a)) (range_with_len 0 h.sorts) right a (in_range 0 h.sorts a (omega arith) (omega (arith, l))))

  by_kind : (a b : ℕ) → (nat_lt a h.sorts && nat_eq (get_or table a 0) b) ≡ true → IsAtOrBelow h a b
  by_kind a b e =
      let q = and_parts (nat_lt a h.sorts) (nat_eq (get_or table a 0) b) e in
      inr (sym (table_at a (ltb-true a h.sorts q.0)) ∙ eqb-true (get_or table a 0) b q.1)

  table_sound : (a b : ℕ) → by_table h table a b ≡ true → IsAtOrBelow h a b
  table_sound a b e = elim (or_cases (nat_eq a b) (has_pair h.pairs a b || (nat_lt a h.sorts && nat_eq (get_or table a 0) b)) e) [
    | inl x ↦ inl (subst (Chain (Leads h.pairs) a) (eqb-true a b x) no_step)
    | inr y ↦ elim (or_cases (has_pair h.pairs a b) (nat_lt a h.sorts && nat_eq (get_or table a 0) b) y) [
      | inl x ↦ inl (step (in_contains h.pairs (a, b) (pair_there h.pairs a b x)) no_step)
      | inr z ↦ by_kind a b z
    ]
  ]

  by_chain : {a b : ℕ} → Chain (Leads h.pairs) a b → (a ≡ b) ⊎ IsIn (a, b) h.pairs
  by_chain no_step = inl refl
  by_chain {a} {b} (step {b = c} l rest) =
      let i = contains_in h.pairs (a, c) l in
      let none = every_in (λ (p : ℕ × ℕ). leads_nowhere h.pairs p.1) h.pairs flat (a, c) i in
      elim (by_chain rest) [
        | inl e ↦ inr (subst (λ x. IsIn (a, x) h.pairs) e i)
        | inr j ↦ absurd (nowhere h.pairs c b none j)
      ]

  table_complete : (a b : ℕ) → IsAtOrBelow h a b → by_table h table a b ≡ true
  table_complete a b (inl c) = elim (by_chain c) [
    | inl e ↦ or_left (nat_eq a b) _ (eq-eqb a b e)
    | inr i ↦ or_right (nat_eq a b) _ (or_left (has_pair h.pairs a b) _ (pair_told h.pairs a b i))
  ]
  table_complete a b (inr e) = elim (cases_lt a h.sorts) [
    | inl l ↦ or_right (nat_eq a b) _ (or_right (has_pair h.pairs a b) _
        (ap₂ (λ x y. x && y) (lt-ltb a h.sorts l) (eq-eqb (get_or table a 0) b (table_at a l ∙ e))))
    | inr l ↦ or_left (nat_eq a b) _ (eq-eqb a b (sym (kind_of-kind h a l) ∙ e))
  ]

  pub table_order : IsOrderTest h (by_table h table)
  table_order = record { sound = table_sound; complete = table_complete }

-- ---- no cycles: each pair leads to a later sort

abbrev pub is_rising : List (ℕ × ℕ) → Bool
is_rising ps = every (λ p. nat_lt p.0 p.1) ps

module _ (ps : List (ℕ × ℕ)) (rises : is_rising ps ≡ true) where
  one_rises : (a b : ℕ) → Leads ps a b → a < b
  one_rises a b l = ltb-true a b (every_in (λ (p : ℕ × ℕ). nat_lt p.0 p.1) ps rises (a, b) (contains_in ps (a, b) l))

  chain_rises : {a b : ℕ} → Chain (Leads ps) a b → a ≤ b
  chain_rises no_step = omega arith
  chain_rises {a} {b} (step {b = c} l rest) = let x = one_rises a c l in let y = chain_rises rest in omega (arith, x, y)

  below_rises : (a b : ℕ) → IsBelow ps a b → a < b
  below_rises a b (c, l, rest) = let x = one_rises a c l in let y = chain_rises rest in omega (arith, x, y)

  pub no_cycle : (a b : ℕ) → ¬ AreOnCycle ps a b
  no_cycle a b c = let x = below_rises a b c.0 in let y = below_rises b a c.1 in omega (arith, x, y)

-- ---- declarations without a fault

abbrev pub is_fine : Hierarchy → List Decl → Decl → Bool
is_fine h earlier d =
    not (has_wrong_arity d)
    && (not (has_other_kind h earlier (kind_of h d.result))
    && (not (has_two_values (united earlier) d.attrs || not (attributes_suit h (attributes_up_to earlier d) d))
    && (not (has_bad_strategy earlier d) && is_none (attributes_up_to earlier d).id)))

-- each of some declarations is fine behind those before it
abbrev pub are_fine : Hierarchy → List Decl → List Decl → Bool
are_fine h before [] = true
are_fine h before (d ∷ ds) = is_fine h (declarations_of h before (operator_of h d)) d && are_fine h (before ++ d ∷ []) ds

no_identity : (o : Option IdSpec) → is_none o ≡ true → o ≡ None
no_identity None e = refl
no_identity (Some i) e = absurd (true≢false (sym e))

module _ (g : Given) where
  fine : (earlier : List Decl) (d : Decl) → is_fine g.hierarchy earlier d ≡ true → is_at_fault g earlier d ≡ false
  fine earlier d e =
      let h = g.hierarchy in
      let k = kind_of h d.result in
      let a = attributes_up_to earlier d in
      let p = and_parts (not (has_wrong_arity d)) _ e in
      let q = and_parts (not (has_other_kind h earlier k)) _ p.1 in
      let r = and_parts (not (has_two_values (united earlier) d.attrs || not (attributes_suit h a d))) _ q.1 in
      let s = and_parts (not (has_bad_strategy earlier d)) (is_none a.id) r.1 in
      let last : lacks_identity g earlier d ≡ false = ap (λ o. not (is_identity_in h (operators_of h g.declarations) g.numerals k o)) (no_identity a.id s.1) in
      or_from (has_wrong_arity d) _ (not-true (has_wrong_arity d) p.0)
      (or_from (mismatches_kind g earlier d) _ (not-true (has_other_kind h earlier k) q.0)
      (or_from (conflicts g earlier d) _ (not-true (conflicts g earlier d) r.0)
      (or_from (has_bad_strategy earlier d) (lacks_identity g earlier d) (not-true (has_bad_strategy earlier d) s.0) last)))

  pub faultless : (before ds : List Decl) → IsFaultless g before → are_fine g.hierarchy before ds ≡ true → IsFaultless g (before ++ ds)
  faultless before [] f e = subst (IsFaultless g) (sym (append-nil before)) f
  faultless before (d ∷ ds) f e =
      let p = and_parts (is_fine g.hierarchy (declarations_of g.hierarchy before (operator_of g.hierarchy d)) d) (are_fine g.hierarchy (before ++ d ∷ []) ds) e in
      subst (IsFaultless g) (append_assoc before (d ∷ []) ds)
      (faultless (before ++ d ∷ []) ds (one_more d f (fine (declarations_of g.hierarchy before (operator_of g.hierarchy d)) d p.0)) p.1)

-- ---- results of declarations, by the test of the order

abbrev pub fit : (ℕ → ℕ → Bool) → List ℕ → List ℕ → Bool
fit le [] [] = true
fit le [] (b ∷ ys) = false
fit le (a ∷ xs) [] = false
fit le (a ∷ xs) (b ∷ ys) = le a b && fit le xs ys

abbrev pub applies : (ℕ → ℕ → Bool) → List ℕ → Decl → Bool
applies le sorts d = fit le sorts d.args || (d.attrs.comm && fit le sorts (swapped d.args))

-- the result of the first declaration that applies, or k
abbrev pub value : (ℕ → ℕ → Bool) → ℕ → List Decl → List ℕ → ℕ
value le k [] sorts = k
value le k (d ∷ ds) sorts = if applies le sorts d then d.result else value le k ds sorts

-- each has its result at or below those of all later ones
abbrev pub is_ordered : (ℕ → ℕ → Bool) → List Decl → Bool
is_ordered le [] = true
is_ordered le (d ∷ ds) = every (λ e. le d.result e.result) ds && is_ordered le ds

module _ (h : Hierarchy) (le : ℕ → ℕ → Bool) (order : IsOrderTest h le) where
  fit_sound : (xs ys : List ℕ) → fit le xs ys ≡ true → AreAtOrBelow h xs ys
  fit_sound [] [] e = tt
  fit_sound [] (b ∷ ys) e = absurd (true≢false (sym e))
  fit_sound (a ∷ xs) [] e = absurd (true≢false (sym e))
  fit_sound (a ∷ xs) (b ∷ ys) e = let p = and_parts (le a b) (fit le xs ys) e in (order.sound a b p.0, fit_sound xs ys p.1)

  fit_complete : (xs ys : List ℕ) → AreAtOrBelow h xs ys → fit le xs ys ≡ true
  fit_complete [] [] a = refl
  fit_complete [] (b ∷ ys) a = absurd a
  fit_complete (x ∷ xs) [] a = absurd a
  fit_complete (x ∷ xs) (y ∷ ys) a = ap₂ (λ u v. u && v) (order.complete x y a.0) (fit_complete xs ys a.1)

  applies_sound : (sorts : List ℕ) (d : Decl) → applies le sorts d ≡ true → Applies h sorts d
  applies_sound sorts d e = elim (or_cases (fit le sorts d.args) (d.attrs.comm && fit le sorts (swapped d.args)) e) [
    | inl x ↦ inl (fit_sound sorts d.args x)
    | inr x ↦ (let p = and_parts d.attrs.comm (fit le sorts (swapped d.args)) x in inr (p.0, fit_sound sorts (swapped d.args) p.1))
  ]

  applies_complete : (sorts : List ℕ) (d : Decl) → Applies h sorts d → applies le sorts d ≡ true
  applies_complete sorts d (inl a) = or_left (fit le sorts d.args) _ (fit_complete sorts d.args a)
  applies_complete sorts d (inr a) = or_right (fit le sorts d.args) _ (ap₂ (λ u v. u && v) a.0 (fit_complete sorts (swapped d.args) a.1))

  module _ (k : ℕ) (sorts : List ℕ) where
    abbrev IsValue : List Decl → ℕ → Type 0
    IsValue ds v = IsLeastResult h ds sorts v ⊎ (AppliesNone h ds sorts × (k ≡ v))

    first_applies : (d : Decl) (ds : List Decl) → every (λ e. le d.result e.result) ds ≡ true → applies le sorts d ≡ true → IsLeastResult h (d ∷ ds) sorts d.result
    first_applies d ds below e = record {
      one = record { declaration = d; declared = in_contains (d ∷ ds) d (inl refl); applies = applies_sound sorts d e; result = refl };
      least = λ q r. least q r.declaration r.result (contains_in (d ∷ ds) r.declaration r.declared);
    }
      where
        least : (q : ℕ) (x : Decl) → x.result ≡ q → IsIn x (d ∷ ds) → IsAtOrBelow h d.result q
        least q x s (inl i) = inl (subst (Chain (Leads h.pairs) d.result) (ap (λ (y : Decl). y.result) (sym i) ∙ s) no_step)
        least q x s (inr i) = subst (IsAtOrBelow h d.result) s (order.sound d.result x.result (every_in (λ (y : Decl). le d.result y.result) ds below x i))

    not_first : (d x : Decl) (ds : List Decl) → applies le sorts d ≡ false → Applies h sorts x → IsIn x (d ∷ ds) → IsIn x ds
    not_first d x ds e a (inl i) = absurd (true≢false (sym (applies_complete sorts d (subst (Applies h sorts) i a)) ∙ e))
    not_first d x ds e a (inr i) = i

    passed_over : (d : Decl) (ds : List Decl) (v : ℕ) → applies le sorts d ≡ false → IsValue ds v → IsValue (d ∷ ds) v
    passed_over d ds v e (inl l) = inl (record {
      one = record { declaration = l.one.declaration; declared = in_contains (d ∷ ds) l.one.declaration (inr (contains_in ds l.one.declaration l.one.declared)); applies = l.one.applies; result = l.one.result };
      least = λ q r. l.least q (record {
        declaration = r.declaration;
        declared = in_contains ds r.declaration (not_first d r.declaration ds e r.applies (contains_in (d ∷ ds) r.declaration r.declared));
        applies = r.applies;
        result = r.result;
      });
    })
    passed_over d ds v e (inr n) = inr (
      λ x c a. n.0 x (in_contains ds x (not_first d x ds e a (contains_in (d ∷ ds) x c))) a,
      n.1,
    )

    valued : (ds : List Decl) → is_ordered le ds ≡ true → IsValue ds (value le k ds sorts)
    valued [] e = inr (λ x c a. absurd (contains_in [] x c), refl)
    valued (d ∷ ds) e = by (applies le sorts d) refl (valued ds p.1)
      where
        p : (every (λ (x : Decl). le d.result x.result) ds ≡ true) × (is_ordered le ds ≡ true)
        p = and_parts (every (λ (x : Decl). le d.result x.result) ds) (is_ordered le ds) e

        by : (b : Bool) → applies le sorts d ≡ b → IsValue ds (value le k ds sorts) → IsValue (d ∷ ds) (cond b d.result (value le k ds sorts))
        by true a ih = inl (first_applies d ds p.0 a)
        by false a ih = passed_over d ds (value le k ds sorts) a ih

-- ---- an operator is accepted

-- the sorts of a kind, and the kind
abbrev pub members : Hierarchy → ℕ → List ℕ
members h k = filter (λ a. nat_eq (kind_of h a) k) (range_with_len 0 (h.sorts + kinds h))

pub is_member : (h : Hierarchy) (k a : ℕ) → IsInKind h k a → IsIn a (members h k)
is_member h k a i =
    in_filter (λ x. nat_eq (kind_of h x) k) (range_with_len 0 (h.sorts + kinds h)) a (eq-eqb (kind_of h a) k i.1)
    (in_range 0 (h.sorts + kinds h) a (omega arith) (omega (arith, i.0)))

abbrev pub brackets : (ℕ → ℕ → Bool) → ℕ → List Decl → List ℕ → Bool
brackets le k ds xs =
    every (λ a. every (λ b. every (λ c. nat_eq (value le k ds (value le k ds (a ∷ b ∷ []) ∷ c ∷ [])) (value le k ds (a ∷ value le k ds (b ∷ c ∷ []) ∷ []))) xs) xs) xs

abbrev pub kind_of_all : Hierarchy → List Decl → ℕ
kind_of_all h ds = kind_of h (result_of ds)

abbrev pub if_associative : Bool → Hierarchy → (ℕ → ℕ → Bool) → List Decl → Bool
if_associative true h le ds = brackets le (kind_of_all h ds) ds (members h (kind_of_all h ds))
if_associative false h le ds = true

abbrev pub tuple_count : Hierarchy → List Decl → ℕ
tuple_count h ds =
    let k = kind_of_all h ds in
    tuples_of h (map (kind_of h) (arguments_of ds)) + (if (attributes_of ds).assoc then tuples_of h (k ∷ k ∷ k ∷ []) else 0)

abbrev pub is_right : Hierarchy → (ℕ → ℕ → Bool) → List Decl → Bool
is_right h le ds =
    is_ordered le ds && (is_none (attributes_of ds).id && (nat_le (tuple_count h ds) 4000000 && if_associative (attributes_of ds).assoc h le ds))

module _ (s : SignatureOf) (le : ℕ → ℕ → Bool) (order : IsOrderTest s.hierarchy le) (right : every (is_right s.hierarchy le) s.declarations ≡ true) where
  module _ (n : ℕ) (o : IsOperator s n) where
    abbrev ds : List Decl
    ds = declarations_at s n

    abbrev k : ℕ
    k = kind_of_all s.hierarchy ds

    it : is_right s.hierarchy le ds ≡ true
    it = every_in (is_right s.hierarchy le) s.declarations right ds (get_in s.declarations (n - 1) [] (omega (arith, o.0, o.1)))

    first : (is_ordered le ds ≡ true) × ((is_none (attributes_of ds).id && (nat_le (tuple_count s.hierarchy ds) 4000000 && if_associative (attributes_of ds).assoc s.hierarchy le ds)) ≡ true)
    first = and_parts (is_ordered le ds) (is_none (attributes_of ds).id && (nat_le (tuple_count s.hierarchy ds) 4000000 && if_associative (attributes_of ds).assoc s.hierarchy le ds)) it

    second : (is_none (attributes_of ds).id ≡ true) × ((nat_le (tuple_count s.hierarchy ds) 4000000 && if_associative (attributes_of ds).assoc s.hierarchy le ds) ≡ true)
    second = and_parts (is_none (attributes_of ds).id) (nat_le (tuple_count s.hierarchy ds) 4000000 && if_associative (attributes_of ds).assoc s.hierarchy le ds) first.1

    third : (nat_le (tuple_count s.hierarchy ds) 4000000 ≡ true) × (if_associative (attributes_of ds).assoc s.hierarchy le ds ≡ true)
    third = and_parts (nat_le (tuple_count s.hierarchy ds) 4000000) (if_associative (attributes_of ds).assoc s.hierarchy le ds) second.1

    gives : (sorts : List ℕ) → Gives s n sorts (value le k ds sorts)
    gives sorts = valued s.hierarchy le order k sorts ds first.0

    preregular : IsPreregular s n
    preregular sorts t = elim (gives sorts) [ inl l ↦ inl (value le k ds sorts, l) | inr none ↦ inr none.0 ]

    agree : (a b c : ℕ) → IsInKind s.hierarchy k a → IsInKind s.hierarchy k b → IsInKind s.hierarchy k c → brackets le k ds (members s.hierarchy k) ≡ true → BracketsAgreeAt s n (a ∷ b ∷ c ∷ [])
    agree a b c x y z e =
        let h = s.hierarchy in
        let v : List ℕ → ℕ = λ sorts. value le k ds sorts in
        let same : ℕ → ℕ → ℕ → Bool = λ a b c. nat_eq (value le k ds (value le k ds (a ∷ b ∷ []) ∷ c ∷ [])) (value le k ds (a ∷ value le k ds (b ∷ c ∷ []) ∷ [])) in
        let p = every_in (λ a. every (λ b. every (λ c. same a b c) (members h k)) (members h k)) (members h k) e a (is_member h k a x) in
        let q = every_in (λ b. every (λ c. same a b c) (members h k)) (members h k) p b (is_member h k b y) in
        let r = every_in (λ c. same a b c) (members h k) q c (is_member h k c z) in
        let equal = eqb-true (v (v (a ∷ b ∷ []) ∷ c ∷ [])) (v (a ∷ v (b ∷ c ∷ []) ∷ [])) r in (
          v (a ∷ v (b ∷ c ∷ []) ∷ []),
          record { inner = v (a ∷ b ∷ []); of_inner = gives (a ∷ b ∷ []); of_whole = subst (Gives s n (v (a ∷ b ∷ []) ∷ c ∷ [])) equal (gives (v (a ∷ b ∷ []) ∷ c ∷ [])) },
          record { inner = v (b ∷ c ∷ []); of_inner = gives (b ∷ c ∷ []); of_whole = gives (a ∷ v (b ∷ c ∷ []) ∷ []) },
        )

    agree_at : brackets le k ds (members s.hierarchy k) ≡ true → (sorts : List ℕ) → AreInKinds s.hierarchy (k ∷ k ∷ k ∷ []) sorts → BracketsAgreeAt s n sorts
    agree_at e [] t = absurd t
    agree_at e (a ∷ []) t = absurd t.1
    agree_at e (a ∷ b ∷ []) t = absurd t.1.1
    agree_at e (a ∷ b ∷ c ∷ []) t = agree a b c t.0 t.1.0 t.1.1.0 e
    agree_at e (a ∷ b ∷ c ∷ d ∷ sorts) t = absurd t.1.1.1

    associative : BracketsAgree s n
    associative is sorts t = agree_at (subst (λ b. if_associative b s.hierarchy le ds ≡ true) is third.1) sorts t

    keeps : KeepsSorts s n
    keeps x i l =
        let none = no_identity (attributes_of ds).id second.0 in
        let e = ap (identity_in s.names k) none in
        let has = l.of_identity.has_identity in
        cc

    accepted_operator : IsAcceptedOperator s n
    accepted_operator = record { preregular = preregular; associative = associative; identity = keeps }

  pub accepted : IsLawful (terms_over s) → IsAccepted s
  accepted kinds = record { operators = accepted_operator; kinds = kinds }

  pub within_limit : IsWithinLimit s
  within_limit n o = leb-true (tuple_count s.hierarchy (declarations_at s n)) 4000000 (third n o).0
