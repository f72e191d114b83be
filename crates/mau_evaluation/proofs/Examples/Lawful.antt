-- The signature of the examples is lawful, and the programs with its declarations and with a head `pair(X, Y)` have what the laws of sorts ask for.
use Rattle.std.proofs.Common.{◌≡◌, ℕ, zero, suc, List, [], ◌∷◌, ◌++◌, map, Bool, true, false, ◌==◌, ◌&&◌, ◌||◌, not, if◌then◌else◌, Option, Some, None, is_some, inl, inr, ◌⊎◌, refl, sym, ◌∙◌, ap, subst, eqb-true}
use Rattle.mau_terms.specs.Tree.{variable, numeral}
use Rattle.mau_terms.specs.Norm.{unit_tree, norm}
use Rattle.mau_terms.specs.Bare.{IsBare, IsLawful}
use Rattle.mau_terms.specs.Finite.{IsIn}
use Rattle.mau_terms.specs.declared.theory.Identity.{Identity}
use Rattle.mau_terms.specs.declared.theory.Identity.TheVariants.{Const, Num}
use Rattle.mau_evaluation.specs.Program.{Membership}
use Rattle.mau_evaluation.specs.Listing.{is_bare_in}
use Rattle.mau_evaluation.specs.Evaluation.{has_number, joined}
use Rattle.mau_evaluation.specs.HasSort.{HasSort, IsHead, HasHeads, DeclaredGrow, AreAmong}
use Rattle.mau_terms.proofs.Finite.{in_left, in_right}
use Rattle.mau_evaluation.proofs.Listed.{split_append}
use Rattle.mau_evaluation.proofs.BareTerms.{bare_in_is}
use Rattle.mau_evaluation.proofs.Known.{derived_sorts_are_known}
use Rattle.mau_evaluation.proofs.SortsGiven.{number_in, in_number}
use Rattle.mau_evaluation.proofs.Examples.Signature.{Op, op, operators, nth, at_number, first_declaration, signature, kind_of, above, have_these, swapped, given_by, of_list}
use Rattle.mau_evaluation.proofs.Examples.Sorts.{Pairs, pair}

-- ---- what each operator has, tested

abbrev AllOps : (Op → Bool) → List Op → Bool
AllOps P [] = P (op [] 13)
AllOps P (o ∷ os) = P o && AllOps P os

left_of : (a b : Bool) → (a && b) ≡ true → a ≡ true
left_of true b e = refl
left_of false b e = cc

right_of : (a b : Bool) → (a && b) ≡ true → b ≡ true
right_of true b e = e
right_of false b e = cc

for_each : (P : Op → Bool) (os : List Op) → AllOps P os ≡ true → (n : ℕ) → P (nth os n) ≡ true
for_each P [] e n = e
for_each P (o ∷ os) e zero = left_of (P o) (AllOps P os) e
for_each P (o ∷ os) e (suc n) = for_each P os (right_of (P o) (AllOps P os) e) n

implied : (a b : Bool) → (not a || b) ≡ true → a ≡ true → b ≡ true
implied true b e h = e
implied false b e h = cc

is_not : (b : Bool) → not b ≡ true → b ≡ false
is_not true e = cc
is_not false e = refl

abbrev same_numbers : List ℕ → List ℕ → Bool
same_numbers [] [] = true
same_numbers [] (n ∷ ns) = false
same_numbers (m ∷ ms) [] = false
same_numbers (m ∷ ms) (n ∷ ns) = (m == n) && same_numbers ms ns

numbers_same : (ms ns : List ℕ) → same_numbers ms ns ≡ true → ms ≡ ns
numbers_same [] [] e = refl
numbers_same [] (n ∷ ns) e = cc
numbers_same (m ∷ ms) [] e = cc
numbers_same (m ∷ ms) (n ∷ ns) e =
    let h : m ≡ n = eqb-true m n (left_of (m == n) (same_numbers ms ns) e) in
    let k : ms ≡ ns = numbers_same ms ns (right_of (m == n) (same_numbers ms ns) e) in
    cc

abbrev args : Op → List ℕ
args o = map kind_of ((first_declaration o.declarations).0)

abbrev res : Op → ℕ
res o = kind_of ((first_declaration o.declarations).1)

abbrev unit_fits : Op → Option Identity → Bool
unit_fits o None = true
unit_fits o (Some i) = same_numbers (args o) (res o ∷ res o ∷ []) && is_bare_in signature (unit_tree i) (res o)

abbrev plain_unit : Option Identity → Bool
plain_unit None = true
plain_unit (Some (Num n)) = true
plain_unit (Some (Const c)) = not (is_some ((at_number c.0).axioms.id))

none_is : {A : Type 0} (o : Option A) → is_some o ≡ false → o ≡ None
none_is None e = refl
none_is (Some x) e = cc

abbrev first_kind : List ℕ → ℕ
first_kind [] = 0
first_kind (k ∷ ks) = k

pub signature_lawful : IsLawful signature
signature_lawful = record {
  theories = record {
    succ_assoc = λ f e. is_not ((at_number f).axioms.assoc) (implied ((at_number f).axioms.succ) (not ((at_number f).axioms.assoc)) (for_each (λ o. not o.axioms.succ || not o.axioms.assoc) operators refl f) e);
    succ_comm = λ f e. is_not ((at_number f).axioms.comm) (implied ((at_number f).axioms.succ) (not ((at_number f).axioms.comm)) (for_each (λ o. not o.axioms.succ || not o.axioms.comm) operators refl f) e);
    succ_id = λ f e. none_is ((at_number f).axioms.id) (is_not (is_some ((at_number f).axioms.id)) (implied ((at_number f).axioms.succ) (not (is_some ((at_number f).axioms.id))) (for_each (λ o. not o.axioms.succ || not (is_some o.axioms.id)) operators refl f) e));
    plain_unit = λ f i e. let h : plain_unit (Some (Const i)) ≡ true = subst (λ u. plain_unit u ≡ true) e (for_each (λ o. plain_unit o.axioms.id) operators refl f) in
        none_is ((at_number i.0).axioms.id) (is_not (is_some ((at_number i.0).axioms.id)) h);
  };
  assoc_kinds = λ f e. numbers_same (args (at_number f)) (res (at_number f) ∷ res (at_number f) ∷ [])
      (implied ((at_number f).axioms.assoc) (same_numbers (args (at_number f)) (res (at_number f) ∷ res (at_number f) ∷ [])) (for_each (λ o. not o.axioms.assoc || same_numbers (args o) (res o ∷ res o ∷ [])) operators refl f) e);
  comm_kinds = λ f e. let k = first_kind (args (at_number f)) in (
    k,
    numbers_same (args (at_number f)) (k ∷ k ∷ [])
        (implied ((at_number f).axioms.comm) (same_numbers (args (at_number f)) (k ∷ k ∷ [])) (for_each (λ o. not o.axioms.comm || same_numbers (args o) (first_kind (args o) ∷ first_kind (args o) ∷ [])) operators refl f) e),
  );
  unit_kinds = λ f i e.
      let h : unit_fits (at_number f) (Some i) ≡ true = subst (λ u. unit_fits (at_number f) u ≡ true) e (for_each (λ o. unit_fits o o.axioms.id) operators refl f) in
      let a = same_numbers (args (at_number f)) (res (at_number f) ∷ res (at_number f) ∷ []) in
      let b = is_bare_in signature (unit_tree i) (res (at_number f)) in
      (numbers_same (args (at_number f)) (res (at_number f) ∷ res (at_number f) ∷ []) (left_of a b h), bare_in_is signature (unit_tree i) (res (at_number f)) (right_of a b h));
  succ_kinds = λ f e.
      let a = same_numbers (args (at_number f)) (res (at_number f) ∷ []) in
      let b = res (at_number f) == 10 in
      let h : (a && b) ≡ true = implied ((at_number f).axioms.succ) (a && b) (for_each (λ o. not o.axioms.succ || (same_numbers (args o) (res o ∷ []) && (res o == 10))) operators refl f) e in
      (numbers_same (args (at_number f)) (res (at_number f) ∷ []) (left_of a b h), ap Some (sym (eqb-true (res (at_number f)) 10 (right_of a b h))));
}

-- ---- declarations grow

have_more : (sorts more : List (List ℕ)) → AreAmong sorts more → (rs : List ℕ) → have_these sorts rs ≡ true → have_these more rs ≡ true
have_more [] [] a rs e = e
have_more [] (ss ∷ more) a rs e = absurd a
have_more (ss ∷ sorts) [] a rs e = absurd a
have_more (ss ∷ sorts) (ts ∷ more) a [] e = cc
have_more (ss ∷ sorts) (ts ∷ more) a (r ∷ rs) e =
    let h : has_number ts r ≡ true = in_number ts r (a.0 r (number_in ss r (left_of (has_number ss r) (have_these sorts rs) e))) in
    let k = have_more sorts more a.1 rs (right_of (has_number ss r) (have_these sorts rs) e) in
    ap (λ b. b && have_these more rs) h ∙ k

either : (a b c d : Bool) → (a ≡ true → c ≡ true) → (b ≡ true → d ≡ true) → (a || b) ≡ true → (c || d) ≡ true
either true b c d f g e = ap (λ w. w || d) (f refl)
either false b true d f g e = refl
either false b false d f g e = g e

both : (a b c : Bool) → (b ≡ true → c ≡ true) → (a && b) ≡ true → (a && c) ≡ true
both true b c f e = f e
both false b c f e = cc

-- a part of one list is a part of the other
append_more : (r : ℕ) (xs ys us vs : List ℕ) → (IsIn r xs → IsIn r us) → (IsIn r ys → IsIn r vs) → IsIn r (xs ++ ys) → IsIn r (us ++ vs)
append_more r xs ys us vs f g i = by (split_append r xs ys i)
  where
    by : IsIn r xs ⊎ IsIn r ys → IsIn r (us ++ vs)
    by (inl j) = in_left r us vs (f j)
    by (inr j) = in_right r us vs (g j)

abbrev fits : Op → List (List ℕ) → List ℕ × ℕ → Bool
fits o sorts d = have_these sorts d.0 || (o.axioms.comm && have_these sorts (swapped d.0))

given_more : (o : Op) (sorts more : List (List ℕ)) → AreAmong sorts more → (r : ℕ) (ds : List (List ℕ × ℕ)) →
    IsIn r (joined (map (λ d. if fits o sorts d then above d.1 else []) ds)) → IsIn r (joined (map (λ d. if fits o more d then above d.1 else []) ds))
given_more o sorts more a r [] i = i
given_more o sorts more a r (d ∷ ds) i =
    append_more r (if fits o sorts d then above d.1 else []) (joined (map (λ d. if fits o sorts d then above d.1 else []) ds)) (if fits o more d then above d.1 else []) (joined (map (λ d. if fits o more d then above d.1 else []) ds))
    (by (fits o sorts d) (fits o more d) (either (have_these sorts d.0) (o.axioms.comm && have_these sorts (swapped d.0)) (have_these more d.0) (o.axioms.comm && have_these more (swapped d.0))
    (have_more sorts more a d.0) (both o.axioms.comm (have_these sorts (swapped d.0)) (have_these more (swapped d.0)) (have_more sorts more a (swapped d.0)))))
    (given_more o sorts more a r ds) i
  where
    by : (x y : Bool) → (x ≡ true → y ≡ true) → IsIn r (if x then above d.1 else []) → IsIn r (if y then above d.1 else [])
    by true y f j = subst (λ b. IsIn r (if b then above d.1 else [])) (sym (f refl)) j
    by false y f j = absurd j

given_by_more : (o : Op) (sorts more : List (List ℕ)) → AreAmong sorts more → (r : ℕ) → IsIn r (given_by o sorts) → IsIn r (given_by o more)
given_by_more o sorts more a r i =
    append_more r (joined (map (λ d. if fits o sorts d then above d.1 else []) o.declarations)) (kind_of ((first_declaration o.declarations).1) ∷ [])
    (joined (map (λ d. if fits o more d then above d.1 else []) o.declarations)) (kind_of ((first_declaration o.declarations).1) ∷ []) (given_more o sorts more a r o.declarations) (λ j. j) i

list_more : (o : Op) (sorts more : List (List ℕ)) → AreAmong sorts more → (r : ℕ) → IsIn r (of_list o sorts) → IsIn r (of_list o more)
list_more o [] [] a r i = i
list_more o [] (ts ∷ more) a r i = absurd a
list_more o (ss ∷ sorts) [] a r i = absurd a
list_more o (ss ∷ []) (ts ∷ []) a r i = a.0 r i
list_more o (ss ∷ []) (ts ∷ us ∷ more) a r i = absurd a.1
list_more o (ss ∷ rs ∷ sorts) (ts ∷ []) a r i = absurd a.1
list_more o (ss ∷ rs ∷ sorts) (ts ∷ us ∷ more) a r i =
    given_by_more o (ss ∷ of_list o (rs ∷ sorts) ∷ []) (ts ∷ of_list o (us ∷ more) ∷ []) (a.0, ((λ q. list_more o (rs ∷ sorts) (us ∷ more) a.1 q), tt)) r i

declared_grow : DeclaredGrow Pairs
declared_grow f sorts more a r i = by ((at_number f).axioms.assoc) i
  where
    by : (b : Bool) → IsIn r (if b then of_list (at_number f) sorts else given_by (at_number f) sorts) → IsIn r (if b then of_list (at_number f) more else given_by (at_number f) more)
    by true j = list_more (at_number f) sorts more a r j
    by false j = given_by_more (at_number f) sorts more a r j

-- ---- heads

heads : HasHeads Pairs
heads = record { signature = signature_lawful; bare = λ m i. bare m i; head = λ m i. head m i }
  where
    bare : (m : Membership) → IsIn m Pairs.memberships → IsBare signature m.left
    bare m (inl e) = subst (λ n. IsBare signature n.left) (sym e) (12, bare_in_is signature (pair (variable 0 2) (variable 1 2)) 12 refl)
    bare m (inr i) = absurd i

    head : (m : Membership) → IsIn m Pairs.memberships → IsHead signature.theory (norm signature.theory m.left)
    head m (inl e) = subst (λ n. IsHead signature.theory (norm signature.theory n.left)) (sym e) (refl, refl, refl)
    head m (inr i) = absurd i

-- so pair(2, 1) : Up has no derivation
not_up : HasSort Pairs (pair (numeral 2) (numeral 1)) 4 → ⊥
not_up d = by (derived_sorts_are_known Pairs heads declared_grow (pair (numeral 2) (numeral 1)) (5 ∷ 12 ∷ 12 ∷ []) 0 (record { level = 9; each = 9; budget = 9; left = 9; comes = refl }) 4 d)
  where
    by : IsIn {A = ℕ} 4 (5 ∷ 12 ∷ 12 ∷ []) → ⊥
    by (inl e) = cc
    by (inr (inl e)) = cc
    by (inr (inr (inl e))) = cc
    by (inr (inr (inr e))) = e
