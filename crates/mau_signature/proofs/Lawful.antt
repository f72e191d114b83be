-- Declarations without a fault make a signature with the kinds that axioms need.
use Rattle.std.proofs.Common.{◌≡◌, ◌≢◌, ℕ, ◌+◌, ◌-◌, ◌<◌, ◌≤◌, nat_lt, nat_le, zero, suc, List, [], ◌∷◌, Bool, true, false, ◌&&◌, ◌||◌, cond, not, if◌then◌else◌, length, map, get_or, Option, Some, None, All, refl, sym, ◌∙◌, ap, subst, eqb-true, arith}
use Rattle.std.specs.Prelude.{is_some, filter}
use Rattle.std.specs.List.{list_any, position_or_len}
use Rattle.std.specs.Option.{option_map}
use Rattle.std.proofs.lemmas.List.{length-map}
use Rattle.std.proofs.lemmas.Bool.Decides.{nat_tests}
use Rattle.std.proofs.lemmas.List.Elements.{All-head, All-tail, All-filter}
use Rattle.mau_poset.specs.Order.{Hierarchy, kind_of}
use Rattle.mau_terms.specs.Tree.{no_trees}
use Rattle.mau_terms.specs.Norm.{greatest_numeral, unit_tree}
use Rattle.mau_terms.specs.Bare.{IsBareIn, AreBareIn, IsLawful}
use Rattle.mau_terms.specs.declared.ids.OpId.{OpId}
use Rattle.mau_terms.specs.declared.theory.Identity.{Identity}
use Rattle.mau_terms.specs.declared.theory.Identity.TheVariants.{Const as Constant, Num as Numeral}
use Rattle.mau_terms.specs.declared.theory.Theory.{Theory}
use Rattle.mau_signature.specs.declared.form.Piece.{Piece}
use Rattle.mau_signature.specs.declared.attributes.Attrs.{Attrs}
use Rattle.mau_signature.specs.declared.attributes.IdSpec.{IdSpec}
use Rattle.mau_signature.specs.declared.attributes.IdSpec.TheVariants.{Const, Num}
use Rattle.mau_signature.specs.declared.decl.Decl.{Decl}
use Rattle.mau_signature.specs.declared.operator.Entry.{Entry}
use Rattle.mau_signature.specs.Built.{IsEntry, declarations_in}
use Rattle.mau_signature.specs.Names.{Operator, operator_of, constant_of, if_constant, same_operator, operators_of, declarations_of, place_of}
use Rattle.mau_signature.specs.Attributes.{first_given, united, with_united}
use Rattle.mau_signature.specs.Faults.{Given, AreNumerals, IsFaultless, is_kind_of_numerals, is_identity_in}
use Rattle.mau_signature.specs.Signature.{SignatureOf, signature_of, arguments_of, result_of, attributes_of, constant_at, identity_in, theory_of, declarations_at, theory_at, terms_over}
use Rattle.mau_signature.specs.Laws.{HasNumeral, FaultlessAreLawful}
use Rattle.mau_signature.proofs.Same.{same_operator-is}
use Rattle.mau_signature.proofs.Grouped.{value_at}
use Rattle.mau_signature.proofs.Whole.{IsDeclared, all_declared, some_kept, signature_made}
use Rattle.mau_signature.proofs.Settled.{kind_of_numerals, IsSettled, AreSettled, successors_right, all_settled}

-- ---- lists

first_kept : {X : Type 0} (p : X → Bool) (xs : List X) (y : X) (ys : List X) → filter p xs ≡ y ∷ ys → p y ≡ true
first_kept p [] y ys e = cc
first_kept p (x ∷ xs) y ys e = by (p x) refl e (first_kept p xs y ys)
  where
    by : (b : Bool) → p x ≡ b → (if b then x ∷ filter p xs else filter p xs) ≡ y ∷ ys → (filter p xs ≡ y ∷ ys → p y ≡ true) → p y ≡ true
    by true k f ih = let same : x ≡ y = cc in subst (λ z. p z ≡ true) same k
    by false k f ih = ih f

found_within : {X : Type 0} (p : X → Bool) (xs : List X) → list_any p xs ≡ true → position_or_len p xs < length xs
found_within p [] e = cc
found_within p (x ∷ xs) e = by (p x) refl (found_within p xs)
  where
    by : (b : Bool) → p x ≡ b → (list_any p xs ≡ true → position_or_len p xs < length xs) → cond (not b) (1 + position_or_len p xs) 0 < suc (length xs)
    by true k ih = omega arith
    by false k ih = let lt : position_or_len p xs < length xs = ih (sym (ap (λ b. b || list_any p xs) k) ∙ e) in omega arith

found_all : (P : Operator → Type 0) (f : Operator) (fs : List Operator) → list_any (same_operator f) fs ≡ true → All P fs → P f
found_all P f [] e a = cc
found_all P f (g ∷ fs) e a = by (same_operator f g) refl (λ later. found_all P f fs later (All-tail P g fs a))
  where
    by : (b : Bool) → same_operator f g ≡ b → (list_any (same_operator f) fs ≡ true → P f) → P f
    by true k ih = subst P (sym (same_operator-is f g k)) (All-head P g fs a)
    by false k ih = ih (sym (ap (λ b. b || list_any (same_operator f) fs) k) ∙ e)

-- ---- what holds of the declarations of each operator

holds_at : {D : Operator → List Decl} (P : List Decl → Type 0) → P [] → ((f : Operator) → P (D f)) → (fs : List Operator) (i : ℕ) → P (get_or (map D fs) i [])
holds_at P none each [] i = none
holds_at P none each (f ∷ fs) zero = each f
holds_at P none each (f ∷ fs) (suc i) = holds_at P none each fs i

-- ---- one operator

-- the declarations of an operator give it the kinds that its axioms need
record IsLawfulAt (s : SignatureOf) (xs : List Decl) : Type 0 where
  pub succ_assoc : (theory_of s.hierarchy s.names xs).succ ≡ true → (theory_of s.hierarchy s.names xs).assoc ≡ false
  pub succ_comm : (theory_of s.hierarchy s.names xs).succ ≡ true → (theory_of s.hierarchy s.names xs).comm ≡ false
  pub succ_id : (theory_of s.hierarchy s.names xs).succ ≡ true → (theory_of s.hierarchy s.names xs).id ≡ None
  pub plain_unit : (c : OpId) → (theory_of s.hierarchy s.names xs).id ≡ Some (Constant c) → (theory_at s c.0).id ≡ None
  pub assoc_kinds : (theory_of s.hierarchy s.names xs).assoc ≡ true →
      map (kind_of s.hierarchy) (arguments_of xs) ≡ kind_of s.hierarchy (result_of xs) ∷ kind_of s.hierarchy (result_of xs) ∷ []
  pub comm_kinds : (theory_of s.hierarchy s.names xs).comm ≡ true → (k : ℕ) × (map (kind_of s.hierarchy) (arguments_of xs) ≡ k ∷ k ∷ [])
  pub unit_kinds : (i : Identity) → (theory_of s.hierarchy s.names xs).id ≡ Some i →
      (map (kind_of s.hierarchy) (arguments_of xs) ≡ kind_of s.hierarchy (result_of xs) ∷ kind_of s.hierarchy (result_of xs) ∷ [])
      × IsBareIn (terms_over s) (unit_tree i) (kind_of s.hierarchy (result_of xs))
  pub succ_kinds : (theory_of s.hierarchy s.names xs).succ ≡ true →
      (map (kind_of s.hierarchy) (arguments_of xs) ≡ kind_of s.hierarchy (result_of xs) ∷ [])
      × (kind_of_numerals s.hierarchy s.numerals ≡ Some (kind_of s.hierarchy (result_of xs)))

none_lawful : (s : SignatureOf) → IsLawfulAt s []
none_lawful s = record {
  succ_assoc = λ e. cc;
  succ_comm = λ e. cc;
  succ_id = λ e. cc;
  plain_unit = λ c e. cc;
  assoc_kinds = λ e. cc;
  comm_kinds = λ e. cc;
  unit_kinds = λ i e. cc;
  succ_kinds = λ e. cc;
}

each_lawful : (s : SignatureOf) → ((n : ℕ) → IsLawfulAt s (declarations_at s n)) → IsLawful (terms_over s)
each_lawful s each = record {
  theories = record {
    succ_assoc = λ n. (each n).succ_assoc;
    succ_comm = λ n. (each n).succ_comm;
    succ_id = λ n. (each n).succ_id;
    plain_unit = λ n. (each n).plain_unit;
  };
  assoc_kinds = λ n. (each n).assoc_kinds;
  comm_kinds = λ n. (each n).comm_kinds;
  unit_kinds = λ n. (each n).unit_kinds;
  succ_kinds = λ n. (each n).succ_kinds;
}

-- ---- all operators

is_not_true : (b : Bool) → (b ≡ true → ⊥) → b ≡ false
is_not_true true n = absurd (n refl)
is_not_true false n = refl

is_not_some : (x : Option IdSpec) → (is_some x ≡ true → ⊥) → x ≡ None
is_not_some None n = refl
is_not_some (Some i) n = absurd (n refl)

one_or_two : (ks : List ℕ) (j k l : ℕ) → ks ≡ j ∷ [] → ks ≡ k ∷ l ∷ [] → ⊥
one_or_two ks j k l e f = cc

none_or_two : (ks : List ℕ) (k l : ℕ) → ks ≡ [] → ks ≡ k ∷ l ∷ [] → ⊥
none_or_two ks k l e f = cc

attributes_united : (group : List Decl) → attributes_of (with_united group) ≡ united group
attributes_united [] = refl
attributes_united (d ∷ rest) = refl

kind_of_constant : (h : Hierarchy) (args : List ℕ) (r k : ℕ) → map (kind_of h) args ≡ [] → if_constant args r ≡ Some k → r ≡ k
kind_of_constant h [] r k e f = cc
kind_of_constant h (a ∷ args) r k e f = cc

place_within : (q n : ℕ) → q < n → (nat_lt 0 (q + 1) && nat_le (q + 1) n) ≡ true
place_within q n lt = grind (arith, nat_tests)

place_is : (q n : ℕ) (i : Identity) → q < n → option_map constant_at (cond (nat_lt q n) (Some q) None) ≡ Some i → i ≡ constant_at q
place_is q n i lt e = by (nat_lt q n) refl e
  where
    by : (b : Bool) → nat_lt q n ≡ b → option_map constant_at (cond b (Some q) None) ≡ Some i → i ≡ constant_at q
    by true k f = cc
    by false k f = absurd (grind (arith, nat_tests))

constants_are : (n : ℕ) (c : OpId) → Constant (record { 0 = n }) ≡ Constant c → n ≡ c.0
constants_are n c e = let same : record { 0 = n } ≡ c = cc in ap (λ x. x.0) same

kinds_are : (h : Hierarchy) (numerals : Option (ℕ × ℕ)) (k : ℕ) → is_kind_of_numerals h numerals k ≡ true → kind_of_numerals h numerals ≡ Some k
kinds_are h None k e = cc
kinds_are h (Some p) k e = ap Some (eqb-true (kind_of h p.0) k e)

no_numeral : {X : Type 0} (place : Option ℕ) (m : ℕ) → option_map constant_at place ≡ Some (Numeral m) → X
no_numeral None m e = cc
no_numeral (Some i) m e = cc

united_numeral : (group : List Decl) → All HasNumeral group → (m : ℕ) → (united group).id ≡ Some (Num m) → m ≤ greatest_numeral
united_numeral [] a m e = cc
united_numeral (d ∷ group) a m e = by d.attrs.id refl e (united_numeral group (All-tail HasNumeral d group a) m)
  where
    by : (id : Option IdSpec) → d.attrs.id ≡ id → first_given id (united group).id ≡ Some (Num m) → ((united group).id ≡ Some (Num m) → m ≤ greatest_numeral) → m ≤ greatest_numeral
    by (Some i) k f ih = All-head HasNumeral d group a m (k ∙ f)
    by None k f ih = ih f

module _ (g : Given) (faultless : IsFaultless g g.declarations) (numerals_right : AreNumerals g.hierarchy g.declarations g.numerals) where
  abbrev h : Hierarchy
  h = g.hierarchy

  abbrev ds : List Decl
  ds = g.declarations

  abbrev fs : List Operator
  fs = operators_of g.hierarchy g.declarations

  abbrev s : SignatureOf
  s = signature_of g.hierarchy g.declarations g.numerals

  settled : (f : Operator) → AreSettled h fs g.numerals f (declarations_of h ds f)
  settled f = all_settled g f ds faultless (successors_right h ds g.numerals numerals_right)

  own : (f : Operator) (d : Decl) (rest : List Decl) → declarations_of h ds f ≡ d ∷ rest → f ≡ operator_of h d
  own f d rest e = same_operator-is f (operator_of h d) (first_kept (λ x. same_operator f (operator_of h x)) ds d rest e)

  -- ---- constants

  constant_some : (f : Operator) → list_any (same_operator f) fs ≡ true → declarations_of h ds f ≢ []
  constant_some f a = some_kept (λ x. same_operator f (operator_of h x)) ds (found_all (IsDeclared h ds) f fs a (all_declared h ds))

  -- the declarations of a constant in the kind k have no arguments, and results in k
  constant_group : (form : List Piece) (k : ℕ) (group : List Decl) → declarations_of h ds (constant_of form k) ≡ group → group ≢ [] →
      (map (kind_of h) (arguments_of (with_united group)) ≡ []) × (kind_of h (result_of (with_united group)) ≡ k)
  constant_group form k [] e n = absurd (n refl)
  constant_group form k (d ∷ rest) e n =
      let f_is : operator_of h d ≡ constant_of form k = sym (own (constant_of form k) d rest e) in
      let none : map (kind_of h) d.args ≡ [] = ap (λ x. x.arguments) f_is in
      (none, kind_of_constant h d.args (kind_of h d.result) k none (ap (λ x. x.constant) f_is))

  constant_plain : (form : List Piece) (k : ℕ) → identity_in fs (kind_of h (result_of (with_united (declarations_of h ds (constant_of form k))))) (attributes_of (with_united (declarations_of h ds (constant_of form k)))).id ≡ None
  constant_plain form k =
      let c : Operator = constant_of form k in
      let none : (united (declarations_of h ds c)).id ≡ None = is_not_some (united (declarations_of h ds c)).id (λ e. none_or_two c.arguments _ _ refl ((settled c).id e)) in
      ap (identity_in fs (kind_of h (result_of (with_united (declarations_of h ds c))))) (ap (λ a. a.id) (attributes_united (declarations_of h ds c)) ∙ none)

  at_place : (f : Operator) → list_any (same_operator f) fs ≡ true → declarations_at s (position_or_len (same_operator f) fs + 1) ≡ with_united (declarations_of h ds f)
  at_place f a =
      let back : position_or_len (same_operator f) fs + 1 - 1 ≡ position_or_len (same_operator f) fs = omega arith in
      ap (λ i. get_or s.declarations i []) back ∙ value_at (λ x. with_united (declarations_of h ds x)) f fs [] a

  -- ---- identities

  -- the identity i in the kind k is a bare term of that kind, and has no identity itself
  record IsIdentity (k : ℕ) (i : Identity) : Type 0 where
    pub bare : IsBareIn (terms_over s) (unit_tree i) k
    pub plain : (c : OpId) → i ≡ Constant c → (theory_at s c.0).id ≡ None

  constant_is_identity : (form : List Piece) (k : ℕ) → list_any (same_operator (constant_of form k)) fs ≡ true → IsIdentity k (constant_at (position_or_len (same_operator (constant_of form k)) fs))
  constant_is_identity form k a =
      let f : Operator = constant_of form k in
      let q : ℕ = position_or_len (same_operator f) fs in
      let group = constant_group form k (declarations_of h ds f) refl (constant_some f a) in
      let here : declarations_at s (q + 1) ≡ with_united (declarations_of h ds f) = at_place f a in
      let many : length s.declarations ≡ length fs = length-map fs (λ x. with_united (declarations_of h ds x)) in
      let within : (nat_lt 0 (q + 1) && nat_le (q + 1) (length s.declarations)) ≡ true = ap (λ n. nat_lt 0 (q + 1) && nat_le (q + 1) n) many ∙ place_within q (length fs) (found_within (same_operator f) fs a) in
      let result_is : kind_of h (result_of (declarations_at s (q + 1))) ≡ k = ap (λ xs. kind_of h (result_of xs)) here ∙ group.1 in
      let none : map (kind_of h) (arguments_of (declarations_at s (q + 1))) ≡ [] = ap (λ xs. map (kind_of h) (arguments_of xs)) here ∙ group.0 in
      record {
        bare = (within, result_is, subst (AreBareIn (terms_over s) no_trees) (sym none) tt);
        plain = λ c e.
            let n : q + 1 ≡ c.0 = constants_are (q + 1) c e in
            ap (λ m. (theory_at s m).id) (sym n) ∙ ap (λ xs. (theory_of h fs xs).id) here ∙ constant_plain form k;
      }

  numeral_is_identity : (k n : ℕ) → is_kind_of_numerals h g.numerals k ≡ true → n ≤ greatest_numeral → IsIdentity k (Numeral n)
  numeral_is_identity k n a small = record {
    bare = (small, kinds_are h g.numerals k a);
    plain = λ c e. cc;
  }

  is_identity : (k : ℕ) (id : Option IdSpec) (i : Identity) → is_identity_in h fs g.numerals k id ≡ true → identity_in fs k id ≡ Some i →
      ((n : ℕ) → identity_in fs k id ≡ Some (Numeral n) → n ≤ greatest_numeral) → (is_some id ≡ true) × IsIdentity k i
  is_identity k None i a e small = cc
  is_identity k (Some (Num n)) i a e small =
      let same : Numeral n ≡ i = cc in
      (refl, subst (IsIdentity k) same (numeral_is_identity k n a (small n refl)))
  is_identity k (Some (Const form)) i a e small =
      let f : Operator = constant_of form k in
      let same : i ≡ constant_at (position_or_len (same_operator f) fs) = place_is (position_or_len (same_operator f) fs) (length fs) i (found_within (same_operator f) fs a) e in
      (refl, subst (IsIdentity k) (sym same) (constant_is_identity form k a))

  -- ---- each operator

  lawful_group : (f : Operator) (group : List Decl) → declarations_of h ds f ≡ group → ((n : ℕ) → (theory_of h fs (with_united group)).id ≡ Some (Numeral n) → n ≤ greatest_numeral) → IsLawfulAt s (with_united group)
  lawful_group f [] e small = none_lawful s
  lawful_group f (d ∷ rest) e small =
      let a : Attrs = united (d ∷ rest) in
      let k : ℕ = kind_of h d.result in
      let it : IsSettled h fs g.numerals f a k = subst (AreSettled h fs g.numerals f) e (settled f) in
      let arguments_are : map (kind_of h) d.args ≡ f.arguments = ap (λ x. x.arguments) (sym (own f d rest e)) in
      record {
        succ_assoc = λ one. is_not_true a.assoc (λ two. one_or_two f.arguments k k k (it.succ one).0 (it.assoc two));
        succ_comm = λ one. is_not_true a.comm (λ two. let pair = it.comm two in one_or_two f.arguments k pair.0 pair.0 (it.succ one).0 pair.1);
        succ_id = λ one. ap (identity_in fs k) (is_not_some a.id (λ two. one_or_two f.arguments k k k (it.succ one).0 (it.id two)));
        plain_unit = λ c e. (is_identity k a.id (Constant c) it.identity e small).1.plain c refl;
        assoc_kinds = λ two. arguments_are ∙ it.assoc two;
        comm_kinds = λ two. let pair = it.comm two in (pair.0, arguments_are ∙ pair.1);
        unit_kinds = λ i e. let identity = is_identity k a.id i it.identity e small in (arguments_are ∙ it.id identity.0, identity.1.bare);
        succ_kinds = λ one. (arguments_are ∙ (it.succ one).0, (it.succ one).1);
      }

  pub lawful : ((n m : ℕ) → (theory_at s n).id ≡ Some (Numeral m) → m ≤ greatest_numeral) → IsLawful (terms_over s)
  lawful small = each_lawful s (λ n.
      holds_at {D = λ f. with_united (declarations_of h ds f)} (λ xs. ((m : ℕ) → (theory_of h fs xs).id ≡ Some (Numeral m) → m ≤ greatest_numeral) → IsLawfulAt s xs)
      (λ few. none_lawful s) (λ f. lawful_group f (declarations_of h ds f) refl) fs (n - 1) (small n))

  -- ---- numerals that have at most 128 bits

  numeral_given : (k : ℕ) (id : Option IdSpec) (m : ℕ) → identity_in fs k id ≡ Some (Numeral m) → id ≡ Some (Num m)
  numeral_given k None m e = cc
  numeral_given k (Some (Num n)) m e = let same : n ≡ m = cc in ap (λ j. Some (Num j)) same
  numeral_given k (Some (Const form)) m e = no_numeral (place_of fs (constant_of form k)) m e

  few_in_group : (f : Operator) → All HasNumeral ds → (m : ℕ) → (theory_of h fs (with_united (declarations_of h ds f))).id ≡ Some (Numeral m) → m ≤ greatest_numeral
  few_in_group f a m e =
      let group : List Decl = declarations_of h ds f in
      united_numeral group (All-filter (λ x. same_operator f (operator_of h x)) HasNumeral ds a) m
      (ap (λ (x : Attrs). x.id) (sym (attributes_united group))
      ∙ numeral_given (kind_of h (result_of (with_united group))) (attributes_of (with_united group)).id m e)

  numerals_small : All HasNumeral ds → (n m : ℕ) → (theory_at s n).id ≡ Some (Numeral m) → m ≤ greatest_numeral
  numerals_small a n =
      holds_at {D = λ f. with_united (declarations_of h ds f)} (λ xs. (m : ℕ) → (theory_of h fs xs).id ≡ Some (Numeral m) → m ≤ greatest_numeral)
      (λ m e. cc) (λ f. few_in_group f a) fs (n - 1)

-- ---- the entries of a signature

in_entries : (h : Hierarchy) (fs : List Operator) (entries : List Entry) → All (IsEntry h fs) entries → (i m : ℕ) → (theory_of h fs (get_or (map declarations_in entries) i [])).id ≡ Some (Numeral m) → m ≤ greatest_numeral
in_entries h fs [] a i m e = cc
in_entries h fs (x ∷ entries) a zero m e = let it = All-head (IsEntry h fs) x entries a in it.numeral m (ap (λ (t : Theory). t.id) it.theory ∙ e)
in_entries h fs (x ∷ entries) a (suc i) m e = in_entries h fs entries (All-tail (IsEntry h fs) x entries a) i m e

pub entries_are_lawful : (g : Given) (entries : List Entry) (names : List Operator) → IsFaultless g g.declarations → AreNumerals g.hierarchy g.declarations g.numerals → All (IsEntry g.hierarchy names) entries →
    names ≡ operators_of g.hierarchy g.declarations → map declarations_in entries ≡ (signature_of g.hierarchy g.declarations g.numerals).declarations →
    IsLawful (terms_over (record { hierarchy = g.hierarchy; names = names; declarations = map declarations_in entries; numerals = g.numerals }))
entries_are_lawful g entries names faultless numerals_right a names_are declarations_are =
    let same = signature_made g.hierarchy g.declarations g.numerals names (map declarations_in entries) names_are declarations_are in
    subst (λ s. IsLawful (terms_over s)) (sym same)
    (lawful g faultless numerals_right
    (subst (λ s. (n m : ℕ) → (theory_at s n).id ≡ Some (Numeral m) → m ≤ greatest_numeral) same
    (λ n. in_entries g.hierarchy names entries a (n - 1))))

-- ---- the law

pub faultless_are_lawful : FaultlessAreLawful
faultless_are_lawful g numerals_right small faultless = lawful g faultless numerals_right (numerals_small g faultless numerals_right small)
