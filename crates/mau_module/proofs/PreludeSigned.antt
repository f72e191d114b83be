-- The signatures of the modules of the prelude: no declaration is at fault, and they are accepted, by computation.
use Rattle.std.proofs.Common.{◌≡◌, ◌<◌, ℕ, ◌+◌, List, [], ◌∷◌, ◌++◌, Bool, true, false, not, ◌&&◌, ◌||◌, map, get_or, Option, Some, None, refl, sym, ◌∙◌, ap, subst, inl, inr, arith}
use Rattle.std.specs.Prelude.{All, Ok, is_none, nat_eq, nat_lt}
use Rattle.std.proofs.lemmas.Bool.{true≢false, not-true, eqb-true, ltb-true, and_parts, or_cases}
use Rattle.mau_poset.specs.Order.{Hierarchy, IsWithin, kind_of, kinds, kinds_before, first_sort}
use Rattle.mau_terms.specs.Finite.{IsIn}
use Rattle.mau_signature.specs.declared.decl.Decl.{Decl}
use Rattle.mau_signature.specs.Faults.{given, HasSorts, IsSort, is_successor, IsSuccessorIn, AreNumerals, IsFaultless, no_declaration}
use Rattle.mau_signature.specs.Laws.{HasNumeral}
use Rattle.mau_signature.specs.Signature.{signature_of}
use Rattle.mau_signature.proofs.Lawful.{faultless_are_lawful}
use Rattle.mau_prelude.specs.Booleans.{constants, connectives}
use Rattle.mau_prelude.specs.Numbers.{number_pairs, sums, products, choices, comparisons}
use Rattle.mau_signing.specs.Signed.{SignatureRead, signature_read, signature_over}
use Rattle.mau_module.specs.Truth.{truth_over}
use Rattle.mau_module.proofs.Deciding.{every, every_in, IsOrderTest, by_table, table_order, is_rising, no_cycle, are_fine, faultless, is_right, accepted, within_limit}
use Rattle.mau_module.proofs.Members.{get_in}

-- ---- lists

pub in_all : {A : Type 0} (P : A → Type 0) (xs : List A) → ((x : A) → IsIn x xs → P x) → All P xs
in_all P xs f k d l = f (get_or xs k d) (get_in xs k d l)

-- ---- tests of declarations

abbrev has_sorts : Hierarchy → Decl → Bool
has_sorts h d = every (λ a. nat_lt a (h.sorts + kinds h)) d.args && nat_lt d.result (h.sorts + kinds h)

pub have_sorts : (h : Hierarchy) (ds : List Decl) → every (has_sorts h) ds ≡ true → All (HasSorts h) ds
have_sorts h ds e = in_all (HasSorts h) ds (λ d i.
    let p = and_parts (every (λ a. nat_lt a (h.sorts + kinds h)) d.args) (nat_lt d.result (h.sorts + kinds h)) (every_in (has_sorts h) ds e d i) in
    record {
      arguments = in_all (IsSort h) d.args (λ a j. ltb-true a (h.sorts + kinds h) (every_in (λ x. nat_lt x (h.sorts + kinds h)) d.args p.0 a j));
      result = ltb-true d.result (h.sorts + kinds h) p.1;
    })

abbrev is_one : Hierarchy → ℕ → List ℕ → Bool
is_one h k [] = false
is_one h k (a ∷ []) = nat_eq (kind_of h a) k
is_one h k (a ∷ b ∷ xs) = false

one_is : (h : Hierarchy) (k : ℕ) (xs : List ℕ) → is_one h k xs ≡ true → map (kind_of h) xs ≡ k ∷ []
one_is h k [] e = absurd (true≢false (sym e))
one_is h k (a ∷ []) e = ap (λ x. x ∷ []) (eqb-true (kind_of h a) k e)
one_is h k (a ∷ b ∷ xs) e = absurd (true≢false (sym e))

abbrev suits : Hierarchy → ℕ → Decl → Bool
suits h k d = not (is_successor d.attrs) || (is_one h k d.args && nat_eq (kind_of h d.result) k)

pub suit : (h : Hierarchy) (k : ℕ) (ds : List Decl) → every (suits h k) ds ≡ true → All (IsSuccessorIn h k) ds
suit h k ds e = in_all (IsSuccessorIn h k) ds (λ d i s.
    elim (or_cases (not (is_successor d.attrs)) (is_one h k d.args && nat_eq (kind_of h d.result) k) (every_in (suits h k) ds e d i)) [
      | inl x ↦ absurd (true≢false (sym s ∙ not-true (is_successor d.attrs) x))
      | inr x ↦ (let p = and_parts (is_one h k d.args) (nat_eq (kind_of h d.result) k) x in (one_is h k d.args p.0, eqb-true (kind_of h d.result) k p.1))
    ])

none_of_them : (ds : List Decl) → every (λ (d : Decl). not (is_successor d.attrs)) ds ≡ true → All (λ (d : Decl). is_successor d.attrs ≡ false) ds
none_of_them ds e = in_all (λ (d : Decl). is_successor d.attrs ≡ false) ds (λ d i. not-true (is_successor d.attrs) (every_in (λ (x : Decl). not (is_successor x.attrs)) ds e d i))

no_numerals : (ds : List Decl) → every (λ (d : Decl). is_none d.attrs.id) ds ≡ true → All HasNumeral ds
no_numerals ds e = in_all HasNumeral ds (λ d i n s.
    let x = every_in (λ (y : Decl). is_none y.attrs.id) ds e d i in
    let z = sym (ap is_none s) ∙ x in absurd (true≢false (sym z)))

-- ---- what is read of declarations without identities, over sorts whose pairs lead to later ones

module _ (h : Hierarchy) (table : List ℕ) (ds : List Decl) (numerals : Option (ℕ × ℕ)) (within : IsWithin h.pairs h.sorts) (rises : is_rising h.pairs ≡ true)
    (order : IsOrderTest h (by_table h table)) (fine : are_fine h [] ds ≡ true) (plain : every (λ (d : Decl). is_none d.attrs.id) ds ≡ true)
    (right : every (is_right h (by_table h table)) (signature_of h ds numerals).declarations ≡ true) (are : AreNumerals h ds numerals) where
  without_fault : IsFaultless (given h ds numerals) ds
  without_fault = faultless (given h ds numerals) [] ds no_declaration fine

  pub read : (names : List (List ℕ)) → SignatureRead names (given h ds numerals) None (Ok (signature_over (given h ds numerals)))
  read names =
      signature_read (record { within = within; acyclic = no_cycle h.pairs rises }) without_fault refl
      (accepted (signature_of h ds numerals) (by_table h table) order right (faultless_are_lawful (given h ds numerals) are (no_numerals ds plain) without_fault))
      (within_limit (signature_of h ds numerals) (by_table h table) order right)

-- ---- the modules

abbrev pub of_bools : Hierarchy
of_bools = record { sorts = 1; pairs = [] }

abbrev pub of_numbers : Hierarchy
of_numbers = record { sorts = 4; pairs = number_pairs }

abbrev pub declared_in_truth : List Decl
declared_in_truth = constants ++ truth_over 0 1

abbrev pub declared_in_bool : List Decl
declared_in_bool = constants ++ (connectives ++ truth_over 0 1)

abbrev pub declared_in_nat : List Decl
declared_in_nat = constants ++ (connectives ++ (sums ++ (products ++ (choices ++ (comparisons ++ (truth_over 0 4 ++ truth_over 0 5))))))

order_of_bools : IsOrderTest of_bools (by_table of_bools (1 ∷ []))
unfolding kind_of kinds_before first_sort
order_of_bools = table_order of_bools (1 ∷ []) refl refl

order_of_numbers : IsOrderTest of_numbers (by_table of_numbers (4 ∷ 5 ∷ 5 ∷ 5 ∷ []))
unfolding kind_of kinds_before first_sort
order_of_numbers = table_order of_numbers (4 ∷ 5 ∷ 5 ∷ 5 ∷ []) refl refl

pub within_numbers : IsWithin of_numbers.pairs of_numbers.sorts
within_numbers = in_all (λ (p : ℕ × ℕ). (p.0 < 4) × (p.1 < 4)) number_pairs by
  where
    by : (p : ℕ × ℕ) → IsIn p number_pairs → (p.0 < 4) × (p.1 < 4)
    by p (inl e) = subst (λ (q : ℕ × ℕ). (q.0 < 4) × (q.1 < 4)) (sym e) (omega arith, omega arith)
    by p (inr (inl e)) = subst (λ (q : ℕ × ℕ). (q.0 < 4) × (q.1 < 4)) (sym e) (omega arith, omega arith)
    by p (inr (inr e)) = absurd e

fine_in_nat : are_fine of_numbers [] declared_in_nat ≡ true
unfolding kind_of kinds_before first_sort
fine_in_nat = refl

right_in_nat : every (is_right of_numbers (by_table of_numbers (4 ∷ 5 ∷ 5 ∷ 5 ∷ []))) (signature_of of_numbers declared_in_nat (Some (1, 2))).declarations ≡ true
unfolding kind_of kinds_before first_sort
right_in_nat = refl

pub numerals_in_nat : AreNumerals of_numbers declared_in_nat (Some (1, 2))
unfolding kind_of kinds_before first_sort
numerals_in_nat = (omega arith, omega arith, refl, refl, suit of_numbers 5 declared_in_nat refl)

pub nat_read : (names : List (List ℕ)) → SignatureRead names (given of_numbers declared_in_nat (Some (1, 2))) None (Ok (signature_over (given of_numbers declared_in_nat (Some (1, 2)))))
nat_read names =
    read of_numbers (4 ∷ 5 ∷ 5 ∷ 5 ∷ []) declared_in_nat (Some (1, 2)) within_numbers refl order_of_numbers fine_in_nat refl right_in_nat numerals_in_nat names

within_bools : IsWithin of_bools.pairs of_bools.sorts
within_bools = in_all (λ (p : ℕ × ℕ). (p.0 < 1) × (p.1 < 1)) [] (λ p i. absurd i)

pub no_numerals_in_constants : AreNumerals of_bools constants None
no_numerals_in_constants = none_of_them constants refl

pub no_numerals_in_truth : AreNumerals of_bools declared_in_truth None
no_numerals_in_truth = none_of_them declared_in_truth refl

pub no_numerals_in_bool : AreNumerals of_bools declared_in_bool None
no_numerals_in_bool = none_of_them declared_in_bool refl

pub constants_read : (names : List (List ℕ)) → SignatureRead names (given of_bools constants None) None (Ok (signature_over (given of_bools constants None)))
unfolding kind_of kinds_before first_sort
constants_read names = read of_bools (1 ∷ []) constants None within_bools refl order_of_bools refl refl refl no_numerals_in_constants names

pub truth_read : (names : List (List ℕ)) → SignatureRead names (given of_bools declared_in_truth None) None (Ok (signature_over (given of_bools declared_in_truth None)))
unfolding kind_of kinds_before first_sort
truth_read names = read of_bools (1 ∷ []) declared_in_truth None within_bools refl order_of_bools refl refl refl no_numerals_in_truth names

pub bool_read : (names : List (List ℕ)) → SignatureRead names (given of_bools declared_in_bool None) None (Ok (signature_over (given of_bools declared_in_bool None)))
unfolding kind_of kinds_before first_sort
bool_read names = read of_bools (1 ∷ []) declared_in_bool None within_bools refl order_of_bools refl refl refl no_numerals_in_bool names
