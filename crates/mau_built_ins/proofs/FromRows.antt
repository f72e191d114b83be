-- What has something built in is declared by a row of the prelude, and so as its values ask.
use Rattle.std.proofs.Common.{◌≡◌, ℕ, suc, List, [], ◌∷◌, map, Bool, true, false, ◌&&◌, ◌||◌, not, Option, Some, None, inl, inr, ◌⊎◌, refl, sym, ap, ◌∙◌, subst}
use Rattle.std.specs.Prelude.{All, bytes_eq, codes, position}
use Rattle.std.specs.List.{list_all}
use Rattle.std.proofs.lemmas.Bool.{and_parts}
use Rattle.std.proofs.lemmas.Slice.Eq.{bytes_eq-Decides}
use Rattle.std.proofs.lemmas.List.Elements.{All-head, All-tail}
use Rattle.mau_poset.specs.Order.{kind_of}
use Rattle.mau_terms.specs.Tree.{apply, no_trees}
use Rattle.mau_terms.specs.Bare.{IsBareIn}
use Rattle.mau_terms.specs.Finite.{IsIn}
use Rattle.mau_signature.specs.declared.decl.Decl.{Decl}
use Rattle.mau_signature.specs.declared.form.Piece.TheVariants.{Word}
use Rattle.mau_signature.specs.Names.{constant_of, place_of}
use Rattle.mau_signature.specs.Signature.{SignatureOf, IsOperator, IsAlike, declarations_at, terms_over}
use Rattle.mau_sigcheck.specs.Built.{IsBuiltAndAccepted}
use Rattle.mau_formula.specs.Native.{name_of, gives_of}
use Rattle.mau_formula.specs.declared.native.Native.{Native}
use Rattle.mau_formula.specs.declared.native.Native.TheVariants.{Sum, Product, Difference, Quotient, Remainder, Power, GreatestCommonDivisor, Minimum, Maximum, Less, LessOrEqual, Greater, GreaterOrEqual}
use Rattle.mau_formula.specs.declared.formula.Gives.{Gives}
use Rattle.mau_formula.specs.declared.formula.Gives.TheVariants.{Nat as Numbers, Bool as Truths}
use Rattle.mau_program.specs.declared.program.Program.{Program}
use Rattle.mau_program.specs.BuiltIns.{Place, sort, kind, Shape, Row, truth_rows, number_rows, IsNamed, IsAt, AreAt, HasShape, IsDeclaredBy, IsConstantIn, HasTruth, HasNumbers, HasBuiltIn, of_truth_values, of_numbers, AreBuiltIn}
use Rattle.mau_program.specs.LawfulPrograms.{IsLawfulProgram}
use Rattle.mau_api.specs.BuiltIns.{constant_in, result_kind}
use Rattle.mau_built_ins.specs.Declared.{HasTruthIn, HasAnswersIn, IsDeclaredAsBuilt, AreDeclaredAsBuilt}

-- ---- the rows of the prelude, by name

-- one of the rows, if it has the name
abbrev OfName : List ℕ → (Row → Bool) → Row → Bool
OfName w test r = not (bytes_eq r.name w) || test r

row_passes : (w : List ℕ) (test : Row → Bool) (rows : List Row) → list_all (OfName w test) rows ≡ true → (r : Row) → IsIn r rows → r.name ≡ w → test r ≡ true
row_passes w test [] all r i e = absurd i
row_passes w test (x ∷ rows) all r (inl d) e = by (bytes_eq r.name w) ((bytes_eq-Decides r.name w).1 e) here
  where
    here : OfName w test r ≡ true
    here = ap (OfName w test) d ∙ (and_parts (OfName w test x) (list_all (OfName w test) rows) all).0

    by : (b : Bool) → b ≡ true → (not b || test r) ≡ true → test r ≡ true
    by true q h = h
    by false q h = cc
row_passes w test (x ∷ rows) all r (inr i) e = row_passes w test rows (and_parts (OfName w test x) (list_all (OfName w test) rows) all).1 r i e

abbrev is_kind_place : Place → Bool
is_kind_place (sort w) = false
is_kind_place kind = true

abbrev is_sort_place : List ℕ → Place → Bool
is_sort_place v (sort w) = bytes_eq w v
is_sort_place v kind = false

-- what a native operator's answers stand for
abbrev is_answer_place : Gives → Place → Bool
is_answer_place Numbers x = is_sort_place (codes "Nat") x || is_sort_place (codes "NzNat") x
is_answer_place Truths x = is_sort_place (codes "Bool") x

-- the first shape has three arguments, of which the last two and the result are in the kind of the row
abbrev ends_in_kinds : List Place → Bool
ends_in_kinds (x ∷ y ∷ z ∷ []) = is_kind_place y && is_kind_place z
ends_in_kinds xs = false

abbrev is_choice_shape : Shape → Bool
is_choice_shape x = ends_in_kinds x.args && is_kind_place x.result

abbrev has_first : (Shape → Bool) → List Shape → Bool
has_first test [] = false
has_first test (x ∷ xs) = test x

abbrev has_choice : Row → Bool
has_choice r = has_first is_choice_shape r.shapes

abbrev has_result : (Place → Bool) → Row → Bool
has_result test r = has_first (λ x. test x.result) r.shapes

abbrev never : Row → Bool
never r = false

-- ---- an operator that is declared by a row

module _ (s : SignatureOf) (accepted : IsBuiltAndAccepted s) (names : List (List ℕ)) (f : ℕ) (is : IsOperator s f) where
  alike_in : (ds : List Decl) (d : Decl) → All (IsAlike s.hierarchy (declarations_at s f)) ds → IsIn d ds → IsAlike s.hierarchy (declarations_at s f) d
  alike_in [] d all i = absurd i
  alike_in (x ∷ ds) d all (inl e) = subst (IsAlike s.hierarchy (declarations_at s f)) (sym e) (All-head (IsAlike s.hierarchy (declarations_at s f)) x ds all)
  alike_in (x ∷ ds) d all (inr i) = alike_in ds d (All-tail (IsAlike s.hierarchy (declarations_at s f)) x ds all) i

  alike : (d : Decl) → IsIn d (declarations_at s f) → IsAlike s.hierarchy (declarations_at s f) d
  alike d i = alike_in (declarations_at s f) d (accepted.declared f is).alike i

  -- the first shape of a row
  first_shape : (k : ℕ) (test : Shape → Bool) (xs : List Shape) → has_first test xs ≡ true → All (HasShape names k (declarations_at s f)) xs → (x : Shape) × (test x ≡ true) × HasShape names k (declarations_at s f) x
  first_shape k test [] e all = cc
  first_shape k test (x ∷ xs) e all = (x, e, All-head (HasShape names k (declarations_at s f)) x xs all)

  result_is : (d : Decl) → IsIn d (declarations_at s f) → kind_of s.hierarchy d.result ≡ result_kind s f
  result_is d i = (alike d i).result

  arguments_are : (d : Decl) → IsIn d (declarations_at s f) → (terms_over s).arguments f ≡ map (kind_of s.hierarchy) d.args
  arguments_are d i = sym (alike d i).arguments

  -- the last two of three arguments are in the kind of the row
  last_two : (k : ℕ) → kind_of s.hierarchy k ≡ k → (ps : List Place) (as_ : List ℕ) → ends_in_kinds ps ≡ true → AreAt names k ps as_ → (j : ℕ) × (map (kind_of s.hierarchy) as_ ≡ j ∷ k ∷ k ∷ [])
  last_two k own [] as_ e at = cc
  last_two k own (x ∷ []) as_ e at = cc
  last_two k own (x ∷ y ∷ []) as_ e at = cc
  last_two k own (x ∷ y ∷ z ∷ w ∷ ps) as_ e at = cc
  last_two k own (x ∷ sort v ∷ z ∷ []) as_ e at = cc
  last_two k own (x ∷ kind ∷ sort v ∷ []) as_ e at = cc
  last_two k own (x ∷ kind ∷ kind ∷ []) [] e at = absurd at
  last_two k own (x ∷ kind ∷ kind ∷ []) (a ∷ []) e at = absurd at.1
  last_two k own (x ∷ kind ∷ kind ∷ []) (a ∷ b ∷ []) e at = absurd at.1.1
  last_two k own (x ∷ kind ∷ kind ∷ []) (a ∷ b ∷ c ∷ d ∷ as_) e at = absurd at.1.1.1
  last_two k own (x ∷ kind ∷ kind ∷ []) (a ∷ b ∷ c ∷ []) e at =
      let of_b : kind_of s.hierarchy b ≡ k = ap (kind_of s.hierarchy) at.1.0 ∙ own in
      let of_c : kind_of s.hierarchy c ≡ k = ap (kind_of s.hierarchy) at.1.1.0 ∙ own in
      (kind_of s.hierarchy a, ap (λ y. kind_of s.hierarchy a ∷ y ∷ kind_of s.hierarchy c ∷ []) of_b ∙ ap (λ z. kind_of s.hierarchy a ∷ k ∷ z ∷ []) of_c)

  kind_result : (k : ℕ) (x : Place) (a : ℕ) → is_kind_place x ≡ true → IsAt names k x a → a ≡ k
  kind_result k (sort w) a e at = cc
  kind_result k kind a e at = at

  choice : (r : Row) → IsDeclaredBy names s f r → has_choice r ≡ true → (j : ℕ) × ((terms_over s).arguments f ≡ j ∷ result_kind s f ∷ result_kind s f ∷ [])
  choice r d e =
      let x = first_shape d.for_kind is_choice_shape r.shapes e d.shapes in
      let parts = and_parts (ends_in_kinds (x.0).args) (is_kind_place (x.0).result) x.1 in
      let h = x.2 in
      let args = last_two d.for_kind d.is_kind (x.0).args h.declaration.args parts.0 h.args in
      let whole : d.for_kind ≡ result_kind s f = sym d.is_kind ∙ ap (kind_of s.hierarchy) (sym (kind_result d.for_kind (x.0).result h.declaration.result parts.1 h.result)) ∙ result_is h.declaration h.declared in
      (args.0, arguments_are h.declaration h.declared ∙ args.1 ∙ ap (λ z. args.0 ∷ z ∷ z ∷ []) whole)

  -- the sort of the result, by its name
  named_result : (k : ℕ) (v : List ℕ) (x : Place) (a b : ℕ) → is_sort_place v x ≡ true → IsAt names k x a → IsNamed names v b → a ≡ b
  named_result k v kind a b e at n = cc
  named_result k v (sort w) a b e at n =
      let same : w ≡ v = (bytes_eq-Decides w v).0 e in
      let there : position (bytes_eq v) names ≡ Some a = subst (λ z. position (bytes_eq z) names ≡ Some a) same at in
      some_is a b (sym there ∙ n)
    where
      some_is : (m n : ℕ) → Some m ≡ Some n → m ≡ n
      some_is m n q = cc

  truth_in : (k : ℕ) → (w : List ℕ) → IsConstantIn s w k → IsBareIn (terms_over s) (constant_in s k w) k
  truth_in k w c = by (place_of s.names (constant_of (Word w ∷ []) k)) c.found
    where
      by : (o : Option ℕ) → o ≡ Some c.place → IsBareIn (terms_over s) (elim o [ Some i ↦ apply (suc i) no_trees | None ↦ apply 0 no_trees ]) k
      by None e = cc
      by (Some i) e = let q : c.place ≡ i = cc in subst (λ z. IsBareIn (terms_over s) (apply (suc z) no_trees) k) q c.bare

  truths : (r : Row) → IsDeclaredBy names s f r → HasTruth names s → has_result (is_sort_place (codes "Bool")) r ≡ true → HasTruthIn s (result_kind s f)
  truths r d t e =
      let x = first_shape d.for_kind (λ y. is_sort_place (codes "Bool") y.result) r.shapes e d.shapes in
      let h = x.2 in
      let whole : kind_of s.hierarchy t.bool ≡ result_kind s f =
      ap (kind_of s.hierarchy) (sym (named_result d.for_kind (codes "Bool") (x.0).result h.declaration.result t.bool x.1 h.result t.named)) ∙ result_is h.declaration h.declared in
      subst (HasTruthIn s) whole (truth_in (kind_of s.hierarchy t.bool) (codes "true") t.yes, truth_in (kind_of s.hierarchy t.bool) (codes "false") t.no)

  numbers : (r : Row) → IsDeclaredBy names s f r → HasNumbers names s → has_result (is_answer_place Numbers) r ≡ true → (terms_over s).numerals ≡ Some (result_kind s f)
  numbers r d t e =
      let x = first_shape d.for_kind (λ y. is_answer_place Numbers y.result) r.shapes e d.shapes in
      let h = x.2 in
      t.numerals ∙ ap Some (kind_nat h.declaration.result (x.0).result h.result (is_sort_place (codes "Nat") (x.0).result) (is_sort_place (codes "NzNat") (x.0).result) refl refl x.1 ∙ result_is h.declaration h.declared)
    where
      kind_nat : (a : ℕ) (x : Place) → IsAt names d.for_kind x a → (b c : Bool) → is_sort_place (codes "Nat") x ≡ b → is_sort_place (codes "NzNat") x ≡ c → (b || c) ≡ true → kind_of s.hierarchy t.nat ≡ kind_of s.hierarchy a
      kind_nat a x at true c p q o = ap (kind_of s.hierarchy) (sym (named_result d.for_kind (codes "Nat") x a t.nat p at t.named))
      kind_nat a x at false true p q o = sym t.one_kind ∙ ap (kind_of s.hierarchy) (sym (named_result d.for_kind (codes "NzNat") x a t.nz_nat q at t.nz_named))
      kind_nat a x at false false p q o = cc

  -- what is built in under a name is declared by a row of that name
  pub record IsOfRow (name : List ℕ) : Type 0 where
    row : Row
    named : row.name ≡ name
    declared : IsDeclaredBy names s f row
    truth : HasTruth names s
    place : IsIn row truth_rows ⊎ (IsIn row number_rows × HasNumbers names s)

  of_row : (name : List ℕ) → HasBuiltIn names s f name → IsOfRow name
  of_row _ (of_truth_values r i d t) = record { row = r; named = refl; declared = d; truth = t; place = inl i }
  of_row _ (of_numbers r i d t n) = record { row = r; named = refl; declared = d; truth = t; place = inr (i, n) }

  -- what all rows of a name pass
  by_name : (name : List ℕ) (test : Row → Bool) → list_all (OfName name test) truth_rows ≡ true → list_all (OfName name test) number_rows ≡ true → (o : IsOfRow name) → test o.row ≡ true
  by_name name test e d o = by o.place
    where
      by : IsIn o.row truth_rows ⊎ (IsIn o.row number_rows × HasNumbers names s) → test o.row ≡ true
      by (inl i) = row_passes name test truth_rows e o.row i o.named
      by (inr i) = row_passes name test number_rows d o.row i.0 o.named

  -- a native operator's name is that of no operator on truth values
  no_truth : (n : Native) → list_all (OfName (name_of n) never) truth_rows ≡ true
  no_truth Sum = refl
  no_truth Product = refl
  no_truth Difference = refl
  no_truth Quotient = refl
  no_truth Remainder = refl
  no_truth Power = refl
  no_truth GreatestCommonDivisor = refl
  no_truth Minimum = refl
  no_truth Maximum = refl
  no_truth Less = refl
  no_truth LessOrEqual = refl
  no_truth Greater = refl
  no_truth GreaterOrEqual = refl

  answer_rows : (n : Native) → list_all (OfName (name_of n) (has_result (is_answer_place (gives_of n)))) number_rows ≡ true
  answer_rows Sum = refl
  answer_rows Product = refl
  answer_rows Difference = refl
  answer_rows Quotient = refl
  answer_rows Remainder = refl
  answer_rows Power = refl
  answer_rows GreatestCommonDivisor = refl
  answer_rows Minimum = refl
  answer_rows Maximum = refl
  answer_rows Less = refl
  answer_rows LessOrEqual = refl
  answer_rows Greater = refl
  answer_rows GreaterOrEqual = refl

  native_answers : (n : Native) (g : Gives) → gives_of n ≡ g → (o : IsOfRow (name_of n)) → HasAnswersIn s g (result_kind s f)
  native_answers n g e o = by o.place g e
    where
      by : IsIn o.row truth_rows ⊎ (IsIn o.row number_rows × HasNumbers names s) → (g : Gives) → gives_of n ≡ g → HasAnswersIn s g (result_kind s f)
      by (inl i) g q = absurd (let d : false ≡ true = row_passes (name_of n) never truth_rows (no_truth n) o.row i o.named in cc)
      by (inr i) Numbers q =
          numbers o.row o.declared i.1 (row_passes (name_of n) (has_result (is_answer_place Numbers)) number_rows (subst (λ z. list_all (OfName (name_of n) (has_result (is_answer_place z))) number_rows ≡ true) q (answer_rows n)) o.row i.0 o.named)
      by (inr i) Truths q =
          truths o.row o.declared o.truth (row_passes (name_of n) (has_result (is_answer_place Truths)) number_rows (subst (λ z. list_all (OfName (name_of n) (has_result (is_answer_place z))) number_rows ≡ true) q (answer_rows n)) o.row i.0 o.named)

  declared_as_built : AreBuiltIn names s → IsDeclaredAsBuilt s f
  declared_as_built built = record {
    branch = λ e. let o = of_row (codes "branch") (built f (codes "branch") is e) in choice o.row o.declared (by_name (codes "branch") has_choice refl refl o);
    same = λ e. let o = of_row (codes "same") (built f (codes "same") is e) in truths o.row o.declared o.truth (by_name (codes "same") (has_result (is_sort_place (codes "Bool"))) refl refl o);
    differ = λ e. let o = of_row (codes "differ") (built f (codes "differ") is e) in truths o.row o.declared o.truth (by_name (codes "differ") (has_result (is_sort_place (codes "Bool"))) refl refl o);
    native = λ n e. native_answers n (gives_of n) refl (of_row (name_of n) (built f (name_of n) is e));
  }

-- all operators of a lawful program are
pub lawful_declares : (p : Program) → IsLawfulProgram p → AreDeclaredAsBuilt p.sig
lawful_declares p l f is = declared_as_built p.sig l.accepted p.sorts f is l.built_ins
