-- The tests of pieces, forms and operators decide that two of them are one.
use Rattle.std.proofs.Common.{◌≡◌, ℕ, nat_eq, List, [], ◌∷◌, ◌++◌, Bool, true, false, ◌&&◌, ◌||◌, if◌then◌else◌, Option, Some, None, string_bytes, refl, sym, ◌∙◌, ap, ap₂, subst}
use Rattle.std.specs.Prelude.{String}
use Rattle.std.specs.Bool.{Decides}
use Rattle.std.specs.List.{list_any}
use Rattle.std.specs.Option.{option_eq}
use Rattle.std.specs.Cmp.Lexicographic.{pointwise}
use Rattle.std.specs.Str.{bytes_eq}
use Rattle.std.proofs.lemmas.Bool.Decides.{Decides-eqb}
use Rattle.std.proofs.lemmas.Slice.Eq.{bytes_eq-Decides, slice_eq-Decides}
use Rattle.std.proofs.lemmas.Bool.{and_parts, or_parts}
use Rattle.mau_signature.specs.declared.form.Piece.{Piece}
use Rattle.mau_signature.specs.declared.form.Piece.TheVariants.{Hole, Word}
use Rattle.mau_signature.specs.declared.names.Key.{Key}
use Rattle.mau_signature.specs.Form.{same_piece, same_form}
use Rattle.mau_signature.specs.Names.{Operator, same_operator, with_operator}
use Rattle.mau_signature.specs.Keys.{piece_of, pieces_of, operator_of_key}
use Rattle.mau_signature.specs.Distinct.{AreDistinct}

-- ---- pieces and forms

pub same_piece-Decides : (p q : Piece) → Decides (same_piece p q) (p ≡ q)
same_piece-Decides Hole Hole = (λ e. refl, λ e. refl)
same_piece-Decides Hole (Word w) = (λ e. cc, λ e. cc)
same_piece-Decides (Word v) Hole = (λ e. cc, λ e. cc)
same_piece-Decides (Word v) (Word w) =
    (λ e. ap Word ((bytes_eq-Decides v w).0 e), λ e. (bytes_eq-Decides v w).1 (let h : v ≡ w = cc in h))

pub same_form-Decides : (f g : List Piece) → Decides (same_form f g) (f ≡ g)
same_form-Decides f g = slice_eq-Decides same_piece-Decides f g (same_form f g) refl

pub numbers-Decides : (xs ys : List ℕ) → Decides (pointwise nat_eq xs ys) (xs ≡ ys)
numbers-Decides xs ys = slice_eq-Decides Decides-eqb xs ys (pointwise nat_eq xs ys) refl

option-Decides : (x y : Option ℕ) → Decides (option_eq nat_eq x y) (x ≡ y)
option-Decides None None = (λ e. refl, λ e. refl)
option-Decides None (Some y) = (λ e. cc, λ e. cc)
option-Decides (Some x) None = (λ e. cc, λ e. cc)
option-Decides (Some x) (Some y) = (λ e. ap Some ((Decides-eqb x y).0 e), λ e. (Decides-eqb x y).1 (let h : x ≡ y = cc in h))

-- ---- operators

abbrev an_operator : List Piece → List ℕ → Option ℕ → Operator
an_operator form arguments constant = record { form = form; arguments = arguments; constant = constant }

pub same_operator-is : (f g : Operator) → same_operator f g ≡ true → f ≡ g
same_operator-is f g e =
    let p = and_parts (same_form f.form g.form) (pointwise nat_eq f.arguments g.arguments && option_eq nat_eq f.constant g.constant) e in
    let q = and_parts (pointwise nat_eq f.arguments g.arguments) (option_eq nat_eq f.constant g.constant) p.1 in
    let a = (same_form-Decides f.form g.form).0 p.0 in
    let b = (numbers-Decides f.arguments g.arguments).0 q.0 in
    let c = (option-Decides f.constant g.constant).0 q.1 in
    ap (λ x. an_operator x f.arguments f.constant) a ∙ ap (λ x. an_operator g.form x f.constant) b ∙ ap (an_operator g.form g.arguments) c

pub same_operator_itself : (f : Operator) → same_operator f f ≡ true
same_operator_itself f =
    ap₂ (λ a b. a && b) ((same_form-Decides f.form f.form).1 refl)
    (ap₂ (λ a b. a && b) ((numbers-Decides f.arguments f.arguments).1 refl) ((option-Decides f.constant f.constant).1 refl))

pub same_operator_back : (f g : Operator) → same_operator f g ≡ false → same_operator g f ≡ false
same_operator_back f g e = by (same_operator g f) refl
  where
    by : (b : Bool) → same_operator g f ≡ b → b ≡ false
    by false h = refl
    by true h = let k : same_operator f g ≡ true = subst (λ w. same_operator f w ≡ true) (sym (same_operator-is g f h)) (same_operator_itself f) in cc

-- ---- operators that stand in a list once

none_at_end : (f : Operator) (fs : List Operator) (g : Operator) → list_any (same_operator f) fs ≡ false → same_operator f g ≡ false → list_any (same_operator f) (fs ++ g ∷ []) ≡ false
none_at_end f [] g h k = ap (λ b. b || false) k
none_at_end f (x ∷ fs) g h k =
    let p = or_parts (same_operator f x) (list_any (same_operator f) fs) h in
    ap₂ (λ a b. a || b) p.0 (none_at_end f fs g p.1 k)

distinct_end : (fs : List Operator) (g : Operator) → AreDistinct fs → list_any (same_operator g) fs ≡ false → AreDistinct (fs ++ g ∷ [])
distinct_end [] g d h = (refl, tt)
distinct_end (f ∷ fs) g d h =
    let p = or_parts (same_operator g f) (list_any (same_operator g) fs) h in
    (none_at_end f fs g d.0 (same_operator_back g f p.0), distinct_end fs g d.1 p.1)

pub AreDistinct-with : (fs : List Operator) (g : Operator) → AreDistinct fs → AreDistinct (with_operator fs g)
AreDistinct-with fs g d = by (list_any (same_operator g) fs) refl
  where
    by : (b : Bool) → list_any (same_operator g) fs ≡ b → AreDistinct (if b then fs else fs ++ g ∷ [])
    by true h = d
    by false h = distinct_end fs g d h

-- ---- keys

same_key_piece : {Z : Type 0} (p q : Option (String Z)) → option_eq (λ v w. bytes_eq (string_bytes v) (string_bytes w)) p q ≡ same_piece (piece_of p) (piece_of q)
same_key_piece None None = refl
same_key_piece None (Some w) = refl
same_key_piece (Some v) None = refl
same_key_piece (Some v) (Some w) = refl

same_key_pieces : {Z : Type 0} (ps qs : List (Option (String Z))) → pointwise (option_eq (λ v w. bytes_eq (string_bytes v) (string_bytes w))) ps qs ≡ same_form (pieces_of ps) (pieces_of qs)
same_key_pieces [] [] = refl
same_key_pieces [] (q ∷ qs) = refl
same_key_pieces (p ∷ ps) [] = refl
same_key_pieces (p ∷ ps) (q ∷ qs) = ap₂ (λ a b. a && b) (same_key_piece p q) (same_key_pieces ps qs)

pub same_key : (j k : Key) →
    (pointwise (option_eq (λ v w. bytes_eq (string_bytes v) (string_bytes w))) j.form.items k.form.items && (pointwise nat_eq j.arguments.items k.arguments.items && option_eq nat_eq j.constant k.constant))
    ≡ same_operator (operator_of_key j) (operator_of_key k)
same_key j k = ap (λ a. a && (pointwise nat_eq j.arguments.items k.arguments.items && option_eq nat_eq j.constant k.constant)) (same_key_pieces j.form.items k.form.items)
