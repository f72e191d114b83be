-- One step of a part.
use Rattle.std.proofs.Common.{◌≡◌, ℕ, suc, ◌+◌, ◌<◌, ◌≤◌, List, length, get_or, Option, Some, refl, sym, ◌∙◌, ap, ap₂, arith}
use Rattle.std.specs.List.{slice_get}
use Rattle.std.proofs.lemmas.Option.{slice_get_read, slice_get-get_or, slice_get_within}
use Rattle.mau_terms.specs.declared.ids.OpId.{OpId}
use Rattle.mau_chart.specs.declared.grammar.Piece.{Piece}
use Rattle.mau_chart.specs.declared.grammar.Production.{Production}
use Rattle.mau_chart.specs.declared.grammar.Item.{Item}
use Rattle.mau_chart.specs.declared.grammar.Item.TheVariants.{Whole, Part}
use Rattle.mau_chart.specs.Chart.{Steps, Lifts}

pub whole_kind : (a b c d : ℕ) → Whole a b ≡ Whole c d → a ≡ c
whole_kind a b c d e = cc

pub whole_level : (a b c d : ℕ) → Whole a b ≡ Whole c d → b ≡ d
whole_level a b c d e = cc

pub part_number : (a b c d : ℕ) → Part a b ≡ Part c d → a ≡ c
part_number a b c d e = cc

pub part_dot : (a b c d : ℕ) → Part a b ≡ Part c d → b ≡ d
part_dot a b c d e = cc

pub some_one : {A : Type 0} (x y : A) → Some x ≡ Some y → x ≡ y
some_one x y e = cc

pub step_only : (ps : List Production) (a b to : Item) (kind level number dot before : ℕ) (form : Production) (piece : Piece) → Steps ps a b to → a ≡ Whole kind level → b ≡ Part number dot → dot ≡ before + 1 → slice_get ps number ≡ Some form → slice_get form.pieces.items before ≡ Some piece → (piece.kind ≡ kind) × (level ≤ piece.upto)
step_only ps a b to kind level number dot before form piece s ea eb ed ef ep =
    let w : Whole s.piece.kind s.level ≡ Whole kind level = sym s.whole ∙ ea in
    let p : Part s.number (suc s.dot) ≡ Part number dot = sym s.part ∙ eb in
    let n = part_number s.number (suc s.dot) number dot p in
    let d : s.dot ≡ before = omega (arith, part_dot s.number (suc s.dot) number dot p, ed) in
    let f : s.form ≡ form = some_one s.form form (sym s.its ∙ ap (slice_get ps) n ∙ ef) in
    let q : s.piece ≡ piece = some_one s.piece piece (sym s.there ∙ ap₂ (λ x y. slice_get x.pieces.items y) f d ∙ ep) in
    let k = whole_kind s.piece.kind s.level kind level w in
    let l = whole_level s.piece.kind s.level kind level w in (
      ap (λ z. z.kind) (sym q) ∙ k,
      omega (arith, s.upto, l, ap (λ z. z.upto) q),
    )

module _ (ps : List Production) (a b : Item) (kind level number dot before : ℕ) (d : Production) (piece : Piece) (ea : a ≡ Whole kind level) (eb : b ≡ Part number dot) (ed : dot ≡ before + 1) (n : number < length ps) (l : before < length (get_or ps number d).pieces.items) (ep : piece ≡ get_or (get_or ps number d).pieces.items before piece) where
  at_form : slice_get ps number ≡ Some (get_or ps number d)
  at_form = slice_get-get_or ps number d n

  at_piece : slice_get (get_or ps number d).pieces.items before ≡ Some piece
  at_piece = slice_get_read (get_or ps number d).pieces.items (length (get_or ps number d).pieces.items) before piece refl l ep

  pub step_some : piece.kind ≡ kind → level ≤ piece.upto → Steps ps a b (Part number before)
  step_some k u = record {
    number = number;
    dot = before;
    level = level;
    form = get_or ps number d;
    piece = piece;
    whole = ea ∙ ap (λ z. Whole z level) (sym k);
    part = eb ∙ ap (Part number) (omega (arith, ed));
    longer = refl;
    its = at_form;
    there = at_piece;
    upto = u;
  }

  pub step_none : (to : Item) (x : Option Item) → (piece.kind ≡ kind → level ≤ piece.upto → ⊥) → Steps ps a b to → x ≡ Some to
  step_none to x never s =
      let h = step_only ps a b to kind level number dot before (get_or ps number d) piece s ea eb ed at_form at_piece in absurd (never h.0 h.1)

pub lift_only : (ps : List Production) (a to : Item) (o : Option OpId) (number dot : ℕ) (form : Production) → Lifts ps a to o → a ≡ Part number dot → slice_get ps number ≡ Some form → (dot ≡ 0) × (to ≡ Whole form.kind form.level) × (o ≡ form.op)
lift_only ps a to o number dot form s ea ef =
    let p : Part s.number 0 ≡ Part number dot = sym s.part ∙ ea in
    let f : s.form ≡ form = some_one s.form form (sym s.its ∙ ap (slice_get ps) (part_number s.number 0 number dot p) ∙ ef) in
    (sym (part_dot s.number 0 number dot p), s.whole ∙ ap (λ z. Whole z.kind z.level) f, s.op ∙ ap (λ z. z.op) f)
