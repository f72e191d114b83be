-- How a token of a form is cut, byte by byte.
use Rattle.std.proofs.Common.{◌≡◌, ℕ, suc, ◌+◌, ◌-◌, ◌<◌, ◌≤◌, List, [], ◌∷◌, ◌++◌, Bool, true, false, cond, ◌==◌, ◌&&◌, length, get_or, take, drop, refl, sym, ap, ap₂, ◌∙◌, add-one, arith, subst}
use Rattle.std.specs.Prelude.{slice_range}
use Rattle.std.specs.Str.{IsUtf8, IsCharBoundary}
use Rattle.std.proofs.lemmas.Str.{IsCharBoundary-after_ascii}
use Rattle.std.proofs.lemmas.Bool.{eqb-true, and_parts}
use Rattle.std.proofs.Math.Seq.{drop-cons, take-suc}
use Rattle.std.proofs.lemmas.List.{length-drop, get_or-drop, append_assoc}
use Rattle.mau_signature.specs.declared.form.Piece.{Piece}
use Rattle.mau_signature.specs.declared.form.Piece.TheVariants.{Hole}
use Rattle.mau_modtext.specs.Forms.{is_special_byte, begins_special}
use Rattle.mau_declare.specs.Forms.{cut, ended, is_quote}

-- a special character is one byte of ASCII
pub special_ascii : (b : ℕ) → is_special_byte b ≡ true → b < 128
special_ascii b h = grind arith

module _ (t : List ℕ) (i : ℕ) (l : i < length t) where
  pub next : drop i t ≡ get_or t i 0 ∷ drop (i + 1) t
  next = drop-cons t i 0 l ∙ ap (λ k. get_or t i 0 ∷ drop k t) (sym (add-one i))

  pub special_ends : begins_special (drop i t) ≡ true → get_or t i 0 < 128
  special_ends h = special_ascii (get_or t i 0) (sym (ap begins_special next) ∙ h)

  module _ (begin : ℕ) (a : begin ≤ i) where
    pub longer : slice_range t begin (i + 1) ≡ slice_range t begin i ++ get_or t i 0 ∷ []
    longer =
        let n : i + 1 - begin ≡ suc (i - begin) = omega arith in
        let h : i - begin < length (drop begin t) = omega (arith, length-drop begin t) in
        let e : begin + (i - begin) ≡ i = omega arith in
        ap (λ k. take k (drop begin t)) n ∙ take-suc (drop begin t) (i - begin) 0 h
        ∙ ap (λ b. slice_range t begin i ++ b ∷ []) (get_or-drop begin t (i - begin) 0 ∙ ap (λ k. get_or t k 0) e)

    nothing : slice_range t (i + 1) (i + 1) ≡ []
    nothing = let z : i + 1 - (i + 1) ≡ 0 = omega arith in ap (λ k. take k (drop (i + 1) t)) z

    pub quoted_cut : cut true (slice_range t begin i) (drop i t) ≡ ended (slice_range t begin (i + 1)) ++ cut false (slice_range t (i + 1) (i + 1)) (drop (i + 1) t)
    quoted_cut = ap (cut true (slice_range t begin i)) next ∙ ap₂ (λ w v. ended w ++ cut false v (drop (i + 1) t)) (sym longer) (sym nothing)

    pub hole_cut : get_or t i 0 ≡ 95 → cut false (slice_range t begin i) (drop i t) ≡ ended (slice_range t begin i) ++ Hole ∷ cut false (slice_range t (i + 1) (i + 1)) (drop (i + 1) t)
    hole_cut e =
        ap (cut false (slice_range t begin i)) (next ∙ ap (λ b. b ∷ drop (i + 1) t) e)
        ∙ ap (λ v. ended (slice_range t begin i) ++ Hole ∷ cut false v (drop (i + 1) t)) (sym nothing)

    pub quote_cut : get_or t i 0 ≡ 96 → begins_special (drop (i + 1) t) ≡ true
        → cut false (slice_range t begin i) (drop i t) ≡ ended (slice_range t begin i) ++ cut true (slice_range t (i + 1) (i + 1)) (drop (i + 1) t)
    quote_cut e s =
        ap (cut false (slice_range t begin i)) (next ∙ ap (λ b. b ∷ drop (i + 1) t) e)
        ∙ ap (λ b. cond b (ended (slice_range t begin i) ++ cut true [] (drop (i + 1) t)) (cut false (slice_range t begin i ++ 96 ∷ []) (drop (i + 1) t))) s
        ∙ ap (λ v. ended (slice_range t begin i) ++ cut true v (drop (i + 1) t)) (sym nothing)

    pub plain_cut : (get_or t i 0 == 95) ≡ false → (get_or t i 0 == 96 && begins_special (drop (i + 1) t)) ≡ false
        → cut false (slice_range t begin i) (drop i t) ≡ cut false (slice_range t begin (i + 1)) (drop (i + 1) t)
    plain_cut e f =
        let w = slice_range t begin i in
        let bs = drop (i + 1) t in
        ap (cut false w) next
        ∙ ap₂ (λ x y. cond x (ended w ++ Hole ∷ cut false [] bs) (cond y (ended w ++ cut true [] bs) (cut false (w ++ get_or t i 0 ∷ []) bs))) e f
        ∙ ap (λ v. cut false v bs) (sym longer)

-- ---- the loop over the bytes

-- the first i bytes are cut into `out`, but for a word that begins at `from`; with the rest they are all pieces
pub record IsCut (t : List ℕ) (all out : List Piece) (is_quoted : Bool) (from i : ℕ) : Type 0 where
  pub rest : out ++ cut is_quoted (slice_range t from i) (drop i t) ≡ all
  pub ascends : from ≤ i
  pub boundary : IsCharBoundary t from
  pub quoted : is_quoted ≡ true → begins_special (drop i t) ≡ true

module _ (t : List ℕ) (all out out' : List Piece) (is_quoted' : Bool) (from from' i : ℕ) (u : IsUtf8 t) (l : i < length t) (f : from' ≡ i + 1) where
  behind : get_or t i 0 < 128 → IsCharBoundary t from'
  behind h = subst (IsCharBoundary t) (sym f) (IsCharBoundary-after_ascii t i u l h)

  next_rest : (q : Bool) (ps : List Piece) → is_quoted' ≡ q → out' ≡ out ++ ps → out ++ (ps ++ cut q (slice_range t (i + 1) (i + 1)) (drop (i + 1) t)) ≡ all
      → out' ++ cut is_quoted' (slice_range t from' (i + 1)) (drop (i + 1) t) ≡ all
  next_rest q ps e o h =
      ap (λ xs. xs ++ cut is_quoted' (slice_range t from' (i + 1)) (drop (i + 1) t)) o
      ∙ append_assoc out ps (cut is_quoted' (slice_range t from' (i + 1)) (drop (i + 1) t))
      ∙ ap₂ (λ q k. out ++ (ps ++ cut q (slice_range t k (i + 1)) (drop (i + 1) t))) e f ∙ h

  pub quoted_step : IsCut t all out true from i → is_quoted' ≡ false → out' ≡ out ++ ended (slice_range t from (i + 1)) → IsCut t all out' is_quoted' from' (i + 1)
  quoted_step c e o = record {
    rest = next_rest false (ended (slice_range t from (i + 1))) e o (ap (λ ps. out ++ ps) (sym (quoted_cut t i l from c.ascends)) ∙ c.rest);
    ascends = omega (arith, f);
    boundary = behind (special_ends t i l (c.quoted refl));
    quoted = λ h. let n = sym e ∙ h in absurd cc;
  }

  pub hole_step : IsCut t all out false from i → get_or t i 0 ≡ 95 → is_quoted' ≡ false → out' ≡ (out ++ ended (slice_range t from i)) ++ Hole ∷ [] → IsCut t all out' is_quoted' from' (i + 1)
  hole_step c b e o = record {
    rest = next_rest false (ended (slice_range t from i) ++ Hole ∷ []) e (o ∙ append_assoc out (ended (slice_range t from i)) (Hole ∷ []))
        (ap (λ ps. out ++ ps) (append_assoc (ended (slice_range t from i)) (Hole ∷ []) (cut false (slice_range t (i + 1) (i + 1)) (drop (i + 1) t)) ∙ sym (hole_cut t i l from c.ascends b)) ∙ c.rest);
    ascends = omega (arith, f);
    boundary = behind (omega (arith, b));
    quoted = λ h. let n = sym e ∙ h in absurd cc;
  }

  pub quote_step : IsCut t all out false from i → is_quote t i ≡ true → is_quoted' ≡ true → out' ≡ out ++ ended (slice_range t from i) → IsCut t all out' is_quoted' from' (i + 1)
  quote_step c b e o =
      let p = and_parts (get_or t i 0 == 96) (begins_special (drop (i + 1) t)) b in
      let b' : get_or t i 0 ≡ 96 = eqb-true (get_or t i 0) 96 p.0 in
      record {
        rest = next_rest true (ended (slice_range t from i)) e o (ap (λ ps. out ++ ps) (sym (quote_cut t i l from c.ascends b' p.1)) ∙ c.rest);
        ascends = omega (arith, f);
        boundary = behind (omega (arith, b'));
        quoted = λ h. p.1;
      }

differ : (a b : ℕ) → (a ≡ b → ⊥) → (a == b) ≡ false
differ a b n = by (a == b) refl
  where
    by : (c : Bool) → (a == b) ≡ c → (a == b) ≡ false
    by true h = absurd (n (eqb-true a b h))
    by false h = h

pub plain_step : (t : List ℕ) (all out : List Piece) (from i : ℕ) → i < length t → IsCut t all out false from i → (get_or t i 0 ≡ 95 → ⊥) → is_quote t i ≡ false → IsCut t all out false from (i + 1)
plain_step t all out from i l c n b = record {
  rest = ap (λ ps. out ++ ps) (sym (plain_cut t i l from c.ascends (differ (get_or t i 0) 95 n) b)) ∙ c.rest;
  ascends = omega (arith, c.ascends);
  boundary = c.boundary;
  quoted = λ h. absurd cc;
}
