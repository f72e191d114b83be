-- Which forms are cut from one token.
use Rattle.std.proofs.Common.{◌≡◌, ℕ, List, [], ◌∷◌, ◌++◌, Bool, true, false, cond, None, Option, is_some, codes, refl, ap, ap₂, ◌∙◌}
use Rattle.mau_signature.specs.declared.form.Piece.{Piece}
use Rattle.mau_signature.specs.declared.form.Piece.TheVariants.{Hole, Word}
use Rattle.mau_grammar.specs.Parts.{is_special, name_from}

word_by : (s a : Bool) (x y u v : Option (List ℕ)) → is_some x ≡ is_some y → is_some u ≡ is_some v → is_some (cond s x (cond a None u)) ≡ is_some (cond s y (cond a None v))
word_by true a x y u v e f = e
word_by false true x y u v e f = refl
word_by false false x y u v e f = f

-- whether there is a name does not depend on what stands before
pub named_any : (v w : List ℕ) (b : Bool) (ps : List Piece) → is_some (name_from v b ps) ≡ is_some (name_from w b ps)
named_any v w b [] = refl
named_any v w b (Hole ∷ ps) = named_any (v ++ codes "_") (w ++ codes "_") false ps
named_any v w b (Word x ∷ ps) =
    word_by (is_special x) b _ _ _ _ (named_any (v ++ (codes "`" ++ x)) (w ++ (codes "`" ++ x)) false ps) (named_any (v ++ x) (w ++ x) true ps)

pub special_step : (name w : List ℕ) (a : Bool) (ps : List Piece) → is_special w ≡ true → is_some (name_from name a (Word w ∷ ps)) ≡ is_some (name_from [] false ps)
special_step name w a ps e =
    ap (λ s. is_some (cond s (name_from (name ++ (codes "`" ++ w)) false ps) (cond a None (name_from (name ++ w) true ps)))) e ∙ named_any (name ++ (codes "`" ++ w)) [] false ps

pub plain_step : (name w : List ℕ) (a : Bool) (ps : List Piece) → is_special w ≡ false → a ≡ false → is_some (name_from name a (Word w ∷ ps)) ≡ is_some (name_from [] true ps)
plain_step name w a ps e f =
    ap₂ (λ s b. is_some (cond s (name_from (name ++ (codes "`" ++ w)) false ps) (cond b None (name_from (name ++ w) true ps)))) e f ∙ named_any (name ++ w) [] true ps
