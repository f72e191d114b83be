-- The answer of the whole strategy.
use Rattle.std.proofs.Common.{◌≡◌, ◌≤◌, ◌⊎◌, inl, inr, ℕ, List, [], ◌∷◌, Bool, true, false, Result, Ok, Err, refl, sym, subst, ap, ◌∙◌, length, map, nat_lt}
use Rattle.std.specs.Prelude.{IfOk, IfErr, if◌then◌else◌}
use Rattle.std.proofs.lemmas.Bool.{ltb-true, ltb-false}
use Rattle.mau_tokens.specs.declared.token.Token.{Token}
use Rattle.mau_tokens.specs.Laws.{text_of}
use Rattle.mau_modtext.specs.Word.{Word}
use Rattle.mau_modtext.specs.Words.{words_of}
use Rattle.mau_program.specs.Trees.{StrategyOf}
use Rattle.mau_statement.specs.Parts.{Pairs}
use Rattle.mau_statement.specs.Context.{ContextOf}
use Rattle.mau_program.specs.declared.definitions.StratDecl.{StratDecl}
use Rattle.mau_shapes.specs.Shape.{Shape, IsTextOf}
use Rattle.mau_shapes.specs.Front.{IsUnexpected}
use Rattle.mau_shapes.specs.Before.{AreFirstPieces}
use Rattle.mau_shapes.specs.Pieces.{pieces}
use Rattle.mau_shapes.specs.Reading.{ArePiecesOf}
use Rattle.mau_shapes.specs.declared.pieces.Piece.{Piece}
use Rattle.mau_strattext.specs.Setting.{SettingOf, texts, start_at}
use Rattle.mau_strattext.specs.Reads.{ShapeReads}
use Rattle.mau_strattext.specs.Faults.{FirstFault, HasNoFault}
use Rattle.mau_strattext.specs.Lawful.{IsTyped, AreTyped}
use Rattle.mau_strattext.specs.Strategies.{IfTold, fault_place, earlier, StrategyRead, reads, in_strategy, before_unexpected, at_unexpected, IsFirstUnexpected, IsBeforeUnexpected}
use Rattle.mau_strattext.specs.Building.{Builds}
use Rattle.mau_strattext.specs.declared.fault.StratFault.{StratFault}
use Rattle.mau_strattext.specs.declared.fault.StratFault.TheVariants.{TooManyTokens, Unexpected, UnknownName, Parse, Arity, NoMemory}
use Rattle.mau_strattext.proofs.Steps.{handed, err_handed}
use Rattle.mau_strattext.proofs.Whole.{whole_strategy}

-- ---- the words

abbrev pub setting_with : List Word → ContextOf → List (List ℕ) → List StratDecl → SettingOf
setting_with ws c labels names = record { words = ws; context = c; labels = labels; names = names }

texts_alike : (bs : List ℕ) (ts : List Token) → map (text_of bs) ts ≡ map (λ w. w.text) (words_of bs ts)
texts_alike bs [] = refl
texts_alike bs (t ∷ ts) = ap (λ zs. text_of bs t ∷ zs) (texts_alike bs ts)

pub texts_same : (bs : List ℕ) (ts : List Token) (ws : List Word) → ws ≡ words_of bs ts → map (text_of bs) ts ≡ map (λ w. w.text) ws
texts_same bs ts ws e = texts_alike bs ts ∙ ap (map (λ w. w.text)) (sym e)

-- ---- a whole strategy

pub nothing_told : {A : Type 0} (P : StratFault → Type 0) (r : Result A StratFault) → IfErr r (λ f. f ≡ NoMemory) → IfErr r (IfTold P)
nothing_told P (Ok x) h = tt
nothing_told P (Err f) h = subst (IfTold P) (sym h) tt

first_of : {x y : StrategyOf} {xs ys : List StrategyOf} → x ∷ xs ≡ y ∷ ys → x ≡ y
first_of {x} {y} {xs} {ys} e = cc e

module _ (s : SettingOf) where
  abbrev IsWhole : Pairs → Pairs → StrategyOf → Type 0
  IsWhole ns os x = (e : Shape) × IsTextOf (texts s) e × ShapeReads s false 0 e ns os x

  pub whole_read : (ps : List Piece) (ns os : Pairs) (ys ws : List StrategyOf) (r : Result StrategyOf StratFault) → ArePiecesOf (texts s) ps → Builds s false ps [] ns ys os
      → IfOk r (λ y. ys ≡ y ∷ ws) → IfOk r (λ x. (e : Shape) × IsTextOf (texts s) e × ShapeReads s false 0 e ns os x)
  whole_read ps ns os ys ws (Ok y) a b h =
      let w = whole_strategy s a.shape ns os ys (subst (λ qs. Builds s false qs [] ns ys os) a.pieces b) in
      let same : w.strategy ≡ y = first_of (sym w.alone ∙ h) in
      (a.shape, a.reads, subst (ShapeReads s false 0 a.shape ns os) same w.reads)
  whole_read ps ns os ys ws (Err f) a b h = tt

  pub whole_fault : (ps : List Piece) (ns : Pairs) (f : StratFault) → ArePiecesOf (texts s) ps → IfTold (FirstFault s false ps ns) f
      → IfTold (λ f. (e : Shape) × IsTextOf (texts s) e × FirstFault s false (pieces 0 e) ns f) f
  whole_fault ps ns f a h =
      handed (FirstFault s false ps ns) (λ f. (e : Shape) × IsTextOf (texts s) e × FirstFault s false (pieces 0 e) ns f)
      (λ f u. (a.shape, a.reads, subst (λ qs. FirstFault s false qs ns f) a.pieces u)) f h

  pub first_typed : (ys ws : List StrategyOf) (r : Result StrategyOf StratFault) → AreTyped s.context.signature ys → IfOk r (λ y. ys ≡ y ∷ ws) → IfOk r (IsTyped s.context.signature)
  first_typed ys ws (Ok y) t h = let u : AreTyped s.context.signature (y ∷ ws) = subst (AreTyped s.context.signature) h t in u.0
  first_typed ys ws (Err f) t h = tt

  -- ---- an unexpected word

  abbrev IsFirst : Pairs → ℕ → StratFault → Type 0
  IsFirst ns i f = IsBeforeUnexpected s ns f ⊎ (IsFirstUnexpected s ns i × (f ≡ Unexpected (start_at s i)))

  pub unexpected_first : (ns : Pairs) (i at : ℕ) (ps : List Piece) → at ≡ start_at s i → IsUnexpected (texts s) i → AreFirstPieces (texts s) ps
      → HasNoFault s false ps ns → IsBeforeUnexpected s ns (Unexpected at) ⊎ (IsFirstUnexpected s ns i × (Unexpected at ≡ Unexpected (start_at s i)))
  unexpected_first ns i at ps e u a h = inr (record { unexpected = u; pieces = ps; before = a; no_other = inl h }, ap (λ n. Unexpected n) e)

  decide : (ns : Pairs) (i : ℕ) (ps : List Piece) (f : StratFault) (b : Bool) → nat_lt (fault_place f) (start_at s i) ≡ b → IsUnexpected (texts s) i → AreFirstPieces (texts s) ps
      → FirstFault s false ps ns f → IsFirst ns i (if b then f else Unexpected (start_at s i))
  decide ns i ps f true e u a h = inl (record { place = i; unexpected = u; pieces = ps; before = a; fault = h; earlier = ltb-true (fault_place f) (start_at s i) e })
  decide ns i ps f false e u a h = inr (record { unexpected = u; pieces = ps; before = a; no_other = inr (f, h, ltb-false (fault_place f) (start_at s i) e) }, refl)

  told : (ns : Pairs) (i : ℕ) (f g : StratFault) → IsFirst ns i f → IfTold (IsFirst ns i) f
  told ns i (TooManyTokens n) g h = h
  told ns i (Unexpected n) g h = h
  told ns i (UnknownName n) g h = h
  told ns i (Parse n f) g h = h
  told ns i (Arity n) g h = h
  told ns i NoMemory g h = tt

  earlier_by : (ns : Pairs) (i : ℕ) (ps : List Piece) (f : StratFault) → IsUnexpected (texts s) i → AreFirstPieces (texts s) ps → IfTold (FirstFault s false ps ns) f
      → IfTold (IsFirst ns i) (earlier (start_at s i) f)
  earlier_by ns i ps (TooManyTokens n) u a h = let g = TooManyTokens n in told ns i (earlier (start_at s i) g) g (decide ns i ps g (nat_lt (fault_place g) (start_at s i)) refl u a h)
  earlier_by ns i ps (Unexpected n) u a h = let g = Unexpected n in told ns i (earlier (start_at s i) g) g (decide ns i ps g (nat_lt (fault_place g) (start_at s i)) refl u a h)
  earlier_by ns i ps (UnknownName n) u a h = let g = UnknownName n in told ns i (earlier (start_at s i) g) g (decide ns i ps g (nat_lt (fault_place g) (start_at s i)) refl u a h)
  earlier_by ns i ps (Parse n f) u a h = let g = Parse n f in told ns i (earlier (start_at s i) g) g (decide ns i ps g (nat_lt (fault_place g) (start_at s i)) refl u a h)
  earlier_by ns i ps (Arity n) u a h = let g = Arity n in told ns i (earlier (start_at s i) g) g (decide ns i ps g (nat_lt (fault_place g) (start_at s i)) refl u a h)
  earlier_by ns i ps NoMemory u a h = tt

  pub earlier_told : (ns : Pairs) (i : ℕ) (ps : List Piece) (f g : StratFault) → g ≡ earlier (start_at s i) f → IsUnexpected (texts s) i → AreFirstPieces (texts s) ps
      → IfTold (FirstFault s false ps ns) f → IfTold (λ f. IsBeforeUnexpected s ns f ⊎ (IsFirstUnexpected s ns i × (f ≡ Unexpected (start_at s i)))) g
  earlier_told ns i ps f g e u a h = subst (IfTold (IsFirst ns i)) (sym e) (earlier_by ns i ps f u a h)

  -- ---- all

  pub few_read : (ns os : Pairs) (r : Result StrategyOf StratFault) → length s.words ≤ 1000
      → IfOk r (λ x. (e : Shape) × IsTextOf (texts s) e × ShapeReads s false 0 e ns os x) → IfOk r (λ x. StrategyRead s ns os (Ok x))
  few_read ns os (Ok x) l h = reads h.0 x l h.1 h.2
  few_read ns os (Err f) l h = tt

  pub few_fault : (ns : Pairs) (r : Result StrategyOf StratFault) → length s.words ≤ 1000
      → IfErr r (IfTold (λ f. (e : Shape) × IsTextOf (texts s) e × FirstFault s false (pieces 0 e) ns f)) → IfErr r (IfTold (λ f. (os : Pairs) → StrategyRead s ns os (Err f)))
  few_fault ns r l h =
      err_handed (λ f. (e : Shape) × IsTextOf (texts s) e × FirstFault s false (pieces 0 e) ns f) (λ f. (os : Pairs) → StrategyRead s ns os (Err f))
      (λ f u os. in_strategy u.0 f l u.1 u.2) r h

  first_read : (ns : Pairs) (i : ℕ) (f : StratFault) → length s.words ≤ 1000 → IsFirst ns i f → (os : Pairs) → StrategyRead s ns os (Err f)
  first_read ns i f l (inl b) os = before_unexpected f l b
  first_read ns i f l (inr u) os = subst (λ g. StrategyRead s ns os (Err g)) (sym u.1) (at_unexpected i l u.0)

  pub few_unexpected : (ns : Pairs) (i : ℕ) (f : StratFault) → length s.words ≤ 1000
      → IfTold (λ f. IsBeforeUnexpected s ns f ⊎ (IsFirstUnexpected s ns i × (f ≡ Unexpected (start_at s i)))) f → IfTold (λ f. (os : Pairs) → StrategyRead s ns os (Err f)) f
  few_unexpected ns i f l h = handed (IsFirst ns i) (λ f. (os : Pairs) → StrategyRead s ns os (Err f)) (λ f u. first_read ns i f l u) f h
