-- The words of a strategy are one strategy, or have one first fault, but for the two trees of an ambiguity.
use Rattle.std.proofs.Common.{◌≡◌, ◌≢◌, ◌⊎◌, inl, inr, ℕ, ◌+◌, ◌<◌, ◌≤◌, List, [], ◌∷◌, ◌++◌, Bool, true, false, Option, Some, None, Result, Ok, Err, length, refl, sym, subst, ap, ap₂, ◌∙◌, All, append_assoc, arith}
use Rattle.std.proofs.lemmas.List.{append-nil}
use Rattle.mau_declare.proofs.Once.{some_once}
use Rattle.mau_grammar.specs.Production.{IsShaped}
use Rattle.mau_program.specs.Trees.{StrategyOf, branch}
use Rattle.mau_statement.specs.Parts.{Pairs}
use Rattle.mau_shapes.specs.Shape.{Shape, plain, assigned, called, wrapped, within, tested, marked, joined, chosen, text, IsTextOf}
use Rattle.mau_shapes.specs.Front.{IsUnexpected}
use Rattle.mau_shapes.specs.Before.{AreFirstPieces}
use Rattle.mau_shapes.specs.Pieces.{pieces, part, use_pieces, term_pieces, such_pieces}
use Rattle.mau_shapes.specs.declared.pieces.Piece.{Piece}
use Rattle.mau_shapes.specs.declared.pieces.Piece.TheVariants.{Plain, Label, Call, Called, Test, Pattern, Wrapper, Wrapped, Marked, Joined, Chosen}
use Rattle.mau_shapes.proofs.Reading.{one_shape}
use Rattle.mau_shapes.proofs.Answering.{no_text, one_fault}
use Rattle.mau_strattext.specs.Setting.{SettingOf, word_at, start_at, texts}
use Rattle.mau_strattext.specs.Reads.{LeafReads, ShapeReads, is_top, wrapped_by, marked_by, joined_by}
use Rattle.mau_strattext.specs.Faults.{is_leaf, is_inner, inner, behind_inner, opens_top, LeafFault, FirstFault, at_leaf, behind_leaf, behind_form, HasNoFault, no_pieces, leaf_reads, leaf_open, form_there}
use Rattle.mau_strattext.specs.Strategies.{most_words, fault_place, IsFirstUnexpected, IsBeforeUnexpected, StrategyRead, reads, too_many, in_strategy, before_unexpected, at_unexpected}
use Rattle.mau_strattext.specs.Laws.{without_trees, told}
use Rattle.mau_strattext.specs.declared.fault.StratFault.{StratFault}
use Rattle.mau_strattext.specs.declared.fault.StratFault.TheVariants.{TooManyTokens, Unexpected, UnknownName, Parse, Arity, NoMemory}
use Rattle.mau_strattext.proofs.Whole.{AllInner, IsOuter, inner_split, behind_split, uses_inner, terms_inner, such_inner, outer, leaf_is}
use Rattle.mau_strattext.proofs.OneLeaf.{AreOneLeaf, leaf_once, leaf_no_fault, leaf_fault_once, fault_is, open_is, open_no_fault}

true_false : {b : Bool} → b ≡ true → b ≡ false → ⊥
true_false e f = let h = sym e ∙ f in absurd cc

module _ (s : SettingOf) (shaped : All IsShaped s.context.grammar.productions) where
  -- ---- the first fault of pieces

  fault_same : {ps qs : List Piece} {t u : Bool} {ns ms : Pairs} {f : StratFault} → ps ≡ qs → t ≡ u → ns ≡ ms → FirstFault s t ps ns f → FirstFault s u qs ms f
  fault_same {ps} {qs} {t} {u} {ns} {ms} {f} e h m x =
      subst (λ z. FirstFault s u qs z f) m (subst (λ z. FirstFault s z qs ns f) h (subst (λ z. FirstFault s t z ns f) e x))

  pub first_once : {t : Bool} {ps : List Piece} {ns : Pairs} {f g : StratFault} → FirstFault s t ps ns f → FirstFault s t ps ns g → without_trees f ≡ without_trees g
  first_once (at_leaf t p ps ns f u) (at_leaf t' p' ps' ns' f' u') = leaf_fault_once s shaped t p (inner ps) ns u u'
  first_once (at_leaf t p ps ns f u) (behind_leaf t' p' ps' ns' m' x' f' r' l') = absurd (leaf_no_fault s shaped t p (inner ps) ns r' u)
  first_once (at_leaf t p ps ns f u) (behind_form t' p' ps' ns' f' e' i' l') = absurd (true_false (fault_is s shaped u) e')
  first_once (behind_leaf t p ps ns m x f r l) (at_leaf t' p' ps' ns' f' u') = absurd (leaf_no_fault s shaped t p (inner ps) ns r u')
  first_once (behind_leaf t p ps ns m x f r l) (behind_leaf t' p' ps' ns' m' x' f' r' l') =
      first_once l (fault_same refl refl (sym (leaf_once s shaped t p (inner ps) ns r r').pairs) l')
  first_once (behind_leaf t p ps ns m x f r l) (behind_form t' p' ps' ns' f' e' i' l') = absurd (true_false (leaf_is s r) e')
  first_once (behind_form t p ps ns f e i l) (at_leaf t' p' ps' ns' f' u') = absurd (true_false (fault_is s shaped u') e)
  first_once (behind_form t p ps ns f e i l) (behind_leaf t' p' ps' ns' m' x' f' r' l') = absurd (true_false (leaf_is s r') e)
  first_once (behind_form t p ps ns f e i l) (behind_form t' p' ps' ns' f' e' i' l') = first_once l l'

  nothing_first : {t : Bool} {ps : List Piece} {ns : Pairs} {f : StratFault} → ps ≡ [] → FirstFault s t ps ns f → ⊥
  nothing_first e (at_leaf t p ps ns f u) = absurd cc
  nothing_first e (behind_leaf t p ps ns m x f r l) = absurd cc
  nothing_first e (behind_form t p ps ns f h i l) = absurd cc

  pub none_first : {t : Bool} {ps : List Piece} {ns : Pairs} {f : StratFault} → HasNoFault s t ps ns → FirstFault s t ps ns f → ⊥
  none_first (no_pieces t ns) x = elim x [ ]
  none_first (leaf_reads t p ps ns m x r h) (at_leaf t' p' ps' ns' f u) = leaf_no_fault s shaped t p (inner ps) ns r u
  none_first (leaf_reads t p ps ns m x r h) (behind_leaf t' p' ps' ns' m' x' f r' l) =
      none_first h (fault_same refl refl (sym (leaf_once s shaped t p (inner ps) ns r r').pairs) l)
  none_first (leaf_reads t p ps ns m x r h) (behind_form t' p' ps' ns' f e i l) = true_false (leaf_is s r) e
  none_first (leaf_open t p ps ns o e) (at_leaf t' p' ps' ns' f u) = open_no_fault s shaped t p (inner ps) ns o u
  none_first (leaf_open t p ps ns o e) (behind_leaf t' p' ps' ns' m' x' f r' l) = nothing_first e l
  none_first (leaf_open t p ps ns o e) (behind_form t' p' ps' ns' f h i l) = true_false (open_is s shaped o) h
  none_first (form_there t p ps ns e i h) (at_leaf t' p' ps' ns' f u) = true_false (fault_is s shaped u) e
  none_first (form_there t p ps ns e i h) (behind_leaf t' p' ps' ns' m' x' f r' l) = true_false (leaf_is s r') e
  none_first (form_there t p ps ns e i h) (behind_form t' p' ps' ns' f h' i' l) = none_first h l

  -- ---- a shape that reads

  pub shape_once : (e : Shape) (t : Bool) (i : ℕ) (ns : Pairs) {os os' : Pairs} {x y : StrategyOf} → ShapeReads s t i e ns os x → ShapeReads s t i e ns os' y → AreOneLeaf s shaped os os' x y
  shape_once (plain w) t i ns r r' = leaf_once s shaped t (Plain i) [] ns r r'
  shape_once (assigned w us) t i ns r r' = leaf_once s shaped t (Label i) (use_pieces (i + 2) us) ns r r'
  shape_once (called w ts) t i ns r r' = leaf_once s shaped t (Call i) (term_pieces (i + 2) ts ++ Called ∷ []) ns r r'
  shape_once (tested w p c) t i ns r r' = leaf_once s shaped t (Test i) (Pattern (part (i + 1) p) ∷ such_pieces (i + 1 + length p) c) ns r r'
  shape_once (within e) t i ns r r' = shape_once e t (i + 1) ns r r'
  shape_once (wrapped w e) t i ns r r' =
      let one = shape_once e (is_top (word_at s i)) (i + 2) ns r.1 r'.1 in
      record { pairs = one.pairs; strategy = some_once r.2 (ap (wrapped_by (word_at s i)) one.strategy ∙ r'.2) }
  shape_once (marked e w) t i ns r r' =
      let one = shape_once e t i ns r.1 r'.1 in
      record { pairs = one.pairs; strategy = some_once r.2 (ap (marked_by (word_at s (i + length (text e)))) one.strategy ∙ r'.2) }
  shape_once (joined w e f) t i ns {os' = os'} r r' =
      let j = i + length (text e) in
      let one = shape_once e t i ns r.3 r'.3 in
      let two = shape_once f false (j + 1) r.2 r.4 (subst (λ z. ShapeReads s false (j + 1) f z os' r'.1) (sym one.pairs) r'.4) in
      record { pairs = two.pairs; strategy = some_once r.5 (ap₂ (joined_by (word_at s j)) one.strategy two.strategy ∙ r'.5) }
  shape_once (chosen e f g) t i ns {os' = os'} r r' =
      let j = i + length (text e) + 1 in
      let k = j + length (text f) + 1 in
      let one = shape_once e t i ns r.5 r'.5 in
      let two = shape_once f false j r.3 r.6 (subst (λ z. ShapeReads s false j f z r'.4 r'.1) (sym one.pairs) r'.6) in
      let three = shape_once g false k r.4 r.7 (subst (λ z. ShapeReads s false k g z os' r'.2) (sym two.pairs) r'.7) in
      record {
        pairs = three.pairs;
        strategy = r.8 ∙ (ap₂ (λ a b. branch a b r.2) one.strategy two.strategy ∙ (ap (branch r'.0 r'.1) three.strategy ∙ sym r'.8));
      }

  -- ---- a first fault stands behind what reads

  leaf_step : {t : Bool} {p : Piece} {ps us rest : List Piece} {ns os : Pairs} {x : StrategyOf} {f : StratFault} → inner ps ≡ us → behind_inner ps ≡ rest → LeafReads s t p us ns os x
      → FirstFault s t (p ∷ ps) ns f → FirstFault s false rest os f
  leaf_step {us = us} {os = os} {x = x} e h r (at_leaf t p ps ns f u) =
      absurd (leaf_no_fault s shaped t p (inner ps) ns (subst (λ z. LeafReads s t p z ns os x) (sym e) r) u)
  leaf_step {us = us} {os = os} {x = x} e h r (behind_leaf t p ps ns m y f r' l) =
      fault_same h refl (leaf_once s shaped t p (inner ps) ns r' (subst (λ z. LeafReads s t p z ns os x) (sym e) r)).pairs l
  leaf_step e h r (behind_form t p ps ns f n i l) = absurd (true_false (leaf_is s r) n)

  leaf_behind : (t : Bool) (p : Piece) (us rest : List Piece) {ns os : Pairs} {x : StrategyOf} {f : StratFault} → AllInner us → IsOuter rest → LeafReads s t p us ns os x
      → FirstFault s t (p ∷ (us ++ rest)) ns f → FirstFault s false rest os f
  leaf_behind t p us rest a o r h = leaf_step (inner_split us rest a o) (behind_split us rest a o) r h

  form_step : {t : Bool} {p : Piece} {ps : List Piece} {ns : Pairs} {f : StratFault} → is_leaf p ≡ false → FirstFault s t (p ∷ ps) ns f → FirstFault s (opens_top s p) ps ns f
  form_step e (at_leaf t p ps ns f u) = absurd (true_false (fault_is s shaped u) e)
  form_step e (behind_leaf t p ps ns m x f r l) = absurd (true_false (leaf_is s r) e)
  form_step e (behind_form t p ps ns f n i l) = l

  shape_behind : (e : Shape) (t : Bool) (i : ℕ) (rest : List Piece) (ns os : Pairs) (x : StrategyOf) (f : StratFault) → IsOuter rest → ShapeReads s t i e ns os x
      → FirstFault s t (pieces i e ++ rest) ns f → FirstFault s false rest os f
  shape_behind (plain w) t i rest ns os x f o r h = leaf_behind t (Plain i) [] rest tt o r h
  shape_behind (assigned w us) t i rest ns os x f o r h = leaf_behind t (Label i) (use_pieces (i + 2) us) rest (uses_inner (i + 2) us) o r h
  shape_behind (called w ts) t i rest ns os x f o r h = leaf_behind t (Call i) (term_pieces (i + 2) ts ++ Called ∷ []) rest (terms_inner (i + 2) ts) o r h
  shape_behind (tested w p c) t i rest ns os x f o r h =
      leaf_behind t (Test i) (Pattern (part (i + 1) p) ∷ such_pieces (i + 1 + length p) c) rest (refl, such_inner (i + 1 + length p) c) o r h
  shape_behind (within e) t i rest ns os x f o r h = shape_behind e t (i + 1) rest ns os x f o r h
  shape_behind (wrapped w e) t i rest ns os x f o r h =
      form_step refl (shape_behind e (is_top (word_at s i)) (i + 2) (Wrapped i ∷ rest) ns os r.0 f refl r.1
      (fault_same (append_assoc (pieces (i + 2) e) (Wrapped i ∷ []) rest) refl refl (form_step refl h)))
  shape_behind (marked e w) t i rest ns os x f o r h =
      let j = i + length (text e) in
      form_step refl (shape_behind e t i (Marked j ∷ rest) ns os r.0 f refl r.1 (fault_same (append_assoc (pieces i e) (Marked j ∷ []) rest) refl refl h))
  shape_behind (joined w e f) t i rest ns os x g o r h =
      let j = i + length (text e) in
      let last = pieces (j + 1) f ++ Joined j ∷ [] in
      let k = shape_behind e t i (last ++ rest) ns r.2 r.0 g (subst IsOuter (sym (append_assoc (pieces (j + 1) f) (Joined j ∷ []) rest)) (outer f (j + 1) (Joined j ∷ rest))) r.3
      (fault_same (append_assoc (pieces i e) last rest) refl refl h) in
      form_step refl (shape_behind f false (j + 1) (Joined j ∷ rest) r.2 os r.1 g refl r.4 (fault_same (append_assoc (pieces (j + 1) f) (Joined j ∷ []) rest) refl refl k))
  shape_behind (chosen e f d) t i rest ns os x g o r h =
      let j = i + length (text e) + 1 in
      let l = j + length (text f) + 1 in
      let later = pieces l d ++ Chosen ∷ [] in
      let last = pieces j f ++ later in
      let outer_later = subst IsOuter (sym (append_assoc (pieces l d) (Chosen ∷ []) rest)) (outer d l (Chosen ∷ rest)) in
      let k = shape_behind e t i (last ++ rest) ns r.3 r.0 g (subst IsOuter (sym (append_assoc (pieces j f) later rest)) (outer f j (later ++ rest))) r.5
      (fault_same (append_assoc (pieces i e) last rest) refl refl h) in
      let n = shape_behind f false j (later ++ rest) r.3 r.4 r.1 g outer_later r.6 (fault_same (append_assoc (pieces j f) later rest) refl refl k) in
      form_step refl (shape_behind d false l (Chosen ∷ rest) r.4 os r.2 g refl r.7 (fault_same (append_assoc (pieces l d) (Chosen ∷ []) rest) refl refl n))

  whole_none : (e : Shape) (ns os : Pairs) (x : StrategyOf) (f : StratFault) → ShapeReads s false 0 e ns os x → FirstFault s false (pieces 0 e) ns f → ⊥
  whole_none e ns os x f r h = nothing_first refl (shape_behind e false 0 [] ns os x f tt r (fault_same (sym (append-nil (pieces 0 e))) refl refl h))

  -- ---- strategies

  place_kept : (f : StratFault) → fault_place f ≡ fault_place (without_trees f)
  place_kept (TooManyTokens n) = refl
  place_kept (Unexpected n) = refl
  place_kept (UnknownName n) = refl
  place_kept (Parse n f) = refl
  place_kept (Arity n) = refl
  place_kept NoMemory = refl

  same_place : (f g : StratFault) → without_trees f ≡ without_trees g → fault_place f ≡ fault_place g
  same_place f g e = place_kept f ∙ (ap fault_place e ∙ sym (place_kept g))

  same_pieces : {ps qs : List Piece} → AreFirstPieces (texts s) ps → AreFirstPieces (texts s) qs → ps ≡ qs
  same_pieces a b = a.found ∙ sym b.found

  before_once : (ns : Pairs) (f g : StratFault) → IsBeforeUnexpected s ns f → IsBeforeUnexpected s ns g → without_trees f ≡ without_trees g
  before_once ns f g b c = first_once b.fault (fault_same (same_pieces c.before b.before) refl refl c.fault)

  before_not_at : (ns : Pairs) (i : ℕ) (f : StratFault) → IsBeforeUnexpected s ns f → IsFirstUnexpected s ns i → ⊥
  before_not_at ns i f b u = by u.no_other
    where
      same : b.place ≡ i
      same = one_fault (texts s) b.place i b.unexpected u.unexpected

      by : HasNoFault s false u.pieces ns ⊎ ((g : StratFault) × FirstFault s false u.pieces ns g × (start_at s i ≤ fault_place g)) → ⊥
      by (inl h) = none_first h (fault_same (same_pieces b.before u.before) refl refl b.fault)
      by (inr x) =
          let g = x.0 in
          let p = same_place f g (first_once b.fault (fault_same (same_pieces u.before b.before) refl refl x.1)) in
          let l : fault_place f < start_at s i = subst (λ j. fault_place f < start_at s j) same b.earlier in
          absurd (omega (arith, l, p, x.2))

  pub strategy_once : (ns os os' : Pairs) (r r' : Result StrategyOf StratFault) → StrategyRead s ns os r → StrategyRead s ns os' r' → told os r ≡ told os' r'
  strategy_once ns os os' q q' (reads e x l w r) (reads e' x' l' w' r') =
      let same = one_shape (texts s) e e' w w' in
      let one = shape_once e false 0 ns r (subst (λ z. ShapeReads s false 0 z ns os' x') (sym same) r') in
      ap₂ (λ x os. Ok (x, os)) one.strategy one.pairs
  strategy_once ns os os' q q' (reads e x l w r) (too_many l') = absurd (omega (arith, l, l'))
  strategy_once ns os os' q q' (reads e x l w r) (in_strategy e' f' l' w' u') =
      absurd (whole_none e ns os x f' r (subst (λ z. FirstFault s false (pieces 0 z) ns f') (one_shape (texts s) e' e w' w) u'))
  strategy_once ns os os' q q' (reads e x l w r) (before_unexpected f' l' b') = absurd (no_text (texts s) b'.place b'.unexpected e w)
  strategy_once ns os os' q q' (reads e x l w r) (at_unexpected i' l' u') = absurd (no_text (texts s) i' u'.unexpected e w)
  strategy_once ns os os' q q' (too_many l) (reads e' x' l' w' r') = absurd (omega (arith, l, l'))
  strategy_once ns os os' q q' (too_many l) (too_many l') = refl
  strategy_once ns os os' q q' (too_many l) (in_strategy e' f' l' w' u') = absurd (omega (arith, l, l'))
  strategy_once ns os os' q q' (too_many l) (before_unexpected f' l' b') = absurd (omega (arith, l, l'))
  strategy_once ns os os' q q' (too_many l) (at_unexpected i' l' u') = absurd (omega (arith, l, l'))
  strategy_once ns os os' q q' (in_strategy e f l w u) (reads e' x' l' w' r') =
      absurd (whole_none e' ns os' x' f r' (subst (λ z. FirstFault s false (pieces 0 z) ns f) (one_shape (texts s) e e' w w') u))
  strategy_once ns os os' q q' (in_strategy e f l w u) (too_many l') = absurd (omega (arith, l, l'))
  strategy_once ns os os' q q' (in_strategy e f l w u) (in_strategy e' f' l' w' u') =
      ap (λ f. Err f) (first_once u (subst (λ z. FirstFault s false (pieces 0 z) ns f') (one_shape (texts s) e' e w' w) u'))
  strategy_once ns os os' q q' (in_strategy e f l w u) (before_unexpected f' l' b') = absurd (no_text (texts s) b'.place b'.unexpected e w)
  strategy_once ns os os' q q' (in_strategy e f l w u) (at_unexpected i' l' u') = absurd (no_text (texts s) i' u'.unexpected e w)
  strategy_once ns os os' q q' (before_unexpected f l b) (reads e' x' l' w' r') = absurd (no_text (texts s) b.place b.unexpected e' w')
  strategy_once ns os os' q q' (before_unexpected f l b) (too_many l') = absurd (omega (arith, l, l'))
  strategy_once ns os os' q q' (before_unexpected f l b) (in_strategy e' f' l' w' u') = absurd (no_text (texts s) b.place b.unexpected e' w')
  strategy_once ns os os' q q' (before_unexpected f l b) (before_unexpected f' l' b') = ap (λ f. Err f) (before_once ns f f' b b')
  strategy_once ns os os' q q' (before_unexpected f l b) (at_unexpected i' l' u') = absurd (before_not_at ns i' f b u')
  strategy_once ns os os' q q' (at_unexpected i l u) (reads e' x' l' w' r') = absurd (no_text (texts s) i u.unexpected e' w')
  strategy_once ns os os' q q' (at_unexpected i l u) (too_many l') = absurd (omega (arith, l, l'))
  strategy_once ns os os' q q' (at_unexpected i l u) (in_strategy e' f' l' w' u') = absurd (no_text (texts s) i u.unexpected e' w')
  strategy_once ns os os' q q' (at_unexpected i l u) (before_unexpected f' l' b') = absurd (before_not_at ns i f' b' u)
  strategy_once ns os os' q q' (at_unexpected i l u) (at_unexpected i' l' u') =
      ap (λ j. Err (Unexpected (start_at s j))) (one_fault (texts s) i i' u.unexpected u'.unexpected)
