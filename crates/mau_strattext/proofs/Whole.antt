-- What pieces of a shape build is the strategy that the shape reads as.
use Rattle.std.proofs.Common.{◌≡◌, ℕ, ◌+◌, List, [], ◌∷◌, ◌++◌, Bool, true, false, Option, Some, None, length, refl, sym, subst, ap, ◌∙◌, append_assoc}
use Rattle.std.specs.Prelude.{if◌then◌else◌}
use Rattle.std.proofs.lemmas.List.{append-nil}
use Rattle.mau_program.specs.Trees.{StrategyOf, branch}
use Rattle.mau_statement.specs.Parts.{Pairs}
use Rattle.mau_shapes.specs.Words.{Words}
use Rattle.mau_shapes.specs.Shape.{Shape, plain, assigned, called, wrapped, within, tested, marked, joined, chosen, text, Use, SuchThat}
use Rattle.mau_shapes.specs.Pieces.{pieces, part, use_pieces, term_pieces, fragment_pieces, such_pieces}
use Rattle.mau_shapes.specs.declared.pieces.Piece.{Piece}
use Rattle.mau_shapes.specs.declared.pieces.Piece.TheVariants.{Plain, Label, Call, Called, Test, Pattern, Wrapper, Wrapped, Marked, Joined, Chosen}
use Rattle.mau_strattext.specs.Setting.{SettingOf, word_at}
use Rattle.mau_strattext.specs.Reads.{LeafReads, idle_reads, fail_reads, all_reads, label_reads, name_reads, assigned_reads, called_reads, test_reads, ShapeReads, is_top, wrapped_by, marked_by, joined_by}
use Rattle.mau_strattext.specs.Faults.{is_leaf, is_inner, inner, behind_inner, opens_top}
use Rattle.mau_strattext.specs.Building.{Makes, opens, wraps, marks, joins, chooses, Builds, nothing_more, leaf_more, form_more}

-- ---- pieces behind a word

abbrev pub AllInner : List Piece → Type 0
AllInner [] = Unit {0}
AllInner (p ∷ ps) = (is_inner p ≡ true) × AllInner ps

abbrev pub IsOuter : List Piece → Type 0
IsOuter [] = Unit {0}
IsOuter (p ∷ ps) = is_inner p ≡ false

pub inner_split : (us rest : List Piece) → AllInner us → IsOuter rest → inner (us ++ rest) ≡ us
inner_split [] [] a o = refl
inner_split [] (p ∷ ps) a o = ap (λ (b : Bool). if b then p ∷ inner ps else []) o
inner_split (u ∷ us) rest a o = ap (λ (b : Bool). if b then u ∷ inner (us ++ rest) else []) a.0 ∙ ap (λ zs. u ∷ zs) (inner_split us rest a.1 o)

pub behind_split : (us rest : List Piece) → AllInner us → IsOuter rest → behind_inner (us ++ rest) ≡ rest
behind_split [] [] a o = refl
behind_split [] (p ∷ ps) a o = ap (λ (b : Bool). if b then behind_inner ps else p ∷ ps) o
behind_split (u ∷ us) rest a o = ap (λ (b : Bool). if b then behind_inner (us ++ rest) else u ∷ (us ++ rest)) a.0 ∙ behind_split us rest a.1 o

pub uses_inner : (i : ℕ) (us : List Use) → AllInner (use_pieces i us)
uses_inner i [] = tt
uses_inner i (u ∷ us) = (refl, (refl, uses_inner (i + length u.0 + 1 + length u.1 + 1) us))

pub terms_inner : (i : ℕ) (ts : List Words) → AllInner (term_pieces i ts ++ Called ∷ [])
terms_inner i [] = (refl, tt)
terms_inner i (t ∷ ts) = (refl, terms_inner (i + length t + 1) ts)

fragments_inner : (i : ℕ) (ts : List Words) → AllInner (fragment_pieces i ts)
fragments_inner i [] = tt
fragments_inner i (t ∷ ts) = (refl, fragments_inner (i + length t + 1) ts)

pub such_inner : (i : ℕ) (c : Option SuchThat) → AllInner (such_pieces i c)
such_inner i None = tt
such_inner i (Some c) = fragments_inner (i + length c.0) c.1

-- pieces of a shape begin with a word
pub outer : (e : Shape) (i : ℕ) (rest : List Piece) → IsOuter (pieces i e ++ rest)
outer (plain w) i rest = refl
outer (assigned w us) i rest = refl
outer (called w ts) i rest = refl
outer (wrapped w e) i rest = refl
outer (within e) i rest = outer e (i + 1) rest
outer (tested w p c) i rest = refl
outer (marked e w) i rest =
    let j = i + length (text e) in
    subst IsOuter (sym (append_assoc (pieces i e) (Marked j ∷ []) rest)) (outer e i (Marked j ∷ rest))
outer (joined w e f) i rest =
    let j = i + length (text e) in
    let ps = pieces (j + 1) f ++ Joined j ∷ [] in
    subst IsOuter (sym (append_assoc (pieces i e) ps rest)) (outer e i (ps ++ rest))
outer (chosen e f g) i rest =
    let j = i + length (text e) + 1 in
    let ps = pieces j f ++ (pieces (j + length (text f) + 1) g ++ Chosen ∷ []) in
    subst IsOuter (sym (append_assoc (pieces i e) ps rest)) (outer e i (ps ++ rest))

-- ---- one piece

module _ (s : SettingOf) where
  pub leaf_is : {t : Bool} {p : Piece} {ps : List Piece} {ns os : Pairs} {x : StrategyOf} → LeafReads s t p ps ns os x → is_leaf p ≡ true
  leaf_is (idle_reads i ns e) = refl
  leaf_is (fail_reads i ns e) = refl
  leaf_is (all_reads i ns e) = refl
  leaf_is (label_reads i ns e l) = refl
  leaf_is (name_reads i ns d e f g) = refl
  leaf_is (assigned_reads i us ns os xs l u) = refl
  leaf_is (called_reads i ps ns os d bs e u) = refl
  leaf_is (test_reads i k p ps ns ms os b xs e u v) = refl

  makes_is : {p : Piece} {xs zs : List StrategyOf} → Makes s p xs zs → is_leaf p ≡ false
  makes_is (opens i xs) = refl
  makes_is (wraps i x y xs e) = refl
  makes_is (marks i x y xs e) = refl
  makes_is (joins i x y z xs e) = refl
  makes_is (chooses a b c xs) = refl

  record LeafThere (t : Bool) (p : Piece) (us rest : List Piece) (xs : List StrategyOf) (ns : Pairs) (ys : List StrategyOf) (os : Pairs) : Type 0 where
    strategy : StrategyOf
    middle : Pairs
    reads : LeafReads s t p us ns middle strategy
    builds : Builds s false rest (strategy ∷ xs) middle ys os

  leaf_of : {t : Bool} {p : Piece} {ps : List Piece} {xs ys : List StrategyOf} {ns os : Pairs} → is_leaf p ≡ true → Builds s t (p ∷ ps) xs ns ys os
      → LeafThere t p (inner ps) (behind_inner ps) xs ns ys os
  leaf_of l (leaf_more t p ps xs ys ns ms os x r b) = record { strategy = x; middle = ms; reads = r; builds = b }
  leaf_of l (form_more t p ps xs zs ys ns os m b) = let no : true ≡ false = sym l ∙ makes_is m in absurd (cc no)

  leaf_there : (t : Bool) (p : Piece) (ps : List Piece) (xs ys : List StrategyOf) (ns os : Pairs) → is_leaf p ≡ true → Builds s t (p ∷ ps) xs ns ys os
      → LeafThere t p (inner ps) (behind_inner ps) xs ns ys os
  leaf_there t p ps xs ys ns os l b = leaf_of l b

  record FormThere (t : Bool) (p : Piece) (ps : List Piece) (xs : List StrategyOf) (ns : Pairs) (ys : List StrategyOf) (os : Pairs) : Type 0 where
    stack : List StrategyOf
    makes : Makes s p xs stack
    builds : Builds s (opens_top s p) ps stack ns ys os

  form_of : {t : Bool} {p : Piece} {ps : List Piece} {xs ys : List StrategyOf} {ns os : Pairs} → is_leaf p ≡ false → Builds s t (p ∷ ps) xs ns ys os
      → FormThere t p ps xs ns ys os
  form_of l (leaf_more t p ps xs ys ns ms os x r b) = let no : true ≡ false = sym (leaf_is r) ∙ l in absurd (cc no)
  form_of l (form_more t p ps xs zs ys ns os m b) = record { stack = zs; makes = m; builds = b }

  form_there : (t : Bool) (p : Piece) (ps : List Piece) (xs ys : List StrategyOf) (ns os : Pairs) → is_leaf p ≡ false → Builds s t (p ∷ ps) xs ns ys os
      → FormThere t p ps xs ns ys os
  form_there t p ps xs ys ns os l b = form_of l b

  leaf_whole : (t : Bool) (p : Piece) (us rest : List Piece) (xs ys : List StrategyOf) (ns os : Pairs) → is_leaf p ≡ true → AllInner us → IsOuter rest
      → Builds s t (p ∷ (us ++ rest)) xs ns ys os → LeafThere t p us rest xs ns ys os
  leaf_whole t p us rest xs ys ns os l a o b =
      subst (λ zs. LeafThere t p zs rest xs ns ys os) (inner_split us rest a o)
      (subst (λ zs. LeafThere t p (inner (us ++ rest)) zs xs ns ys os) (behind_split us rest a o) (leaf_there t p (us ++ rest) xs ys ns os l b))

  -- ---- forms

  record ShapeThere (t : Bool) (i : ℕ) (e : Shape) (rest : List Piece) (xs : List StrategyOf) (ns : Pairs) (ys : List StrategyOf) (os : Pairs) : Type 0 where
    strategy : StrategyOf
    middle : Pairs
    reads : ShapeReads s t i e ns middle strategy
    builds : Builds s false rest (strategy ∷ xs) middle ys os

  -- what a piece makes of a stack that is known
  opened : {i : ℕ} {xs zs : List StrategyOf} → Makes s (Wrapper i) xs zs → zs ≡ xs
  opened (opens i xs) = refl

  wrapped_of : {i : ℕ} {y : StrategyOf} {xs zs : List StrategyOf} → Makes s (Wrapped i) (y ∷ xs) zs
      → (x : StrategyOf) × (wrapped_by (word_at s i) y ≡ Some x) × (zs ≡ x ∷ xs)
  wrapped_of (wraps i y x xs e) = (x, e, refl)

  marked_of : {i : ℕ} {y : StrategyOf} {xs zs : List StrategyOf} → Makes s (Marked i) (y ∷ xs) zs
      → (x : StrategyOf) × (marked_by (word_at s i) y ≡ Some x) × (zs ≡ x ∷ xs)
  marked_of (marks i y x xs e) = (x, e, refl)

  joined_of : {i : ℕ} {y z : StrategyOf} {xs zs : List StrategyOf} → Makes s (Joined i) (z ∷ y ∷ xs) zs
      → (x : StrategyOf) × (joined_by (word_at s i) y z ≡ Some x) × (zs ≡ x ∷ xs)
  joined_of (joins i y z x xs e) = (x, e, refl)

  chosen_of : {a b c : StrategyOf} {xs zs : List StrategyOf} → Makes s Chosen (c ∷ b ∷ a ∷ xs) zs → zs ≡ branch a b c ∷ xs
  chosen_of (chooses a b c xs) = refl

  on : {t : Bool} {ps : List Piece} {xs zs ys : List StrategyOf} {ns os : Pairs} → zs ≡ xs → Builds s t ps zs ns ys os → Builds s t ps xs ns ys os
  on {t} {ps} {xs} {zs} {ys} {ns} {os} e b = subst (λ ws. Builds s t ps ws ns ys os) e b

  by_pieces : {t : Bool} {ps qs : List Piece} {xs ys : List StrategyOf} {ns os : Pairs} → ps ≡ qs → Builds s t ps xs ns ys os → Builds s t qs xs ns ys os
  by_pieces {t} {ps} {qs} {xs} {ys} {ns} {os} e b = subst (λ ws. Builds s t ws xs ns ys os) e b

  whole : (e : Shape) (t : Bool) (i : ℕ) (rest : List Piece) (xs ys : List StrategyOf) (ns os : Pairs) → IsOuter rest → Builds s t (pieces i e ++ rest) xs ns ys os
      → ShapeThere t i e rest xs ns ys os
  whole (plain w) t i rest xs ys ns os o b =
      let h = leaf_whole t (Plain i) [] rest xs ys ns os refl tt o b in
      record { strategy = h.strategy; middle = h.middle; reads = h.reads; builds = h.builds }
  whole (assigned w us) t i rest xs ys ns os o b =
      let h = leaf_whole t (Label i) (use_pieces (i + 2) us) rest xs ys ns os refl (uses_inner (i + 2) us) o b in
      record { strategy = h.strategy; middle = h.middle; reads = h.reads; builds = h.builds }
  whole (called w ts) t i rest xs ys ns os o b =
      let h = leaf_whole t (Call i) (term_pieces (i + 2) ts ++ Called ∷ []) rest xs ys ns os refl (terms_inner (i + 2) ts) o b in
      record { strategy = h.strategy; middle = h.middle; reads = h.reads; builds = h.builds }
  whole (tested w p c) t i rest xs ys ns os o b =
      let us = Pattern (part (i + 1) p) ∷ such_pieces (i + 1 + length p) c in
      let h = leaf_whole t (Test i) us rest xs ys ns os refl (refl, such_inner (i + 1 + length p) c) o b in
      record { strategy = h.strategy; middle = h.middle; reads = h.reads; builds = h.builds }
  whole (within e) t i rest xs ys ns os o b =
      let h = whole e t (i + 1) rest xs ys ns os o b in
      record { strategy = h.strategy; middle = h.middle; reads = h.reads; builds = h.builds }
  whole (wrapped w e) t i rest xs ys ns os o b =
      let f = form_there t (Wrapper i) (pieces (i + 2) e ++ Wrapped i ∷ [] ++ rest) xs ys ns os refl b in
      let h = whole e (is_top (word_at s i)) (i + 2) (Wrapped i ∷ rest) xs ys ns os refl
      (by_pieces (append_assoc (pieces (i + 2) e) (Wrapped i ∷ []) rest) (on (opened f.makes) f.builds)) in
      let g = form_there false (Wrapped i) rest (h.strategy ∷ xs) ys h.middle os refl h.builds in
      let m = wrapped_of g.makes in
      record { strategy = m.0; middle = h.middle; reads = (h.strategy, h.reads, m.1); builds = on m.2 g.builds }
  whole (marked e w) t i rest xs ys ns os o b =
      let j = i + length (text e) in
      let h = whole e t i (Marked j ∷ rest) xs ys ns os refl (by_pieces (append_assoc (pieces i e) (Marked j ∷ []) rest) b) in
      let g = form_there false (Marked j) rest (h.strategy ∷ xs) ys h.middle os refl h.builds in
      let m = marked_of g.makes in
      record { strategy = m.0; middle = h.middle; reads = (h.strategy, h.reads, m.1); builds = on m.2 g.builds }
  whole (joined w e f) t i rest xs ys ns os o b =
      let j = i + length (text e) in
      let last = pieces (j + 1) f ++ Joined j ∷ [] in
      let h = whole e t i (last ++ rest) xs ys ns os (subst IsOuter (sym (append_assoc (pieces (j + 1) f) (Joined j ∷ []) rest)) (outer f (j + 1) (Joined j ∷ rest)))
      (by_pieces (append_assoc (pieces i e) last rest) b) in
      let k = whole f false (j + 1) (Joined j ∷ rest) (h.strategy ∷ xs) ys h.middle os refl
      (by_pieces (append_assoc (pieces (j + 1) f) (Joined j ∷ []) rest) h.builds) in
      let g = form_there false (Joined j) rest (k.strategy ∷ h.strategy ∷ xs) ys k.middle os refl k.builds in
      let m = joined_of g.makes in
      record { strategy = m.0; middle = k.middle; reads = (h.strategy, k.strategy, h.middle, h.reads, k.reads, m.1); builds = on m.2 g.builds }
  whole (chosen e f d) t i rest xs ys ns os o b =
      let j = i + length (text e) + 1 in
      let l = j + length (text f) + 1 in
      let later = pieces l d ++ Chosen ∷ [] in
      let last = pieces j f ++ later in
      let outer_later = subst IsOuter (sym (append_assoc (pieces l d) (Chosen ∷ []) rest)) (outer d l (Chosen ∷ rest)) in
      let h = whole e t i (last ++ rest) xs ys ns os (subst IsOuter (sym (append_assoc (pieces j f) later rest)) (outer f j (later ++ rest)))
      (by_pieces (append_assoc (pieces i e) last rest) b) in
      let k = whole f false j (later ++ rest) (h.strategy ∷ xs) ys h.middle os outer_later (by_pieces (append_assoc (pieces j f) later rest) h.builds) in
      let n = whole d false l (Chosen ∷ rest) (k.strategy ∷ h.strategy ∷ xs) ys k.middle os refl
      (by_pieces (append_assoc (pieces l d) (Chosen ∷ []) rest) k.builds) in
      let g = form_there false Chosen rest (n.strategy ∷ k.strategy ∷ h.strategy ∷ xs) ys n.middle os refl n.builds in
      record {
        strategy = branch h.strategy k.strategy n.strategy;
        middle = n.middle;
        reads = (h.strategy, k.strategy, n.strategy, h.middle, k.middle, h.reads, k.reads, n.reads, refl);
        builds = on (chosen_of g.makes) g.builds;
      }

  -- a whole strategy, on an empty stack
  pub record StrategyThere (e : Shape) (ns : Pairs) (ys : List StrategyOf) (os : Pairs) : Type 0 where
    pub strategy : StrategyOf
    pub reads : ShapeReads s false 0 e ns os strategy
    pub alone : ys ≡ strategy ∷ []

  ended : {t : Bool} {xs ys : List StrategyOf} {ns os : Pairs} → Builds s t [] xs ns ys os → (ys ≡ xs) × (ns ≡ os)
  ended (nothing_more t xs ns) = (refl, refl)

  pub whole_strategy : (e : Shape) (ns os : Pairs) (ys : List StrategyOf) → Builds s false (pieces 0 e) [] ns ys os → StrategyThere e ns ys os
  whole_strategy e ns os ys b =
      let h = whole e false 0 [] [] ys ns os tt (by_pieces (sym (append-nil (pieces 0 e))) b) in
      let f = ended h.builds in
      record { strategy = h.strategy; reads = subst (λ ms. ShapeReads s false 0 e ns ms h.strategy) f.1 h.reads; alone = f.0 }
