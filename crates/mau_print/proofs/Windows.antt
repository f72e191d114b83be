-- Some words at a place of a text, and what they read as there.
use Rattle.std.proofs.Common.{◌≡◌, ℕ, ◌+◌, ◌≤◌, List, [], ◌∷◌, ◌++◌, Some, slice_get, codes, length, refl, sym, ap, ◌∙◌, subst, append_assoc, arith}
use Rattle.std.proofs.lemmas.List.{length-append}
use Rattle.mau_terms.specs.Tree.{Tree}
use Rattle.mau_grammar.specs.declared.production.Part.{Part}
use Rattle.mau_grammar.specs.declared.production.Production.{Production}
use Rattle.mau_grammar.specs.declared.sorts.SortName.{SortName}
use Rattle.mau_grammar.specs.Production.{word, place, any, greatest_level}
use Rattle.mau_grammar.specs.Productions.{enclosed, sorted}
use Rattle.mau_grammar.specs.Grammar.{GrammarOf}
use Rattle.mau_grammar.specs.Trees.{made, reads_production, Spells, spells_nothing, spells_word, spells_place}
use Rattle.mau_print.specs.Words.{enclosed_words, with_mark, Window, ReadsHere}

seam : {A : Type 0} (xs : List A) (y : A) (ys : List A) → slice_get (xs ++ y ∷ ys) (length xs) ≡ Some y
seam [] y ys = refl
seam (x ∷ xs) y ys = seam xs y ys

pub window_first : (whole : List (List ℕ)) (i : ℕ) (w : List ℕ) (ws : List (List ℕ)) → Window whole i (w ∷ ws) → slice_get whole i ≡ Some w
window_first whole i w ws win = ap (λ vs. slice_get vs i) win.split ∙ ap (λ n. slice_get (win.front ++ w ∷ (ws ++ win.back)) n) (sym win.len) ∙ seam win.front w (ws ++ win.back)

pub window_front : (whole : List (List ℕ)) (i : ℕ) (us ws : List (List ℕ)) → Window whole i (us ++ ws) → Window whole i us
window_front whole i us ws win = record { front = win.front; back = ws ++ win.back; split = win.split ∙ ap (λ vs. win.front ++ vs) (append_assoc us ws win.back); len = win.len }

pub window_rest : (whole : List (List ℕ)) (i : ℕ) (us ws : List (List ℕ)) → Window whole i (us ++ ws) → Window whole (i + length us) ws
window_rest whole i us ws win = record {
  front = win.front ++ us;
  back = win.back;
  split = win.split ∙ ap (λ vs. win.front ++ vs) (append_assoc us ws win.back) ∙ sym (append_assoc win.front us (ws ++ win.back));
  len = omega (arith, length-append win.front us, win.len);
}

pub window_next : (whole : List (List ℕ)) (i : ℕ) (w : List ℕ) (ws : List (List ℕ)) → Window whole i (w ∷ ws) → Window whole (i + 1) ws
window_next whole i w ws win = window_rest whole i (w ∷ []) ws win

-- ---- what some words are, wherever they stand in the text

module _ (g : GrammarOf) (whole : List (List ℕ)) where
  abbrev pub SpellsHere : List Part → List (List ℕ) → List Tree → Type 0
  SpellsHere ps ws ts = (i : ℕ) → Window whole i ws → Spells g whole ps i (i + length ws) ts

  pub here_nothing : SpellsHere [] [] []
  here_nothing i win = let e : i ≡ i + length {A = List ℕ} [] = omega arith in subst (λ j. Spells g whole [] i j []) e (spells_nothing i)

  pub here_word : (w : List ℕ) (ps : List Part) (ws : List (List ℕ)) (ts : List Tree) → SpellsHere ps ws ts → SpellsHere (word w ∷ ps) (w ∷ ws) ts
  here_word w ps ws ts h i win =
      let e : i + 1 + length ws ≡ i + length (w ∷ ws) = omega arith in
      subst (λ j. Spells g whole (word w ∷ ps) i j ts) e (spells_word w ps i (window_first whole i w ws win) (h (i + 1) (window_next whole i w ws win)))

  pub here_place : (k u q : ℕ) (ps : List Part) (us ws : List (List ℕ)) (ts vs : List Tree) → ReadsHere g whole k q us ts → q ≤ u → SpellsHere ps ws vs → SpellsHere (place k u ∷ ps) (us ++ ws) (ts ++ vs)
  here_place k u q ps us ws ts vs r low h i win =
      let e : i + length us + length ws ≡ i + length (us ++ ws) = omega (arith, length-append us ws) in
      subst (λ j. Spells g whole (place k u ∷ ps) i j (ts ++ vs)) e (spells_place k u q ps (r i (window_front whole i us ws win)) low (h (i + length us) (window_rest whole i us ws win)))

  pub here_production : (n : ℕ) (p : Production) (ws : List (List ℕ)) (ts : List Tree) → slice_get g.productions n ≡ Some p → SpellsHere p.parts ws ts → ReadsHere g whole p.kind p.level ws (made p.op ts)
  here_production n p ws ts e h i win = reads_production n p e (h i win)

  -- in parentheses
  pub here_enclosed : (n k q : ℕ) (ws : List (List ℕ)) (t : Tree) → slice_get g.productions n ≡ Some (enclosed k) → ReadsHere g whole k q ws (t ∷ []) → q ≤ greatest_level → ReadsHere g whole k 0 (enclosed_words ws) (t ∷ [])
  here_enclosed n k q ws t e r low =
      here_production n (enclosed k) (enclosed_words ws) (t ∷ []) e
      (here_word (codes "(") (any k ∷ word (codes ")") ∷ []) (ws ++ codes ")" ∷ []) (t ∷ [])
      (here_place k greatest_level q (word (codes ")") ∷ []) ws (codes ")" ∷ []) (t ∷ []) [] r low (here_word (codes ")") [] [] [] here_nothing)))

  -- in parentheses, with the name of a sort behind
  pub here_sorted : (n q : ℕ) (a : SortName) (ws : List (List ℕ)) (t : Tree) → slice_get g.productions n ≡ Some (sorted a) → ReadsHere g whole a.kind q ws (t ∷ []) → q ≤ greatest_level → ReadsHere g whole a.kind 0 (with_mark ws a.name) (t ∷ [])
  here_sorted n q a ws t e r low =
      let end = codes ")" ∷ (codes "." ++ a.name) ∷ [] in
      let parts : SpellsHere (any a.kind ∷ word (codes ")") ∷ word (codes "." ++ a.name) ∷ []) (ws ++ end) (t ∷ []) =
      here_place a.kind greatest_level q (word (codes ")") ∷ word (codes "." ++ a.name) ∷ []) ws end (t ∷ []) [] r low
      (here_word (codes ")") (word (codes "." ++ a.name) ∷ []) ((codes "." ++ a.name) ∷ []) [] (here_word (codes "." ++ a.name) [] [] [] here_nothing)) in
      let all = here_production n (sorted a) (codes "(" ∷ (ws ++ end)) (t ∷ []) e (here_word (codes "(") (any a.kind ∷ word (codes ")") ∷ word (codes "." ++ a.name) ∷ []) (ws ++ end) (t ∷ []) parts) in
      let same : codes "(" ∷ (ws ++ end) ≡ with_mark ws a.name = ap (λ vs. codes "(" ∷ vs) (sym (append_assoc ws (codes ")" ∷ []) ((codes "." ++ a.name) ∷ []))) in
      subst (λ vs. ReadsHere g whole a.kind 0 vs (t ∷ [])) same all
