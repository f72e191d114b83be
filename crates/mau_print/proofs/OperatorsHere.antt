-- Operators over arguments that are read: forms without holes, arguments in parentheses, and lists.
use Rattle.std.proofs.Common.{◌≡◌, ◌≢◌, ℕ, ◌≤◌, List, [], ◌∷◌, ◌++◌, true, false, cond, codes, refl, sym, ap, subst, append_assoc, arith}
use Rattle.std.proofs.lemmas.List.{append-nil}
use Rattle.std.proofs.lemmas.List.Sums.{sum_by-cons}
use Rattle.mau_terms.specs.Tree.{Tree, node}
use Rattle.mau_terms.specs.Reading.{nest_from}
use Rattle.mau_signature.specs.declared.form.Piece.{Piece}
use Rattle.mau_signature.specs.declared.form.Piece.TheVariants.{Hole, Word}
use Rattle.mau_signature.specs.declared.decl.Decl.{Decl}
use Rattle.mau_signature.specs.Form.{is_hole, holes}
use Rattle.mau_grammar.specs.declared.production.Part.{Part}
use Rattle.mau_grammar.specs.declared.production.Production.{Production}
use Rattle.mau_grammar.specs.Production.{word, any, greatest_level, place_kinds}
use Rattle.mau_grammar.specs.Parts.{parts_from, words_of, listed, in_parentheses}
use Rattle.mau_grammar.specs.Productions.{operator, pair, enclosed}
use Rattle.mau_grammar.specs.Grammar.{GrammarOf}
use Rattle.mau_grammar.specs.Trees.{made}
use Rattle.mau_print.specs.Layouts.{form_words}
use Rattle.mau_print.specs.Words.{Phrase, phrase, enclosed_words, woven_words, ReadsHere, IsRead, AreRead}
use Rattle.mau_print.specs.Worded.{rest_words, nested_words}
use Rattle.mau_print.proofs.Windows.{SpellsHere, here_nothing, here_word, here_place, here_production}
use Rattle.mau_print.proofs.Weaving.{woven_here}
use Rattle.mau_print.proofs.Present.{IsPresent}

-- the same kind for each tree
abbrev pub copies : ℕ → List Tree → List ℕ
copies k [] = []
copies k (t ∷ ts) = k ∷ copies k ts

module _ (g : GrammarOf) (whole : List (List ℕ)) where
  -- the words of a form, before other parts
  pub words_here : (form : List Piece) (qs : List Part) (ws : List (List ℕ)) (ts : List Tree) → SpellsHere g whole qs ws ts → SpellsHere g whole (words_of form ++ qs) (form_words form ++ ws) ts
  words_here [] qs ws ts s = s
  words_here (Hole ∷ ps) qs ws ts s = words_here ps qs ws ts s
  words_here (Word w ∷ ps) qs ws ts s = here_word g whole w (words_of ps ++ qs) (form_words ps ++ ws) ts (words_here ps qs ws ts s)

  -- a form without holes
  pub plain_here : (d : Decl) (ks : List ℕ) (form : List Piece) (n : ℕ) → holes form ≡ 0 → SpellsHere g whole (parts_from d ks form n) (form_words form) []
  plain_here d ks [] n e = here_nothing g whole
  plain_here d ks (Hole ∷ ps) n e = absurd (omega (arith, e, sum_by-cons (λ p. cond (is_hole p) 1 0) Hole ps))
  plain_here d ks (Word w ∷ ps) n e =
      here_word g whole w (parts_from d ks ps n) (form_words ps) [] (plain_here d ks ps n (omega (arith, e, sum_by-cons (λ p. cond (is_hole p) 1 0) (Word w) ps)))

  -- arguments behind the first one
  arguments_here : (ks : List ℕ) (xs : List Phrase) (ts : List Tree) → AreRead g whole ks xs ts → SpellsHere g whole (listed false ks ++ word (codes ")") ∷ []) (rest_words false xs ++ codes ")" ∷ []) ts
  arguments_here [] [] [] r = here_word g whole (codes ")") [] [] [] (here_nothing g whole)
  arguments_here [] [] (t ∷ ts) r = absurd r
  arguments_here [] (x ∷ xs) ts r = absurd r
  arguments_here (k ∷ ks) [] ts r = absurd r
  arguments_here (k ∷ ks) (x ∷ xs) [] r = absurd r
  arguments_here (k ∷ ks) (x ∷ xs) (t ∷ ts) r =
      let end = codes ")" ∷ [] in
      let qs = listed false ks ++ word (codes ")") ∷ [] in
      let rest = rest_words false xs in
      subst (λ ws. SpellsHere g whole (word (codes ",") ∷ any k ∷ qs) ws (t ∷ ts)) (ap (λ ws. codes "," ∷ ws) (sym (append_assoc x.words rest end)))
      (here_word g whole (codes ",") (any k ∷ qs) (x.words ++ (rest ++ end)) (t ∷ ts)
      (here_place g whole k greatest_level x.level qs x.words (rest ++ end) (t ∷ []) ts r.0.reads r.0.level (arguments_here ks xs ts r.1)))

  -- all arguments in parentheses
  pub enclosed_here : (ks : List ℕ) (xs : List Phrase) (ts : List Tree) → ks ≢ [] → AreRead g whole ks xs ts → SpellsHere g whole (in_parentheses ks) (enclosed_words (rest_words true xs)) ts
  enclosed_here [] xs ts h r = absurd (h refl)
  enclosed_here (k ∷ ks) [] ts h r = absurd r
  enclosed_here (k ∷ ks) (x ∷ xs) [] h r = absurd r
  enclosed_here (k ∷ ks) (x ∷ xs) (t ∷ ts) h r =
      let end = codes ")" ∷ [] in
      let qs = listed false ks ++ word (codes ")") ∷ [] in
      let rest = rest_words false xs in
      subst (λ ws. SpellsHere g whole (word (codes "(") ∷ any k ∷ qs) ws (t ∷ ts)) (ap (λ ws. codes "(" ∷ ws) (sym (append_assoc x.words rest end)))
      (here_word g whole (codes "(") (any k ∷ qs) (x.words ++ (rest ++ end)) (t ∷ ts)
      (here_place g whole k greatest_level x.level qs x.words (rest ++ end) (t ∷ []) ts r.0.reads r.0.level (arguments_here ks xs ts r.1)))

  -- one term in parentheses that need not be one of a kind
  pub one_enclosed : (k q : ℕ) (ws : List (List ℕ)) (t : Tree) → ReadsHere g whole k q ws (t ∷ []) → q ≤ greatest_level → SpellsHere g whole (in_parentheses (k ∷ [])) (enclosed_words ws) (t ∷ [])
  one_enclosed k q ws t r low =
      here_word g whole (codes "(") (any k ∷ word (codes ")") ∷ []) (ws ++ codes ")" ∷ []) (t ∷ [])
      (here_place g whole k greatest_level q (word (codes ")") ∷ []) ws (codes ")" ∷ []) (t ∷ []) [] r low (here_word g whole (codes ")") [] [] [] (here_nothing g whole)))

  -- ---- lists of an associative operator in prefix form

  pub list_here : (f k l : ℕ) → IsPresent g.productions (pair f l k k) → IsPresent g.productions (pair f l k l) → (x y : Phrase) (zs : List Phrase) (t u : Tree) (us : List Tree) → AreRead g whole (copies k (t ∷ u ∷ us)) (x ∷ y ∷ zs) (t ∷ u ∷ us)
      → ReadsHere g whole l 1 (rest_words true (x ∷ y ∷ zs)) (nest_from f t (u ∷ us) ∷ [])
  list_here f k l two more x y [] t u [] r =
      here_production g whole two.0 (pair f l k k) (rest_words true (x ∷ y ∷ [])) (t ∷ u ∷ []) two.1
      (here_place g whole k greatest_level x.level (word (codes ",") ∷ any k ∷ []) x.words (codes "," ∷ (y.words ++ [])) (t ∷ []) (u ∷ []) r.0.reads r.0.level
      (here_word g whole (codes ",") (any k ∷ []) (y.words ++ []) (u ∷ [])
      (here_place g whole k greatest_level y.level [] y.words [] (u ∷ []) [] r.1.0.reads r.1.0.level (here_nothing g whole))))
  list_here f k l two more x y [] t u (v ∷ us) r = absurd r.1.1
  list_here f k l two more x y (z ∷ zs) t u [] r = absurd r.1.1
  list_here f k l two more x y (z ∷ zs) t u (v ∷ us) r =
      let ws = rest_words true (y ∷ z ∷ zs) in
      let inner : ReadsHere g whole l 1 ws (nest_from f u (v ∷ us) ∷ []) = list_here f k l two more y z zs u v us r.1 in
      let whole_list = here_production g whole more.0 (pair f l k l) (x.words ++ (codes "," ∷ (ws ++ []))) (t ∷ nest_from f u (v ∷ us) ∷ []) more.1
      (here_place g whole k greatest_level x.level (word (codes ",") ∷ any l ∷ []) x.words (codes "," ∷ (ws ++ [])) (t ∷ []) (nest_from f u (v ∷ us) ∷ []) r.0.reads r.0.level
      (here_word g whole (codes ",") (any l ∷ []) (ws ++ []) (nest_from f u (v ∷ us) ∷ [])
      (here_place g whole l greatest_level 1 [] ws [] (nest_from f u (v ∷ us) ∷ []) [] inner (omega arith) (here_nothing g whole)))) in
      subst (λ vs. ReadsHere g whole l 1 (x.words ++ (codes "," ∷ vs)) (nest_from f t (u ∷ v ∷ us) ∷ [])) (append-nil ws) whole_list

  -- ---- lists of an associative form

  module _ (p : Production) (f k : ℕ) (there : IsPresent g.productions p) (op : p.op ≡ operator f) (kind : p.kind ≡ k) (places : place_kinds p.parts ≡ k ∷ k ∷ []) (low : p.level ≤ greatest_level) (marks : IsPresent g.productions (enclosed k)) where
    two_read : (x y : Phrase) (t u : Tree) → IsRead g whole k x t → IsRead g whole k y u → IsRead g whole k (phrase p.level (woven_words p.parts (x ∷ y ∷ []))) (node f (t ∷ u ∷ []))
    two_read x y t u a b =
        let ws = woven_words p.parts (x ∷ y ∷ []) in
        let spelled = woven_here g whole p.parts (x ∷ y ∷ []) (t ∷ u ∷ []) (subst (λ ks. AreRead g whole ks (x ∷ y ∷ []) (t ∷ u ∷ [])) (sym places) (a, (b, tt))) in
        let reads = here_production g whole there.0 p ws (t ∷ u ∷ []) there.1 spelled in
        record {
          level = low;
          reads = subst (λ m. ReadsHere g whole m p.level ws (node f (t ∷ u ∷ []) ∷ [])) kind (subst (λ o. ReadsHere g whole p.kind p.level ws (made o (t ∷ u ∷ []))) op reads);
          parentheses = marks;
        }

    pub chain_read : (x y : Phrase) (zs : List Phrase) (t u : Tree) (us : List Tree) → AreRead g whole (copies k (t ∷ u ∷ us)) (x ∷ y ∷ zs) (t ∷ u ∷ us)
        → IsRead g whole k (phrase p.level (nested_words p.level p.parts (x ∷ y ∷ zs))) (nest_from f t (u ∷ us))
    chain_read x y [] t u [] r = two_read x y t u r.0 r.1.0
    chain_read x y [] t u (v ∷ us) r = absurd r.1.1
    chain_read x y (z ∷ zs) t u [] r = absurd r.1.1
    chain_read x y (z ∷ zs) t u (v ∷ us) r =
        two_read x (phrase p.level (nested_words p.level p.parts (y ∷ z ∷ zs))) t (nest_from f u (v ∷ us)) r.0 (chain_read y z zs u v us r.1)
