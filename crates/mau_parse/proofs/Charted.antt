-- What a chart reads is what the productions yield.
use Rattle.std.proofs.Common.{◌≡◌, ℕ, zero, suc, ◌+◌, ◌≤◌, List, [], ◌∷◌, ◌++◌, length, Bool, true, false, Option, Some, None, add-one, refl, sym, ◌∙◌, ap, subst, arith, if◌then◌else◌, bytes_eq, slice_get}
use Rattle.std.proofs.lemmas.Slice.Eq.{bytes_eq-Decides}
use Rattle.std.proofs.lemmas.Option.{same_Some, none-some}
use Rattle.std.specs.Str.Parse.{digits_value}
use Rattle.mau_terms.specs.Tree.{Tree, variable, numeral}
use Rattle.mau_terms.specs.declared.ids.OpId.{OpId}
use Rattle.mau_grammar.specs.declared.production.Part.{Part}
use Rattle.mau_grammar.specs.declared.production.Part.TheVariants.{Word, Hole as Place}
use Rattle.mau_grammar.specs.Production.{word}
use Rattle.mau_grammar.specs.Grammar.{GrammarOf}
use Rattle.mau_grammar.specs.Trees.{made, Reads, reads_numeral, reads_variable, reads_production, Spells, spells_nothing, spells_word, spells_place}
use Rattle.mau_chart.specs.declared.grammar.Piece.{Piece}
use Rattle.mau_chart.specs.declared.grammar.Production.{Production}
use Rattle.mau_chart.specs.declared.grammar.Leaf.{Leaf}
use Rattle.mau_chart.specs.declared.grammar.Said.TheVariants.{Word as Silent, Var, Num}
use Rattle.mau_chart.specs.Reads.{said_trees, made as made_by, Reads as Charts, leaf_read, form_read, Spells as Lines, nothing_spelled, piece_spelled}
use Rattle.mau_parse.specs.Charted.{word_number, kind_number, ArePiecesOf, AreThere, AreFormsOf, leaf, IsLeafOf, word_leaf, numeral_leaf, variable_leaf, AreLeavesOf}
use Rattle.mau_parse.specs.VariableIds.{var_id}

-- ---- words by their numbers

pub word_number-small : (ws : List (List ℕ)) (w : List ℕ) → word_number ws w ≤ length ws
word_number-small [] w = omega arith
word_number-small (v ∷ ws) w = by (bytes_eq v w) (word_number-small ws w)
  where
    by : (b : Bool) → word_number ws w ≤ length ws → (if b then 0 else word_number ws w + 1) ≤ length (v ∷ ws)
    by true h = omega arith
    by false h = omega (arith, h)

same_bytes : (v w : List ℕ) → bytes_eq v w ≡ true → v ≡ w
same_bytes v w e = (bytes_eq-Decides v w).0 e

itself : (w : List ℕ) → bytes_eq w w ≡ true
itself w = (bytes_eq-Decides w w).1 refl

-- a word that some token reads is at its number
pub word_number-at : (ws : List (List ℕ)) (i : ℕ) (w : List ℕ) → slice_get ws i ≡ Some w → slice_get ws (word_number ws w) ≡ Some w
word_number-at [] i w e = absurd (none-some w e)
word_number-at (v ∷ ws) zero w e = by (bytes_eq v w) refl
  where
    by : (b : Bool) → bytes_eq v w ≡ b → slice_get (v ∷ ws) (if b then 0 else word_number ws w + 1) ≡ Some w
    by true q = e
    by false q = absurd (never (sym q ∙ ap (λ z. bytes_eq z w) (same_Some v w e) ∙ itself w))
      where
        never : false ≡ true → ⊥
        never z = cc
word_number-at (v ∷ ws) (suc i) w e = by (bytes_eq v w) refl (word_number-at ws i w e)
  where
    by : (b : Bool) → bytes_eq v w ≡ b → slice_get ws (word_number ws w) ≡ Some w → slice_get (v ∷ ws) (if b then 0 else word_number ws w + 1) ≡ Some w
    by true q h = ap Some (same_bytes v w q)
    by false q h = ap (slice_get (v ∷ ws)) (add-one (word_number ws w)) ∙ h

-- and no other word has this number
same_number : (us : List (List ℕ)) (v w : List ℕ) (n : ℕ) → word_number us v ≡ n → n ≡ word_number us w → slice_get us n ≡ Some v → v ≡ w
same_number [] v w n p q r = absurd (none-some v r)
same_number (u ∷ us) v w n p q r = by (bytes_eq u v) (bytes_eq u w) refl refl p q (λ x y. same_number us v w (word_number us v) refl x y)
  where
    by : (b c : Bool) → bytes_eq u v ≡ b → bytes_eq u w ≡ c → (if b then 0 else word_number us v + 1) ≡ n → n ≡ (if c then 0 else word_number us w + 1)
        → (word_number us v ≡ word_number us w → slice_get us (word_number us v) ≡ Some v → v ≡ w) → v ≡ w
    by true true x y z t h = sym (same_bytes u v x) ∙ same_bytes u w y
    by true false x y z t h = absurd (omega (arith, z, t))
    by false true x y z t h = absurd (omega (arith, z, t))
    by false false x y z t h = h (omega (arith, z, t)) (ap (slice_get (u ∷ us)) (sym (add-one (word_number us v)) ∙ z) ∙ r)

pub word_number-one : (ws : List (List ℕ)) (i : ℕ) (v w : List ℕ) → slice_get ws i ≡ Some v → word_number ws v ≡ word_number ws w → v ≡ w
word_number-one ws i v w e h = same_number ws v w (word_number ws v) refl h (word_number-at ws i v e)

-- ---- productions

-- what spells something is there
spells_there : (g : GrammarOf) (ws : List (List ℕ)) (ps : List Part) (i j : ℕ) (ts : List Tree) → Spells g ws ps i j ts → AreThere ws ps
spells_there g ws ps i j ts (spells_nothing h) = tt
spells_there g ws ps i j ts (spells_word w rs h {j = b} {ts = us} e s) = ((h, e), spells_there g ws rs (h + 1) b us s)
spells_there g ws ps i j ts (spells_place k u q rs {i = h} {m = m} {j = b} {ts = vs} {us = us} r l s) = (tt, spells_there g ws rs m b us s)

made_same : (o : Option OpId) (ts : List Tree) → made_by o ts ≡ made o ts
made_same None ts = refl
made_same (Some f) ts = refl

module _ (g : GrammarOf) (ws : List (List ℕ)) (qs : List Production) (ls : List Leaf) (forms : AreFormsOf ws g.productions qs) (leaves : AreLeavesOf g ws ls) where
  -- ---- what is yielded is in the chart
  leaf_charts : (l : Leaf) → IsLeafOf g ws l → Charts qs ls l.kind l.level l.start l.end (said_trees l.said)
  leaf_charts l h = let x = leaves.all l h in leaf_read x.0 l x.1

  mutual
    pub reads_charts : (k q i j : ℕ) (ts : List Tree) → Reads g ws k q i j ts → Charts qs ls (kind_number ws k) q i j ts
    reads_charts k q i j ts (reads_numeral h m w e f x) = leaf_charts (leaf (kind_number ws m) 1 h (h + 1) (Num (digits_value 10 w))) (numeral_leaf h m w e f x)
    reads_charts k q i j ts (reads_variable h m n r e f) = leaf_charts (leaf (kind_number ws r.kind) 1 h r.end (Var (var_id n r.sort))) (variable_leaf h m n r e f)
    reads_charts k q i j ts (reads_production n p {i = a} {j = b} {ts = us} e s) =
        let there = forms.all n p e (spells_there g ws p.parts a b us s) in
        let q = there.1 in
        let form = there.3 in
        let r : Charts qs ls q.kind q.level a b (made_by q.op us) = form_read there.0 q there.2 (spells_lines p.parts a b us s q.pieces.items form.pieces) in
        let r2 : Charts qs ls (kind_number ws p.kind) q.level a b (made_by q.op us) = subst (λ z. Charts qs ls z q.level a b (made_by q.op us)) form.kind r in
        let r3 : Charts qs ls (kind_number ws p.kind) p.level a b (made_by q.op us) = subst (λ z. Charts qs ls (kind_number ws p.kind) z a b (made_by q.op us)) form.level r2 in
        subst (λ z. Charts qs ls (kind_number ws p.kind) p.level a b z) (ap (λ o. made_by o us) form.op ∙ made_same p.op us) r3

    spells_lines : (ps : List Part) (i j : ℕ) (ts : List Tree) → Spells g ws ps i j ts → (cs : List Piece) → ArePiecesOf ws ps cs → Lines qs ls cs i j ts
    spells_lines ps i j ts (spells_nothing h) [] a = nothing_spelled h
    spells_lines ps i j ts (spells_nothing h) (c ∷ cs) a = absurd a
    spells_lines ps i j ts (spells_word w rs h e s) [] a = absurd a
    spells_lines ps i j ts (spells_word w rs h {j = b} {ts = us} e s) (c ∷ cs) a =
        let r : Charts qs ls (word_number ws w) 0 h (h + 1) [] = leaf_charts (leaf (word_number ws w) 0 h (h + 1) Silent) (word_leaf h w e) in
        piece_spelled c cs 0 (subst (λ z. Charts qs ls z 0 h (h + 1) []) (sym a.0) r) (omega arith) (spells_lines rs (h + 1) b us s cs a.1)
    spells_lines ps i j ts (spells_place k u q rs r l s) [] a = absurd a
    spells_lines ps i j ts (spells_place k u q rs {i = h} {m = m} {j = b} {ts = vs} {us = us} r l s) (c ∷ cs) a =
        piece_spelled c cs q (subst (λ z. Charts qs ls z q h m vs) (sym a.0.0) (reads_charts k q h m vs r)) (omega (arith, l, a.0.1)) (spells_lines rs m b us s cs a.1)

  -- ---- what is in the chart is yielded: a term where the kind is one of terms, and a word where it is that of a word
  pub record Means (k q i j : ℕ) (ts : List Tree) : Type 0 where
    pub term : (m : ℕ) → k ≡ kind_number ws m → Reads g ws m q i j ts
    pub word : (w : List ℕ) → k ≡ word_number ws w → (slice_get ws i ≡ Some w) × (j ≡ i + 1) × (ts ≡ [])

  no_word : (m : ℕ) (w : List ℕ) → kind_number ws m ≡ word_number ws w → ⊥
  no_word m w e = omega (arith, e, word_number-small ws w)

  leaf_means : (l : Leaf) → IsLeafOf g ws l → Means l.kind l.level l.start l.end (said_trees l.said)
  leaf_means l (word_leaf i w e) = record {
    term = λ m h. absurd (no_word m w (sym h));
    word = λ v h. (e ∙ ap Some (word_number-one ws i w v e h), refl, refl);
  }
  leaf_means l (numeral_leaf i k w e f x) = record {
    term = λ m h. let z : k ≡ m = omega (arith, h) in subst (λ y. Reads g ws y 1 i (i + 1) (numeral (digits_value 10 w) ∷ [])) z (reads_numeral i k w e f x);
    word = λ v h. absurd (no_word k v h);
  }
  leaf_means l (variable_leaf i m n r e f) = record {
    term = λ y h. let z : r.kind ≡ y = omega (arith, h) in subst (λ v. Reads g ws v 1 i r.end (variable n r.sort ∷ [])) z (reads_variable i m n r e f);
    word = λ v h. absurd (no_word r.kind v h);
  }

  mutual
    pub charts_mean : (k q i j : ℕ) (ts : List Tree) → Charts qs ls k q i j ts → Means k q i j ts
    charts_mean k q i j ts (leaf_read n l e) = leaf_means l (leaves.right n l e)
    charts_mean k q i j ts (form_read n p {i = a} {j = b} {ts = us} e s) =
        let back = forms.right n p e in
        let w = back.1 in
        let form = back.3 in
        let r : Reads g ws w.kind w.level a b (made w.op us) = reads_production back.0 w back.2 (lines_spell p.pieces.items a b us s w.parts form.pieces) in
        let r2 : Reads g ws w.kind p.level a b (made_by p.op us) = subst (λ z. Reads g ws w.kind p.level a b z) (sym (made_same w.op us) ∙ ap (λ o. made_by o us) (sym form.op)) (subst (λ z. Reads g ws w.kind z a b (made w.op us)) (sym form.level) r) in
        record {
          term = λ m h. let z : w.kind ≡ m = omega (arith, h, form.kind) in subst (λ y. Reads g ws y p.level a b (made_by p.op us)) z r2;
          word = λ v h. absurd (no_word w.kind v (sym form.kind ∙ h));
        }

    lines_spell : (cs : List Piece) (i j : ℕ) (ts : List Tree) → Lines qs ls cs i j ts → (ps : List Part) → ArePiecesOf ws ps cs → Spells g ws ps i j ts
    lines_spell cs i j ts (nothing_spelled h) [] a = spells_nothing h
    lines_spell cs i j ts (nothing_spelled h) (p ∷ ps) a = absurd a
    lines_spell cs i j ts (piece_spelled c ds q r l s) [] a = absurd a
    lines_spell cs i j ts (piece_spelled c ds q {i = h} {m = m} {j = b} {ts = vs} {us = us} r l s) (Word w ∷ ps) a =
        let x = (charts_mean c.kind q h m vs r).word w a.0 in
        let y : Spells g ws ps (h + 1) b us = subst (λ z. Spells g ws ps z b us) x.1 (lines_spell ds m b us s ps a.1) in
        subst (λ z. Spells g ws (word w ∷ ps) h b (z ++ us)) (sym x.2) (spells_word w ps h x.0 y)
    lines_spell cs i j ts (piece_spelled c ds q {i = h} {m = m} {j = b} {ts = vs} {us = us} r l s) (Place p ∷ ps) a =
        spells_place p.kind p.upto q ps ((charts_mean c.kind q h m vs r).term p.kind a.0.0) (omega (arith, l, a.0.1)) (lines_spell ds m b us s ps a.1)
