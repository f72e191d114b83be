-- A term has one tree.
use Rattle.std.proofs.Common.{◌≡◌, ℕ, ◌+◌, ◌-◌, List, [], ◌∷◌, length, cond, Option, Some, None, All, refl, sym, ◌∙◌, ap, subst, arith, slice_get, length-append}
use Rattle.std.proofs.lemmas.List.Sums.{sum_by-cons}
use Rattle.std.proofs.lemmas.Option.{slice_get_within, slice_get-get_or, same_Some}
use Rattle.mau_terms.specs.Tree.{Tree, node}
use Rattle.mau_terms.specs.declared.ids.OpId.{OpId}
use Rattle.mau_grammar.specs.declared.production.Part.{Part}
use Rattle.mau_grammar.specs.declared.production.Production.{Production as Written}
use Rattle.mau_grammar.specs.Production.{word, place, is_place, places, IsShaped}
use Rattle.mau_grammar.specs.Grammar.{GrammarOf}
use Rattle.mau_grammar.specs.Trees.{made, Reads, reads_numeral, reads_variable, reads_production, Spells, spells_nothing, spells_word, spells_place}
use Rattle.mau_chart.specs.Goal.{ReadsAs}
use Rattle.mau_chart.specs.Reads.{Reads as Charts}
use Rattle.mau_parse.specs.Charted.{kind_number}
use Rattle.mau_parse.specs.Laws.{IsOneTree, ChartsReadTrees}
use Rattle.mau_parse.proofs.Charted.{reads_charts, charts_mean}

pub shape_at : (ps : List Written) → All IsShaped ps → (n : ℕ) (p : Written) → slice_get ps n ≡ Some p → IsShaped p
shape_at ps a n p e =
    let h = slice_get_within ps n p e in
    subst IsShaped (same_Some _ p (sym (slice_get-get_or ps n p h) ∙ e)) (a n p h)

abbrev pub IsOne : List Tree → Type 0
IsOne ts = (t : Tree) × (ts ≡ t ∷ [])

one_of_length : (ts : List Tree) → length ts ≡ 1 → IsOne ts
one_of_length [] e = absurd (omega (arith, e))
one_of_length (t ∷ []) e = (t, refl)
one_of_length (t ∷ u ∷ ts) e = absurd (omega (arith, e))

made_one : (o : Option OpId) (ts : List Tree) → (o ≡ None → length ts ≡ 1) → IsOne (made o ts)
made_one None ts h = one_of_length ts (h refl)
made_one (Some f) ts h = (node f.0 ts, refl)

places-word : (w : List ℕ) (ps : List Part) → places (word w ∷ ps) ≡ places ps
places-word w ps = omega (arith, sum_by-cons (λ p. cond (is_place p) 1 0) (word w) ps)

places-place : (k u : ℕ) (ps : List Part) → places (place k u ∷ ps) ≡ places ps + 1
places-place k u ps = omega (arith, sum_by-cons (λ p. cond (is_place p) 1 0) (place k u) ps)

module _ (g : GrammarOf) (ws : List (List ℕ)) (shaped : All IsShaped g.productions) where
  mutual
    pub reads_one : (k q i j : ℕ) (ts : List Tree) → Reads g ws k q i j ts → IsOne ts
    reads_one k q i j ts (reads_numeral h m w e f x) = (_, refl)
    reads_one k q i j ts (reads_variable h m n r e f) = (_, refl)
    reads_one k q i j ts (reads_production n p {i = a} {j = b} {ts = us} e s) =
        let c = spells_counts p.parts a b us s in
        made_one p.op us (λ o. c ∙ (shape_at g.productions shaped n p e).one o)

    spells_counts : (ps : List Part) (i j : ℕ) (ts : List Tree) → Spells g ws ps i j ts → length ts ≡ places ps
    spells_counts ps i j ts (spells_nothing h) = refl
    spells_counts ps i j ts (spells_word w rs h {j = b} {ts = us} e s) = omega (arith, spells_counts rs (h + 1) b us s, places-word w rs)
    spells_counts ps i j ts (spells_place k u q rs {i = h} {m = m} {j = b} {ts = vs} {us = us} r l s) =
        let x = reads_one k q h m vs r in
        omega (arith, spells_counts rs m b us s, places-place k u rs, length-append vs us, ap length x.1)

pub charts_read_trees : ChartsReadTrees
charts_read_trees g ws qs ls shaped forms leaves low high us = (forth, back)
  where
    n : ℕ
    n = length ws

    forth : ReadsAs qs ls (length ws) (kind_number ws low) (kind_number ws high) us → IsOneTree g ws low high us
    forth h =
        let m = h.0 - (length ws + 1) in
        let e : h.0 ≡ kind_number ws m = omega (arith, h.2) in
        let r : Reads g ws m h.1 0 (length ws) us = (charts_mean g ws qs ls forms leaves h.0 h.1 0 (length ws) us h.4).term m e in
        let x = reads_one g ws shaped m h.1 0 (length ws) us r in
        (x.0, x.1, record { kind = m; level = h.1; from = omega (arith, h.2, e); to = omega (arith, h.3, e); reads = subst (Reads g ws m h.1 0 (length ws)) x.1 r })

    back : IsOneTree g ws low high us → ReadsAs qs ls (length ws) (kind_number ws low) (kind_number ws high) us
    back t = (
      kind_number ws t.2.kind,
      t.2.level,
      omega (arith, t.2.from),
      omega (arith, t.2.to),
      subst (Charts qs ls (kind_number ws t.2.kind) t.2.level 0 (length ws)) (sym t.1) (reads_charts g ws qs ls forms leaves t.2.kind t.2.level 0 (length ws) (t.0 ∷ []) t.2.reads),
    )
