-- Rows that are full, from the last to the first.
use Rattle.std.proofs.Common.{◌≡◌, ◌≢◌, ℕ, suc, ◌+◌, ◌<◌, ◌≤◌, List, [], length, drop, Bool, true, false, Some, refl, sym, ◌∙◌, ap, subst, arith, eqb, eqb-true, nat_lt}
use Rattle.std.proofs.Math.Seq.{drop-length}
use Rattle.std.specs.List.{slice_get}
use Rattle.std.proofs.lemmas.Bool.{eqb-false, ltb-true, ltb-false}
use Rattle.std.proofs.lemmas.Option.{slice_get_within}
use Rattle.mau_chart.specs.declared.grammar.Production.{Production}
use Rattle.mau_chart.specs.declared.grammar.Leaf.{Leaf}
use Rattle.mau_chart.specs.declared.grammar.Item.TheVariants.{Whole, Part}
use Rattle.mau_chart.specs.Reads.{said_trees, Reads, leaf_read, Spells, nothing_spelled}
use Rattle.mau_chart.specs.Chart.{Edge, edge, Covers, Offered, Grows, AreSound, AreLeaves, AreForms, IsDone, Begun, Ended, IsRow, Closed, Wants}
use Rattle.mau_chart.proofs.Grows.{offered_grows, grows_on, covers_stay}
use Rattle.mau_chart.proofs.Step.{some_one}
use Rattle.mau_chart.proofs.Trials.{offered_sound, processed_stays}

-- another leaf, which begins elsewhere
pub begun_other : (ls : List Leaf) (old new : ℕ → List Edge) (i n m : ℕ) (l : Leaf) → slice_get ls n ≡ Some l → l.start ≢ i → m ≡ n + 1 → Begun ls old new i n → Begun ls old new i m
begun_other ls old new i n m l e d em b = record {
  grows = b.grows;
  sound = b.sound;
  covers = λ k q h eq st. by k q h eq st (eqb k n) refl;
}
  where
    by : (k : ℕ) (q : Leaf) → k < m → slice_get ls k ≡ Some q → q.start ≡ i → (t : Bool) → eqb k n ≡ t → Covers new i (Whole q.kind q.level) q.end (said_trees q.said)
    by k q h eq st false w = let x : k ≢ n = eqb-false k n w in b.covers k q (omega (arith, h, em, x)) eq st
    by k q h eq st true w =
        let z : l ≡ q = some_one l q (sym e ∙ ap (slice_get ls) (sym (eqb-true k n w)) ∙ eq) in
        absurd (d (ap (λ y. y.start) z ∙ st))

pub begun_on : (ls : List Leaf) (old mid new : ℕ → List Edge) (i n m : ℕ) (l : Leaf) → slice_get ls n ≡ Some l → l.start ≡ i → m ≡ n + 1 → Begun ls old mid i n → Offered mid new i (edge (Whole l.kind l.level) l.end (said_trees l.said)) → Begun ls old new i m
begun_on ls old mid new i n m l e st em b o = record {
  grows = grows_on old mid new i b.grows g;
  sound = λ ps s. offered_sound ps ls mid new i f o (subst (λ j. Reads ps ls l.kind l.level j l.end (said_trees l.said)) st (leaf_read n l e)) (b.sound ps s);
  covers = λ k q h eq sq. by k q h eq sq (eqb k n) refl;
}
  where
    f : Edge
    f = edge (Whole l.kind l.level) l.end (said_trees l.said)

    g : Grows mid new i
    g = offered_grows mid new i (edge (Whole l.kind l.level) l.end (said_trees l.said)) o

    by : (k : ℕ) (q : Leaf) → k < m → slice_get ls k ≡ Some q → q.start ≡ i → (t : Bool) → eqb k n ≡ t → Covers new i (Whole q.kind q.level) q.end (said_trees q.said)
    by k q h eq sq false w =
        let x : k ≢ n = eqb-false k n w in
        covers_stay mid new i (offered_grows mid new i (edge (Whole l.kind l.level) l.end (said_trees l.said)) o) i (Whole q.kind q.level) q.end (said_trees q.said) (b.covers k q (omega (arith, h, em, x)) eq sq)
    by k q h eq sq true w =
        let z : l ≡ q = some_one l q (sym e ∙ ap (slice_get ls) (sym (eqb-true k n w)) ∙ eq) in
        subst (λ y. Covers new i (Whole y.kind y.level) y.end (said_trees y.said)) z o.covers

-- another production, which may not end here
pub ended_other : (ps : List Production) (ls : List Leaf) (old new : ℕ → List Edge) (i n m : ℕ) (p : Production) → slice_get ps n ≡ Some p → (Wants ps ls i (Part n (length p.pieces.items)) → ⊥) → m ≡ n + 1 → Ended ps ls old new i n → Ended ps ls old new i m
ended_other ps ls old new i n m p e never em b = record {
  grows = b.grows;
  sound = b.sound;
  covers = λ k q h eq u. by k q h eq u (eqb k n) refl;
}
  where
    by : (k : ℕ) (q : Production) → k < m → slice_get ps k ≡ Some q → Wants ps ls i (Part k (length q.pieces.items)) → (t : Bool) → eqb k n ≡ t → Covers new i (Part k (length q.pieces.items)) i []
    by k q h eq u false w = let x : k ≢ n = eqb-false k n w in b.covers k q (omega (arith, h, em, x)) eq u
    by k q h eq u true w =
        let y : k ≡ n = eqb-true k n w in
        let z : p ≡ q = some_one p q (sym e ∙ ap (slice_get ps) (sym y) ∙ eq) in
        absurd (never (subst (λ j. Wants ps ls i (Part j (length p.pieces.items))) y (subst (λ v. Wants ps ls i (Part k (length v.pieces.items))) (sym z) u)))

pub ended_on : (ps : List Production) (ls : List Leaf) (old mid new : ℕ → List Edge) (i n m d : ℕ) (p : Production) → slice_get ps n ≡ Some p → d ≡ length p.pieces.items → m ≡ n + 1 → Ended ps ls old mid i n → Offered mid new i (edge (Part n d) i []) → Ended ps ls old new i m
ended_on ps ls old mid new i n m d p e ed em b o = record {
  grows = grows_on old mid new i b.grows (offered_grows mid new i (edge (Part n d) i []) o);
  sound = λ s. offered_sound ps ls mid new i (edge (Part n d) i []) o (λ q eq. nothing q eq) (b.sound s);
  covers = λ k q h eq u. by k q h eq u (eqb k n) refl;
}
  where
    nothing : (q : Production) → slice_get ps n ≡ Some q → Spells ps ls (drop d q.pieces.items) i i []
    nothing q eq =
        let z : p ≡ q = some_one p q (sym e ∙ eq) in
        subst (λ cs. Spells ps ls cs i i []) (sym (ap (λ x. drop x q.pieces.items) (ed ∙ ap (λ y. length y.pieces.items) z) ∙ drop-length q.pieces.items)) (nothing_spelled i)

    by : (k : ℕ) (q : Production) → k < m → slice_get ps k ≡ Some q → Wants ps ls i (Part k (length q.pieces.items)) → (t : Bool) → eqb k n ≡ t → Covers new i (Part k (length q.pieces.items)) i []
    by k q h eq u false w =
        let x : k ≢ n = eqb-false k n w in
        covers_stay mid new i (offered_grows mid new i (edge (Part n d) i []) o) i (Part k (length q.pieces.items)) i [] (b.covers k q (omega (arith, h, em, x)) eq u)
    by k q h eq u true w =
        let y : k ≡ n = eqb-true k n w in
        let z : p ≡ q = some_one p q (sym e ∙ ap (slice_get ps) (sym y) ∙ eq) in
        subst (λ v. Covers new i (Part v (length q.pieces.items)) i []) (sym y) (subst (λ v. Covers new i (Part n v) i []) (ed ∙ ap (λ y. length y.pieces.items) z) o.covers)

-- a row is full
pub row_full : (ps : List Production) (ls : List Leaf) (a b c d : ℕ → List Edge) (i : ℕ) → Begun ls a b i (length ls) → Ended ps ls b c i (length ps) → Grows c d i → IsDone ps ls d i (length (d i)) → IsRow ps ls d i
row_full ps ls a b c d i x y g e = record {
  leaves = λ k l h s. covers_stay b d i (grows_on b c d i y.grows g) i (Whole l.kind l.level) l.end (said_trees l.said) (x.covers k l (slice_get_within ls k l h) h s);
  ends = λ k p h u. covers_stay c d i g i (Part k (length p.pieces.items)) i [] (y.covers k p (slice_get_within ps k p h) h u);
  done = e;
}

-- the rows from m on are full
abbrev pub AreRows : List Production → List Leaf → (ℕ → List Edge) → ℕ → ℕ → Type 0
AreRows ps ls rows n m = (h : ℕ) → m ≤ h → h ≤ n → IsRow ps ls rows h

pub rows_on : (ps : List Production) (ls : List Leaf) (n : ℕ) → AreLeaves ls n → AreForms ps → (old new : ℕ → List Edge) (i : ℕ) → Grows old new i → AreSound ps ls old → AreRows ps ls old n (suc i) → IsRow ps ls new i → AreRows ps ls new n i
rows_on ps ls n al af old new i g s a r h le ln = by (eqb h i) refl
  where
    by : (t : Bool) → eqb h i ≡ t → IsRow ps ls new h
    by true w = subst (IsRow ps ls new) (sym (eqb-true h i w)) r
    by false w =
        let x : h ≢ i = eqb-false h i w in
        let o = a h (omega (arith, le, x)) ln in
        record {
          leaves = λ k l e st. covers_stay old new i g h (Whole l.kind l.level) l.end (said_trees l.said) (o.leaves k l e st);
          ends = λ k p e u. covers_stay old new i g h (Part k (length p.pieces.items)) h [] (o.ends k p e u);
          done = λ k lt. (
              let lt' : k < length (old h) = subst (λ z. k < length z) (g.others h x) lt in
              processed_stays ps ls n al af old new i g s h k le lt' (o.done k lt')
              );
        }

pub rows_closed : (ps : List Production) (ls : List Leaf) (n : ℕ) → AreLeaves ls n → (rows : ℕ → List Edge) → ((h : ℕ) → n < h → rows h ≡ []) → AreRows ps ls rows n 0 → Closed ps ls n rows 0
rows_closed ps ls n al rows past a = record {
  leaves = λ k l e h. (a l.start (omega arith) (omega (arith, (al k l e).forth, (al k l e).within))).leaves k l e refl;
  ends = λ k p j e h w u. (a j (omega arith) w).ends k p e u;
  steps = λ k d p c q h m j ts us le ep ec u w hf hg. (
      let f = edge (Whole c.kind q) m ts in
      let g = edge (Part k (suc d)) j us in
      ((a h (omega arith) (within h hf.0 f hf.1)).done hf.0 (slice_get_within (rows h) hf.0 f hf.1)).steps f g hg.0 (Part k d) hf.1 hg.1
      record { number = k; dot = d; level = q; form = p; piece = c; whole = refl; part = refl; longer = refl; its = ep; there = ec; upto = u } w
      );
  wholes = λ k p h j ts le ep hf. (
      let f = edge (Part k 0) j ts in
      ((a h (omega arith) (within h hf.0 f hf.1)).done hf.0 (slice_get_within (rows h) hf.0 f hf.1)).wholes f (Whole p.kind p.level) p.op hf.1
      record { number = k; form = p; part = refl; its = ep; whole = refl; op = refl }
      );
}
  where
    nothing : (f : Edge) (k : ℕ) → slice_get [] k ≡ Some f → ⊥
    nothing f k e = cc

    within : (h k : ℕ) (f : Edge) → slice_get (rows h) k ≡ Some f → h ≤ n
    within h k f e = by (nat_lt n h) refl
      where
        by : (t : Bool) → nat_lt n h ≡ t → h ≤ n
        by true w = absurd (nothing f k (ap (λ r. slice_get r k) (sym (past h (ltb-true n h w))) ∙ e))
        by false w = ltb-false n h w
