-- A closed table has each reading, or two others.
use Rattle.std.proofs.Common.{◌≡◌, ◌≢◌, ℕ, suc, ◌<◌, ◌≤◌, List, [], ◌∷◌, ◌++◌, length, Option, Some, None, inl, inr, refl, sym, ◌∙◌, ap, subst, arith, length-append, append_assoc, append-nil}
use Rattle.std.specs.List.{slice_get}
use Rattle.std.proofs.lemmas.List.{append_cancel_left, append_cancel_right}
use Rattle.mau_terms.specs.Tree.{Tree, Trees, no_trees, variable, numeral, apply, trees_of, list_of}
use Rattle.mau_terms.specs.declared.ids.OpId.{OpId}
use Rattle.mau_terms.proofs.Pieces.{list_of-trees_of}
use Rattle.mau_chart.specs.declared.grammar.Piece.{Piece}
use Rattle.mau_chart.specs.declared.grammar.Production.{Production}
use Rattle.mau_chart.specs.declared.grammar.Item.{Item}
use Rattle.mau_chart.specs.declared.grammar.Item.TheVariants.{Whole, Part}
use Rattle.mau_chart.specs.declared.grammar.Leaf.{Leaf}
use Rattle.mau_chart.specs.Reads.{made, Reads, leaf_read, form_read, Spells, nothing_spelled, piece_spelled}
use Rattle.mau_chart.specs.Chart.{Edge, Has, Covers, Closed, AreLeaves, AreForms, IsWanted}

-- a reading goes forth
mutual
  pub reads_forth : (ps : List Production) (ls : List Leaf) (n : ℕ) → AreLeaves ls n → AreForms ps → (k q i j : ℕ) (ts : List Tree) → Reads ps ls k q i j ts → i < j
  reads_forth ps ls n a b k q i j ts (leaf_read h l e) = (a h l e).forth
  reads_forth ps ls n a b k q i j ts (form_read h p e s) = some_forth ps ls n a b p.pieces.items _ _ _ (b h p e) s

  some_forth : (ps : List Production) (ls : List Leaf) (n : ℕ) → AreLeaves ls n → AreForms ps → (cs : List Piece) (i j : ℕ) (ts : List Tree) → cs ≢ [] → Spells ps ls cs i j ts → i < j
  some_forth ps ls n a b cs i j ts e (nothing_spelled h) = absurd (e refl)
  some_forth ps ls n a b cs i j ts e (piece_spelled c ds q r l s) = omega (arith, reads_forth ps ls n a b _ _ _ _ _ r, spells_forth ps ls n a b _ _ _ _ s)

  pub spells_forth : (ps : List Production) (ls : List Leaf) (n : ℕ) → AreLeaves ls n → AreForms ps → (cs : List Piece) (i j : ℕ) (ts : List Tree) → Spells ps ls cs i j ts → i ≤ j
  spells_forth ps ls n a b cs i j ts (nothing_spelled h) = omega arith
  spells_forth ps ls n a b cs i j ts (piece_spelled c ds q r l s) = omega (arith, reads_forth ps ls n a b _ _ _ _ _ r, spells_forth ps ls n a b _ _ _ _ s)

-- and ends within the text
mutual
  pub reads_within : (ps : List Production) (ls : List Leaf) (n : ℕ) → AreLeaves ls n → AreForms ps → (k q i j : ℕ) (ts : List Tree) → Reads ps ls k q i j ts → j ≤ n
  reads_within ps ls n a b k q i j ts (leaf_read h l e) = (a h l e).within
  reads_within ps ls n a b k q i j ts (form_read h p e s) = some_within ps ls n a b p.pieces.items _ _ _ (b h p e) s

  some_within : (ps : List Production) (ls : List Leaf) (n : ℕ) → AreLeaves ls n → AreForms ps → (cs : List Piece) (i j : ℕ) (ts : List Tree) → cs ≢ [] → Spells ps ls cs i j ts → j ≤ n
  some_within ps ls n a b cs i j ts e (nothing_spelled h) = absurd (e refl)
  some_within ps ls n a b cs i j ts e (piece_spelled c ds q r l s) = spells_within ps ls n a b _ _ _ _ (reads_within ps ls n a b _ _ _ _ _ r) s

  spells_within : (ps : List Production) (ls : List Leaf) (n : ℕ) → AreLeaves ls n → AreForms ps → (cs : List Piece) (i j : ℕ) (ts : List Tree) → i ≤ n → Spells ps ls cs i j ts → j ≤ n
  spells_within ps ls n a b cs i j ts h (nothing_spelled g) = h
  spells_within ps ls n a b cs i j ts h (piece_spelled c ds q r l s) = spells_within ps ls n a b _ _ _ _ (reads_within ps ls n a b _ _ _ _ _ r) s

-- covers two, covers one
either : (rows : (ℕ → List Edge)) (i : ℕ) (it : Item) (e : ℕ) (ts us vs : List Tree) → ts ≢ us → Covers rows i it e ts → Covers rows i it e us → Covers rows i it e vs
either rows i it e ts us vs n (inl a) (inl b) = inr (ts, us, a, b, n)
either rows i it e ts us vs n (inr a) b = inr a
either rows i it e ts us vs n (inl a) (inr b) = inr b

one : (rows : (ℕ → List Edge)) (i : ℕ) (it : Item) (e : ℕ) (ts : List Tree) → Covers rows i it e ts → (us : List Tree) × Has rows i it e us
one rows i it e ts (inl a) = (ts, a)
one rows i it e ts (inr a) = (a.0, a.2)

module _ (rows : (ℕ → List Edge)) (h m j : ℕ) (a b c : Item) (close : (ts us : List Tree) → Has rows h a m ts → Has rows m b j us → Covers rows h c j (ts ++ us)) where
  joined : (ts us : List Tree) → Covers rows h a m ts → Covers rows m b j us → Covers rows h c j (ts ++ us)
  joined ts us (inl x) (inl y) = close ts us x y
  joined ts us (inr x) y =
      let z = one rows m b j us y in
      either rows h c j (x.0 ++ z.0) (x.1 ++ z.0) (ts ++ us) (λ e. x.4 (append_cancel_right x.0 x.1 z.0 e)) (close x.0 z.0 x.2 z.1) (close x.1 z.0 x.3 z.1)
  joined ts us (inl x) (inr y) =
      either rows h c j (ts ++ y.0) (ts ++ y.1) (ts ++ us) (λ e. y.4 (append_cancel_left ts y.0 y.1 e)) (close ts y.0 x y.2) (close ts y.1 x y.3)

trees_of-one : (ts us : List Tree) → trees_of ts ≡ trees_of us → ts ≡ us
trees_of-one ts us e = sym (list_of-trees_of ts) ∙ ap list_of e ∙ list_of-trees_of us

-- different lists make different trees
made_one : (o : Option OpId) (ts us : List Tree) → made o ts ≡ made o us → ts ≡ us
made_one None ts us e = e
made_one (Some f) ts us e = trees_of-one ts us (ap arguments e)
  where
    arguments : List Tree → Trees
    arguments [] = no_trees
    arguments (variable i s ∷ vs) = no_trees
    arguments (numeral n ∷ vs) = no_trees
    arguments (apply g vs ∷ ws) = vs

module _ (rows : (ℕ → List Edge)) (h j : ℕ) (a c : Item) (o : Option OpId) (close : (ts : List Tree) → Has rows h a j ts → Covers rows h c j (made o ts)) where
  lifted : (ts : List Tree) → Covers rows h a j ts → Covers rows h c j (made o ts)
  lifted ts (inl x) = close ts x
  lifted ts (inr x) = either rows h c j (made o x.0) (made o x.1) (made o ts) (λ e. x.4 (made_one o x.0 x.1 e)) (close x.0 x.2) (close x.1 x.3)

some_form : (x y : Production) → Some x ≡ Some y → x ≡ y
some_form x y e = cc

slice_get-front : (cs : List Piece) (c : Piece) (ds : List Piece) → slice_get (cs ++ c ∷ ds) (length cs) ≡ Some c
slice_get-front [] c ds = refl
slice_get-front (b ∷ cs) c ds = slice_get-front cs c ds

module _ (ps : List Production) (ls : List Leaf) (n : ℕ) (rows : (ℕ → List Edge)) (leaves : AreLeaves ls n) (forms : AreForms ps) (closed : Closed ps ls n rows 0) where
  mutual
    pub reads_covered : (k q i j : ℕ) (ts : List Tree) → Reads ps ls k q i j ts → j ≤ n → Covers rows i (Whole k q) j ts
    reads_covered k q i j ts (leaf_read h l e) w = closed.leaves h l e (omega arith)
    reads_covered k q i j ts (form_read h p e s) w =
        lifted rows i j (Part h 0) (Whole p.kind p.level) p.op (λ vs x. closed.wholes h p i j vs (omega arith) e x) _ (spells_covered h p p.pieces.items i j _ [] e refl s w tt)

    spells_covered : (k : ℕ) (p : Production) (cs : List Piece) (i j : ℕ) (ts : List Tree) (front : List Piece) → slice_get ps k ≡ Some p → front ++ cs ≡ p.pieces.items → Spells ps ls cs i j ts → j ≤ n → IsWanted ps ls p (length front) i → Covers rows i (Part k (length front)) j ts
    spells_covered k p cs i j ts front g e (nothing_spelled h) w v =
        subst (λ d. Covers rows i (Part k d) i []) (ap length (sym e ∙ append-nil front)) (closed.ends k p i g (omega arith) w (λ z ez. subst (λ u. IsWanted ps ls u (length p.pieces.items) i) (some_form p z (sym g ∙ ez)) (subst (λ d. IsWanted ps ls p d i) (ap length (sym (append-nil front) ∙ e)) v)))
    spells_covered k p cs i j ts front g e (piece_spelled c ds q {m = m} {us = us} r l s) w v =
        let f = spells_forth ps ls n leaves forms ds _ _ _ s in
        let there : slice_get p.pieces.items (length front) ≡ Some c = ap (λ z. slice_get z (length front)) (sym e) ∙ slice_get-front front c ds in
        let further : (front ++ c ∷ []) ++ ds ≡ p.pieces.items = append_assoc front (c ∷ []) ds ∙ e in
        let next : length (front ++ c ∷ []) ≡ suc (length front) = omega (arith, length-append front (c ∷ [])) in
        joined rows i m j (Whole c.kind q) (Part k (suc (length front))) (Part k (length front)) (λ vs ws x y. closed.steps k (length front) p c q i m j vs ws (omega arith) g there l (λ z ez. subst (λ u. IsWanted ps ls u (length front) i) (some_form p z (sym g ∙ ez)) v) x y) _ _
        (reads_covered c.kind q i _ _ r (omega arith))
        (subst (λ d. Covers rows m (Part k d) j us) next (spells_covered k p ds _ j _ (front ++ c ∷ []) g further s w (subst (λ d. IsWanted ps ls p d m) (sym next) (c, there, (q, i, _, r)))))
