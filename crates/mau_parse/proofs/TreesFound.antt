-- What a chart tells are the trees of the tokens.
use Rattle.std.proofs.Common.{◌≡◌, ℕ, List, [], ◌∷◌, length, get_or, All, refl, sym, ◌∙◌, ap, subst, arith}
use Rattle.mau_terms.specs.Tree.{Tree}
use Rattle.mau_terms.specs.declared.ids.TermId.{TermId}
use Rattle.mau_grammar.specs.declared.production.Production.{Production as Written}
use Rattle.mau_grammar.specs.Production.{IsShaped}
use Rattle.mau_grammar.specs.Grammar.{GrammarOf}
use Rattle.mau_chart.specs.declared.grammar.Production.{Production}
use Rattle.mau_chart.specs.declared.grammar.Leaf.{Leaf}
use Rattle.mau_chart.specs.declared.reading.Forest.{Forest}
use Rattle.mau_chart.specs.declared.reading.Forest.TheVariants.{Nothing as NoReading, One as OneReading, Two as TwoReadings}
use Rattle.mau_chart.specs.Chart.{AreForms}
use Rattle.mau_chart.specs.Goal.{ReadsAs}
use Rattle.mau_chart.specs.Told.{IsForest}
use Rattle.mau_chart.specs.Nodes.{tree_at, trees_at, AllBelow}
use Rattle.mau_chart.proofs.Lists.{length-trees_at}
use Rattle.mau_parse.specs.declared.goals.Goal.{Goal}
use Rattle.mau_parse.specs.declared.trees.Parses.{Parses}
use Rattle.mau_parse.specs.declared.trees.Parses.TheVariants.{Nothing, One, Two}
use Rattle.mau_parse.specs.Charted.{kind_number, IsFormOf, ArePiecesOf, AreFormsOf, AreLeavesOf}
use Rattle.mau_parse.specs.Goal.{lowest, highest, IsTree}
use Rattle.mau_parse.specs.Parses.{AreParses, IsSingle, AreSingle, IsNumberOf, AreNumbersOf}
use Rattle.mau_parse.specs.Laws.{IsOneTree}
use Rattle.mau_parse.proofs.Singles.{charts_read_trees, shape_at}

-- ---- each production has a piece

some_pieces : (ws : List (List ℕ)) (p : Written) (q : Production) → IsFormOf ws p q → IsShaped p → q.pieces.items ≡ [] → ⊥
some_pieces ws p q f s e = s.some (by p.parts (subst (ArePiecesOf ws p.parts) e f.pieces))
  where
    by : (ps : List _) → ArePiecesOf ws ps [] → ps ≡ []
    by [] a = refl
    by (x ∷ ps) a = absurd a

pub forms_have_pieces : (ws : List (List ℕ)) (ps : List Written) (qs : List Production) → All IsShaped ps → AreFormsOf ws ps qs → AreForms qs
forms_have_pieces ws ps qs shaped forms k q e =
    let back = forms.right k q e in
    some_pieces ws back.1 q back.3 (shape_at ps shaped back.0 back.1 back.2)

-- ---- one number

pub number_of_first : (ts : List Tree) (ids : List TermId) (d : TermId) → IsSingle ts ids → IsNumberOf ts ids (get_or ids 0 d)
number_of_first ts [] d s = absurd (omega (arith, s.one))
number_of_first ts (i ∷ []) d s = record { below = s.below i refl; tree = refl }
number_of_first ts (i ∷ j ∷ ids) d s = absurd (omega (arith, s.one))

single : (ts : List Tree) (ids : List TermId) (t : Tree) → AllBelow (length ts) ids → trees_at ts ids ≡ t ∷ [] → IsSingle ts ids
single ts ids t b e = record {
  one = omega (arith, length-trees_at ts ids, ap length e);
  below = λ i h. (subst (AllBelow (length ts)) h b).0;
}

-- ---- readings and trees

-- the chart has the productions and the leaves of the tokens
pub record IsCharted (g : GrammarOf) (ws : List (List ℕ)) (qs : List Production) (ls : List Leaf) : Type 0 where
  pub shaped : All IsShaped g.productions
  pub forms : AreFormsOf ws g.productions qs
  pub leaves : AreLeavesOf g ws ls

pub is_charted : (g : GrammarOf) (ws : List (List ℕ)) (qs rs : List Production) (ls ks : List Leaf) → All IsShaped g.productions → qs ≡ rs → AreFormsOf ws g.productions rs → ls ≡ ks → AreLeavesOf g ws ks → IsCharted g ws qs ls
is_charted g ws qs rs ls ks shaped p forms q leaves = record {
  shaped = shaped;
  forms = subst (AreFormsOf ws g.productions) (sym p) forms;
  leaves = subst (AreLeavesOf g ws) (sym q) leaves;
}

module _ (g : GrammarOf) (ws : List (List ℕ)) (goal : Goal) (qs : List Production) (ls : List Leaf) (chart : IsCharted g ws qs ls) where
  abbrev Charted : List Tree → Type 0
  Charted us = ReadsAs qs ls (length ws) (kind_number ws (lowest g goal)) (kind_number ws (highest g goal)) us

  abbrev Told : List Tree → Forest → Type 0
  Told ts r = IsForest qs ls (length ws) (kind_number ws (lowest g goal)) (kind_number ws (highest g goal)) ts r

  one_tree : (us : List Tree) → Charted us → IsOneTree g ws (lowest g goal) (highest g goal) us
  one_tree us h = (charts_read_trees g ws qs ls chart.shaped chart.forms chart.leaves (lowest g goal) (highest g goal) us).0 h

  charted : (t : Tree) → IsTree g ws goal t → Charted (t ∷ [])
  charted t h = (charts_read_trees g ws qs ls chart.shaped chart.forms chart.leaves (lowest g goal) (highest g goal) (t ∷ [])).1 (t, refl, h)

  first_same : (t u : Tree) → ◌≡◌ {A = List Tree} (t ∷ []) (u ∷ []) → t ≡ u
  first_same t u e = cc

  the_tree : (us : List Tree) (t : Tree) → Charted us → us ≡ t ∷ [] → IsTree g ws goal t
  the_tree us t h e = let x = one_tree us h in subst (IsTree g ws goal) (first_same x.0 t (sym x.1 ∙ e)) x.2

  pub readings_single : (ts : List Tree) (r : Forest) → Told ts r → AreSingle ts r
  readings_single ts NoReading h = tt
  readings_single ts (OneReading a) h = let x = one_tree (trees_at ts a.items) h.1 in single ts a.items x.0 h.0 x.1
  readings_single ts (TwoReadings a b) h =
      let x = one_tree (trees_at ts a.items) h.2 in
      let y = one_tree (trees_at ts b.items) h.3 in
      (single ts a.items x.0 h.0 x.1, single ts b.items y.0 h.1 y.1)

  pub readings_found : (ts : List Tree) (r : Forest) (f : Parses) → Told ts r → AreNumbersOf ts r f → AreParses g ws goal ts f
  readings_found ts NoReading Nothing h n = λ t x. h (t ∷ []) (charted t x)
  readings_found ts NoReading (One i) h n = absurd n
  readings_found ts NoReading (Two i j) h n = absurd n
  readings_found ts (OneReading a) Nothing h n = absurd n
  readings_found ts (OneReading a) (One i) h n = (
    n.below,
    record {
      tree = the_tree (trees_at ts a.items) (tree_at ts i.0) h.1 n.tree;
      only = λ u x. first_same u (tree_at ts i.0) (h.2 (u ∷ []) (charted u x) ∙ n.tree);
    },
  )
  readings_found ts (OneReading a) (Two i j) h n = absurd n
  readings_found ts (TwoReadings a b) Nothing h n = absurd n
  readings_found ts (TwoReadings a b) (One i) h n = absurd n
  readings_found ts (TwoReadings a b) (Two i j) h n = (
    n.0.below,
    n.1.below,
    record {
      first = the_tree (trees_at ts a.items) (tree_at ts i.0) h.2 n.0.tree;
      second = the_tree (trees_at ts b.items) (tree_at ts j.0) h.3 n.1.tree;
      differ = λ e. h.4 (n.0.tree ∙ ap (λ t. t ∷ []) e ∙ sym n.1.tree);
    },
  )

  pub told_so : (ts : List Tree) (r : Forest) (n low high : ℕ) → n ≡ length ws → low ≡ kind_number ws (lowest g goal) → high ≡ kind_number ws (highest g goal) → IsForest qs ls n low high ts r → Told ts r
  told_so ts r n low high a b c h =
      subst (λ (m : ℕ). IsForest qs ls (length ws) (kind_number ws (lowest g goal)) m ts r) c
      (subst (λ (m : ℕ). IsForest qs ls (length ws) m high ts r) b (subst (λ (m : ℕ). IsForest qs ls m low high ts r) a h))
