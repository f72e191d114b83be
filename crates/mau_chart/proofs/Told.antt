-- What is told of readings is exact.
use Rattle.std.proofs.Common.{◌≡◌, ℕ, List, sym, ◌∙◌, subst}
use Rattle.std.proofs.lemmas.Option.{slice_get_within}
use Rattle.mau_terms.specs.Tree.{Tree}
use Rattle.mau_chart.specs.declared.grammar.Production.{Production}
use Rattle.mau_chart.specs.declared.grammar.Leaf.{Leaf}
use Rattle.mau_chart.specs.declared.reading.Answer.{Answer}
use Rattle.mau_chart.specs.declared.reading.Answer.TheVariants.{Nothing, One, Two}
use Rattle.mau_chart.specs.declared.reading.Forest.{Forest}
use Rattle.mau_chart.specs.declared.reading.Forest.TheVariants.{Nothing as NoReading, One as OneReading, Two as TwoReadings}
use Rattle.mau_chart.specs.Chart.{Edge}
use Rattle.mau_chart.specs.Goal.{GoalAt, ReadsAs, IsExact}
use Rattle.mau_chart.specs.Nodes.{trees_at}
use Rattle.mau_chart.specs.Told.{IsForest, AreThere, AreTreesAt, IsToldBy}

module _ (ps : List Production) (ls : List Leaf) (n low high : ℕ) (ts : List Tree) (rows : ℕ → List Edge) where
  pub exact_there : (a : Answer) → IsExact ps ls n low high rows a → AreThere rows a
  exact_there Nothing e = tt
  exact_there (One j) e = slice_get_within (rows 0) j e.1.0 e.1.1
  exact_there (Two j k) e = (slice_get_within (rows 0) j e.2.0 e.2.1, slice_get_within (rows 0) k e.3.0 e.3.1)

  goal_trees : (k : ℕ) (us vs : List Tree) → GoalAt low high n rows k us → AreTreesAt ts rows k vs → us ≡ vs
  goal_trees k us vs g a = sym g.3 ∙ sym (a g.0 g.1)

  pub told_exact : (a : Answer) (r : Forest) → IsToldBy ts rows a r → IsExact ps ls n low high rows a → IsForest ps ls n low high ts r
  told_exact Nothing NoReading t e = e
  told_exact Nothing (OneReading x) t e = absurd t
  told_exact Nothing (TwoReadings x y) t e = absurd t
  told_exact (One j) NoReading t e = absurd t
  told_exact (One j) (OneReading x) t e =
      let q = goal_trees j e.0 (trees_at ts x.items) e.1 t.1 in
      (t.0, subst (ReadsAs ps ls n low high) q e.2, λ us h. e.3 us h ∙ q)
  told_exact (One j) (TwoReadings x y) t e = absurd t
  told_exact (Two j k) NoReading t e = absurd t
  told_exact (Two j k) (OneReading x) t e = absurd t
  told_exact (Two j k) (TwoReadings x y) t e =
      let p = goal_trees j e.0 (trees_at ts x.items) e.2 t.2 in
      let q = goal_trees k e.1 (trees_at ts y.items) e.3 t.3 in
      (t.0, t.1, subst (ReadsAs ps ls n low high) p e.4, subst (ReadsAs ps ls n low high) q e.5, λ h. e.6 (p ∙ h ∙ sym q))
