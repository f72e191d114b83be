-- The readings that a row tells.
use Rattle.std.proofs.Common.{◌≡◌, ◌≢◌, ℕ, ◌+◌, ◌<◌, ◌≤◌, List, length, Bool, true, false, Some, inl, inr, refl, sym, ◌∙◌, ap, subst, arith, eqb, eqb-true}
use Rattle.std.specs.List.{slice_get}
use Rattle.std.proofs.lemmas.Bool.{eqb-false}
use Rattle.std.proofs.lemmas.Option.{slice_get_within}
use Rattle.mau_terms.specs.Tree.{Tree}
use Rattle.mau_chart.specs.declared.grammar.Production.{Production}
use Rattle.mau_chart.specs.declared.grammar.Leaf.{Leaf}
use Rattle.mau_chart.specs.declared.grammar.Item.{Item}
use Rattle.mau_chart.specs.declared.grammar.Item.TheVariants.{Whole, Part}
use Rattle.mau_chart.specs.declared.reading.Answer.{Answer}
use Rattle.mau_chart.specs.declared.reading.Answer.TheVariants.{Nothing, One, Two}
use Rattle.mau_chart.specs.Reads.{Reads}
use Rattle.mau_chart.specs.Chart.{Edge, edge, Has, Covers, AreSound, AreLeaves, AreForms, IsRight, Closed}
use Rattle.mau_chart.specs.Goal.{IsGoal, GoalAt, Scanned, ReadsAs, IsExact}
use Rattle.mau_chart.proofs.Complete.{reads_covered}
use Rattle.mau_chart.proofs.Step.{some_one}

module _ (low high n : ℕ) (rows : ℕ → List Edge) where
  one_goal : (k : ℕ) (ts us : List Tree) → GoalAt low high n rows k ts → GoalAt low high n rows k us → ts ≡ us
  one_goal k ts us a b = sym a.3 ∙ ap (λ f. f.trees) (some_one a.0 b.0 (sym a.1 ∙ b.1)) ∙ b.3

  pub first_goal : (k m : ℕ) (us : List Tree) → m ≡ k + 1 → GoalAt low high n rows k us → Scanned low high n rows k Nothing → Scanned low high n rows m (One k)
  first_goal k m us em g s = (us, g, λ j ts h a. by j ts h a (eqb j k) refl)
    where
      by : (j : ℕ) (ts : List Tree) → j < m → GoalAt low high n rows j ts → (t : Bool) → eqb j k ≡ t → ts ≡ us
      by j ts h a true q = one_goal k ts us (subst (λ z. GoalAt low high n rows z ts) (eqb-true j k q) a) g
      by j ts h a false q = let x : j ≢ k = eqb-false j k q in absurd (s j ts (omega (arith, h, em, x)) a)

  pub same_goal : (i k m : ℕ) (us vs : List Tree) → m ≡ k + 1 → GoalAt low high n rows i us → GoalAt low high n rows k vs → us ≡ vs → Scanned low high n rows k (One i) → Scanned low high n rows m (One i)
  same_goal i k m us vs em gi g e s = (s.0, s.1, λ j ts h a. by j ts h a (eqb j k) refl)
    where
      by : (j : ℕ) (ts : List Tree) → j < m → GoalAt low high n rows j ts → (t : Bool) → eqb j k ≡ t → ts ≡ s.0
      by j ts h a true q = one_goal k ts vs (subst (λ z. GoalAt low high n rows z ts) (eqb-true j k q) a) g ∙ sym e ∙ one_goal i us s.0 gi s.1
      by j ts h a false q = let x : j ≢ k = eqb-false j k q in s.2 j ts (omega (arith, h, em, x)) a

  pub no_goal : (k m : ℕ) (f : Edge) (r : Answer) → m ≡ k + 1 → slice_get (rows 0) k ≡ Some f → (IsGoal low high n f.item f.end → ⊥) → Scanned low high n rows k r → Scanned low high n rows m r
  no_goal k m f (Two a b) em e d s = s
  no_goal k m f Nothing em e d s = λ j ts h a. by j ts h a (eqb j k) refl
    where
      by : (j : ℕ) (ts : List Tree) → j < m → GoalAt low high n rows j ts → (t : Bool) → eqb j k ≡ t → ⊥
      by j ts h a true q = d (subst (λ g. IsGoal low high n g.item g.end) (some_one a.0 f (sym a.1 ∙ ap (slice_get (rows 0)) (eqb-true j k q) ∙ e)) a.2)
      by j ts h a false q = let x : j ≢ k = eqb-false j k q in s j ts (omega (arith, h, em, x)) a
  no_goal k m f (One i) em e d s = (s.0, s.1, λ j ts h a. by j ts h a (eqb j k) refl)
    where
      by : (j : ℕ) (ts : List Tree) → j < m → GoalAt low high n rows j ts → (t : Bool) → eqb j k ≡ t → ts ≡ s.0
      by j ts h a true q = absurd (d (subst (λ g. IsGoal low high n g.item g.end) (some_one a.0 f (sym a.1 ∙ ap (slice_get (rows 0)) (eqb-true j k q) ∙ e)) a.2))
      by j ts h a false q = let x : j ≢ k = eqb-false j k q in s.2 j ts (omega (arith, h, em, x)) a

-- what was found is all that is read
module _ (ps : List Production) (ls : List Leaf) (n low high : ℕ) (al : AreLeaves ls n) (af : AreForms ps) (rows : ℕ → List Edge) (sound : AreSound ps ls rows) (closed : Closed ps ls n rows 0) where
  goal_reads : (k : ℕ) (ts : List Tree) → GoalAt low high n rows k ts → ReadsAs ps ls n low high ts
  goal_reads k ts g = subst (ReadsAs ps ls n low high) g.3 (by g.0.item g.0.end g.0.trees (sound 0 k g.0 g.1) g.2)
    where
      by : (it : Item) (e : ℕ) (us : List Tree) → IsRight ps ls 0 it e us → IsGoal low high n it e → ReadsAs ps ls n low high us
      by (Whole a q) e us r h = (a, q, h.0, h.1, subst (λ z. Reads ps ls a q 0 z us) h.2 r)
      by (Part a q) e us r h = absurd h

  goal_of : (k q : ℕ) (ts : List Tree) → low ≤ k → k < high → (h : Has rows 0 (Whole k q) n ts) → GoalAt low high n rows h.0 ts
  goal_of k q ts l u h = (edge (Whole k q) n ts, h.1, (l, u, refl), refl)

  has_within : (it : Item) (e : ℕ) (ts : List Tree) → (h : Has rows 0 it e ts) → h.0 < length (rows 0)
  has_within it e ts h = slice_get_within (rows 0) h.0 (edge it e ts) h.1

  pub scanned_exact : (r : Answer) → Scanned low high n rows (length (rows 0)) r → IsExact ps ls n low high rows r
  scanned_exact Nothing s = λ ts a. by ts a (reads_covered ps ls n rows al af closed a.0 a.1 0 n ts a.4 (omega arith))
    where
      by : (ts : List Tree) (a : ReadsAs ps ls n low high ts) → Covers rows 0 (Whole a.0 a.1) n ts → ⊥
      by ts a (inl h) = s h.0 ts (has_within (Whole a.0 a.1) n ts h) (goal_of a.0 a.1 ts a.2 a.3 h)
      by ts a (inr h) = s h.2.0 h.0 (has_within (Whole a.0 a.1) n h.0 h.2) (goal_of a.0 a.1 h.0 a.2 a.3 h.2)
  scanned_exact (One j) s = (s.0, s.1, goal_reads j s.0 s.1, λ ts a. by ts a (reads_covered ps ls n rows al af closed a.0 a.1 0 n ts a.4 (omega arith)))
    where
      by : (ts : List Tree) (a : ReadsAs ps ls n low high ts) → Covers rows 0 (Whole a.0 a.1) n ts → ts ≡ s.0
      by ts a (inl h) = s.2 h.0 ts (has_within (Whole a.0 a.1) n ts h) (goal_of a.0 a.1 ts a.2 a.3 h)
      by ts a (inr h) =
          let x = s.2 h.2.0 h.0 (has_within (Whole a.0 a.1) n h.0 h.2) (goal_of a.0 a.1 h.0 a.2 a.3 h.2) in
          let y = s.2 h.3.0 h.1 (has_within (Whole a.0 a.1) n h.1 h.3) (goal_of a.0 a.1 h.1 a.2 a.3 h.3) in
          absurd (h.4 (x ∙ sym y))
  scanned_exact (Two j k) s = (s.0, s.1, s.2, s.3, goal_reads j s.0 s.2, goal_reads k s.1 s.3, s.4)
