-- The causes of ends.
use Rattle.std.proofs.Common.{◌≡◌, ◌⊎◌, inl, inr, ◌≤◌, ◌+◌, ℕ, suc, List, [], ◌∷◌, ◌++◌, refl, sym, ap, ◌∙◌, subst, arith}
use Rattle.mau_terms.specs.Tree.{Tree}
use Rattle.mau_terms.specs.Norm.{norm}
use Rattle.mau_terms.specs.Finite.{IsIn}
use Rattle.mau_terms.proofs.Finite.{in_right}
use Rattle.mau_store.specs.Trees.{tree_at, trees_at}
use Rattle.mau_evaluation.specs.Run.{End, stopped, too_deep, overflowed, ended}
use Rattle.mau_evaluation.specs.Program.{Fragment, Program}
use Rattle.mau_evaluation.specs.Evaluation.{Binding, levels, sorts_at}
use Rattle.mau_evaluation.proofs.Limits.{levels_alone}
use Rattle.mau_api.specs.Programs.{program_over, identities_of}
use Rattle.mau_api.specs.Meanings.{meanings_by}
use Rattle.mau_api.specs.Answers.{levels_of_item, levels_of_condition, HasCause, IsOneToSettle, binding_in}
use Rattle.mau_api.specs.declared.results.EvalEnd.{EvalEnd}
use Rattle.mau_api.specs.declared.results.EvalEnd.TheVariants.{Stopped, TooDeep, Overflow, NoMemory}
use Rattle.mau_deriving.specs.Known.{EndsWith}
use Rattle.mau_deriving.specs.Given.{asks_by, sorts_on}
use Rattle.mau_settling.specs.Settlings.{AreLeft}
use Rattle.mau_settling.specs.Solving.{EndsAs, ConditionsMayEnd}
use Rattle.mau_settling.proofs.Ended.{condition_ends_root}
use Rattle.mau_settling.proofs.Roots.{last_or_more}

module _ (P : Program) (B : ℕ) (c : List Fragment) (σ : Binding) where
  -- by more levels it ends so too
  stops_on : (j k : ℕ) → j ≤ k → asks_by P B j c σ B ≡ ended stopped → asks_by P B k c σ B ≡ ended stopped
  stops_on j k l h = elim (levels_alone.2 P j k B l c σ B) [
    | inl z ↦ let no = sym h ∙ z in absurd (cc)
    | inr z ↦ sym z ∙ h
  ]

  overflows_on : (j k : ℕ) → j ≤ k → asks_by P B j c σ B ≡ ended overflowed → asks_by P B k c σ B ≡ ended overflowed
  overflows_on j k l h = elim (levels_alone.2 P j k B l c σ B) [
    | inl z ↦ let no = sym h ∙ z in absurd (cc)
    | inr z ↦ sym z ∙ h
  ]

  module _ (u : Tree) (normal : norm P.sign.theory u ≡ u) (ends : EndsWith (λ j. sorts_on P B j u) (λ j. asks_by P B j c σ B)) where
    at_level : (j b : ℕ) → sorts_at P (suc j) B u b ≡ sorts_on P B j u b
    at_level j b = ap (λ t. (levels P B (suc j)).sorts t b) normal

    -- where there are enough levels
    for_enough : (e : End) (j : ℕ) → ends.enough ≤ j → asks_by P B j c σ B ≡ ended e → sorts_on P B j u 0 ≡ ended e
    for_enough e j l h = elim (ends.ends j 0 e h) [ inl z ↦ z | inr z ↦ absurd (omega (arith, l, z.0)) ]

    has_cause : (e : EvalEnd) → EndsAs (asks_by P B levels_of_condition c σ B) e → HasCause (λ k C. sorts_at P k C u) levels_of_item B 0 e
    has_cause Stopped h =
        let j = levels_of_condition + ends.enough in
        (suc j, at_level j 0 ∙ for_enough stopped j (omega arith) (stops_on levels_of_condition j (omega arith) h))
    has_cause TooDeep h = (B, 0, at_level levels_of_condition 0 ∙ elim (ends.ends levels_of_condition 0 too_deep h) [ inl z ↦ z | inr z ↦ z.1 ])
    has_cause Overflow h =
        let j = levels_of_condition + ends.enough in
        (suc j, B, 0, omega arith, omega arith, omega arith, at_level j 0 ∙ for_enough overflowed j (omega arith) (overflows_on levels_of_condition j (omega arith) h))
    has_cause NoMemory h = tt

pub conditions_may_end : ConditionsMayEnd
conditions_may_end p hooks limit remembers nodes table s can at b asks m there e h =
    let z = condition_ends_root p hooks limit nodes table s can at b asks m there in (
      tree_at nodes z.0,
      one z.0 z.1 z.3,
      has_cause (program_over p hooks) limit m.cond (binding_in nodes b) (tree_at nodes z.0) z.2.within.normal z.4 e (h m there),
    )
  where
    one : (i : ℕ) (is : List ℕ) → AreLeft p.sig nodes table s.term.0 (i ∷ is) → IsOneToSettle (meanings_by p hooks limit remembers) (tree_at nodes s.term.0) (tree_at nodes i)
    one i is left = by (last_or_more left.before (tree_at nodes i) (trees_at nodes is) (identities_of p.sig) (tree_at nodes s.term.0) left.are)
      where
        by : ((trees_at nodes is ≡ []) × (identities_of p.sig ≡ left.before) × (tree_at nodes s.term.0 ≡ tree_at nodes i)) ⊎ ((more : List Tree) × (identities_of p.sig ≡ left.before ++ tree_at nodes i ∷ more)) →
            IsOneToSettle (meanings_by p hooks limit remembers) (tree_at nodes s.term.0) (tree_at nodes i)
        by (inl k) = inl (sym k.2)
        by (inr k) = inr (subst (IsIn (tree_at nodes i)) (sym k.1) (in_right (tree_at nodes i) left.before (tree_at nodes i ∷ k.0) (inl refl)))
