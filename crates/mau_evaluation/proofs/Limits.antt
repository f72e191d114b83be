-- The laws of one limit alone.
use Rattle.std.proofs.Common.{◌≡◌, ◌⊎◌, inl, inr, ℕ, zero, suc, ◌+◌, ◌-◌, ◌≤◌, refl, sym, ◌∙◌, ap, arith}
use Rattle.mau_terms.specs.Norm.{norm}
use Rattle.mau_evaluation.specs.Run.{End, stopped, too_deep, Outcome, done, ended, Run}
use Rattle.mau_evaluation.specs.Program.{Program}
use Rattle.mau_evaluation.specs.Evaluation.{solve, solve_after, no_level, levels}
use Rattle.mau_evaluation.specs.Higher.{IsHigher, LevelsAlone, with_more, IsRicher, BudgetsAlone}
use Rattle.mau_evaluation.proofs.Alike.{IsAlike, AreAlike, IsAlikeLevel, solve_alike, solve_after_alike, sorts_of_alike, level_alike}

no_more : (n : ℕ) → n ≡ n + 0
no_more n = omega arith

-- ---- more levels, and no more budget

abbrev pub IsTooDeep : End → Type 0
IsTooDeep e = e ≡ too_deep

abbrev pub IsNone : ℕ → Type 0
IsNone d = d ≡ 0

pub never_more : (d : ℕ) → IsNone (suc d) → IsTooDeep stopped
never_more d e = absurd (omega arith)

abbrev IsAbove : {A : Type 0} → Run A → Run A → Type 0
IsAbove m m' = AreAlike IsTooDeep IsNone never_more m m'

pub levels_above : (P : Program) (B k k' : ℕ) → k ≤ k' → IsAlikeLevel IsTooDeep IsNone never_more (levels P B k) (levels P B k')
levels_above P B zero zero h = record {
  eval_alike = λ t b d q. inl refl;
  sorts_alike = sorts_of_alike IsTooDeep IsNone never_more P B B 0 refl (no_more B) (solve P no_level) (solve P no_level)
      (solve_alike IsTooDeep IsNone never_more P no_level no_level (record { eval_alike = λ t b d q. inl refl; sorts_alike = λ t b d q. inl refl }));
}
levels_above P B zero (suc k') h = record {
  eval_alike = λ t b d q. inl refl;
  sorts_alike = sorts_of_alike IsTooDeep IsNone never_more P B B 0 refl (no_more B) (solve P no_level) (solve P (levels P B k'))
      (solve_alike IsTooDeep IsNone never_more P no_level (levels P B k') (record { eval_alike = λ t b d q. inl refl; sorts_alike = λ t b d q. inl refl }));
}
levels_above P B (suc k) zero h = absurd (omega arith)
levels_above P B (suc k) (suc k') h = level_alike IsTooDeep IsNone never_more P B B 0 refl (no_more B) (levels P B k) (levels P B k') (levels_above P B k k' (omega arith))

pub higher : {A : Type 0} (m m' : Run A) → IsAbove m m' → IsHigher m m'
higher {A = A} m m' h b = by (m b) (h b 0 refl)
  where
    by : (o : Outcome A) → IsAlike IsTooDeep IsNone never_more 0 o (m' (b + 0)) → (o ≡ ended too_deep) ⊎ (o ≡ m' b)
    by (done x r c) (inl e) = absurd e
    by (done x r c) (inr e) = inr (ap (done x r) (no_more c) ∙ (e ∙ ap m' (sym (no_more b))))
    by (ended z) (inl e) = inl (ap ended e)
    by (ended z) (inr e) = inr (e ∙ ap m' (sym (no_more b)))

pub levels_alone : LevelsAlone
levels_alone = (
  λ P k k' B h t. higher ((levels P B k).eval t) ((levels P B k').eval t) ((levels_above P B k k' h).eval_alike t),
  λ P k k' B h t. higher ((levels P B k).sorts (norm P.sign.theory t)) ((levels P B k').sorts (norm P.sign.theory t)) ((levels_above P B k k' h).sorts_alike (norm P.sign.theory t)),
  λ P k k' B h c σ. higher (solve P (levels P B k) c σ) (solve P (levels P B k') c σ) (solve_alike IsTooDeep IsNone never_more P (levels P B k) (levels P B k') (levels_above P B k k' h) c σ),
  λ P k k' B h last c σ. higher (solve_after P (levels P B k) last c σ) (solve_after P (levels P B k') last c σ) (solve_after_alike IsTooDeep IsNone never_more P (levels P B k) (levels P B k') (levels_above P B k k' h) last c σ),
)

-- ---- more budget, on the same levels

abbrev pub IsStopped : End → Type 0
IsStopped e = e ≡ stopped

abbrev pub IsAny : ℕ → Type 0
IsAny d = Unit {0}

pub may_stop : (d : ℕ) → IsAny (suc d) → IsStopped stopped
may_stop d e = refl

pub levels_richer : (P : Program) (B B' : ℕ) → B' ≡ B + (B' - B) → (k : ℕ) → IsAlikeLevel IsStopped IsAny may_stop (levels P B k) (levels P B' k)
levels_richer P B B' e zero = record {
  eval_alike = λ t b d q. inr refl;
  sorts_alike = sorts_of_alike IsStopped IsAny may_stop P B B' (B' - B) tt e (solve P no_level) (solve P no_level)
      (solve_alike IsStopped IsAny may_stop P no_level no_level (record { eval_alike = λ t b d q. inr refl; sorts_alike = λ t b d q. inr refl }));
}
levels_richer P B B' e (suc k) = level_alike IsStopped IsAny may_stop P B B' (B' - B) tt e (levels P B k) (levels P B' k) (levels_richer P B B' e k)

pub richer : {A : Type 0} (m m' : Run A) → AreAlike IsStopped IsAny may_stop m m' → IsRicher m m'
richer {A = A} m m' h b d = by (m b) (h b d tt)
  where
    by : (o : Outcome A) → IsAlike IsStopped IsAny may_stop d o (m' (b + d)) → (o ≡ ended stopped) ⊎ (m' (b + d) ≡ with_more d o)
    by (done x r c) (inl e) = absurd e
    by (done x r c) (inr e) = inr (sym e)
    by (ended z) (inl e) = inl (ap ended e)
    by (ended z) (inr e) = inr (sym e)

pub difference : (m n : ℕ) → m ≤ n → n ≡ m + (n - m)
difference m n h = omega arith

pub budgets_alone : BudgetsAlone
budgets_alone = (
  λ P k B B' h t. richer ((levels P B k).eval t) ((levels P B' k).eval t) ((levels_richer P B B' (difference B B' h) k).eval_alike t),
  λ P k B B' h t. richer ((levels P B k).sorts (norm P.sign.theory t)) ((levels P B' k).sorts (norm P.sign.theory t)) ((levels_richer P B B' (difference B B' h) k).sorts_alike (norm P.sign.theory t)),
  λ P k B B' h c σ. richer (solve P (levels P B k) c σ) (solve P (levels P B' k) c σ) (solve_alike IsStopped IsAny may_stop P (levels P B k) (levels P B' k) (levels_richer P B B' (difference B B' h) k) c σ),
  λ P k B B' h last c σ. richer (solve_after P (levels P B k) last c σ) (solve_after P (levels P B' k) last c σ) (solve_after_alike IsStopped IsAny may_stop P (levels P B k) (levels P B' k) (levels_richer P B B' (difference B B' h) k) last c σ),
)
