-- What is a value, an overflow, Yes, No or a known sort stays the same under larger limits: alike but for Stopped and Too deep.
use Rattle.std.proofs.Common.{◌≡◌, ℕ, zero, suc, ◌+◌, ◌≤◌, List, inl, inr, sym, arith}
use Rattle.mau_terms.specs.Tree.{Tree}
use Rattle.mau_terms.specs.Subst.{Variable}
use Rattle.mau_terms.specs.declared.theory.Theory.{Theory}
use Rattle.mau_evaluation.specs.Run.{End, stopped, too_deep, overflowed, Outcome, done, ended, Run, IsLarger, Grows}
use Rattle.mau_evaluation.specs.Program.{Fragment, Program}
use Rattle.mau_evaluation.specs.Evaluation.{Binding, Level, have_sorts, solve, solve_after, admit, no_level, levels}
use Rattle.mau_evaluation.specs.Larger.{IsLargerLevel}
use Rattle.mau_evaluation.proofs.Alike.{IsAlike, AreAlike, IsAlikeLevel, have_sorts_alike, solve_alike, solve_after_alike, sorts_of_alike, admit_alike, level_alike}

abbrev pub IsForLimits : End → Type 0
IsForLimits stopped = Unit {0}
IsForLimits too_deep = Unit {0}
IsForLimits overflowed = ⊥

abbrev pub IsAny : ℕ → Type 0
IsAny d = Unit {0}

pub may_stop : (d : ℕ) → IsAny (suc d) → IsForLimits stopped
may_stop d e = tt

abbrev AreSame : {A : Type 0} → Run A → Run A → Type 0
AreSame m m' = AreAlike IsForLimits IsAny may_stop m m'

pub grows : {A : Type 0} (m m' : Run A) → AreSame m m' → Grows m m'
grows {A = A} m m' h b d = by (m b) (m' (b + d)) (h b d tt)
  where
    by : (o o' : Outcome A) → IsAlike IsForLimits IsAny may_stop d o o' → IsLarger d o o'
    by (done x r c) o' (inl e) = absurd e
    by (done x r c) o' (inr e) = sym e
    by (ended stopped) o' e = tt
    by (ended too_deep) o' e = tt
    by (ended overflowed) o' (inl e) = absurd e
    by (ended overflowed) o' (inr e) = sym e

same : {A : Type 0} (m m' : Run A) → Grows m m' → AreSame m m'
same {A = A} m m' h b d q = by (m b) (m' (b + d)) (h b d)
  where
    by : (o o' : Outcome A) → IsLarger d o o' → IsAlike IsForLimits IsAny may_stop d o o'
    by (done x r c) o' e = inr (sym e)
    by (ended stopped) o' e = inl tt
    by (ended too_deep) o' e = inl tt
    by (ended overflowed) o' e = inr (sym e)

abbrev IsSameLevel : Level → Level → Type 0
IsSameLevel l l' = IsAlikeLevel IsForLimits IsAny may_stop l l'

same_level : (l l' : Level) → IsLargerLevel l l' → IsSameLevel l l'
same_level l l' h = record { eval_alike = λ t. same (l.eval t) (l'.eval t) (h.eval_grows t); sorts_alike = λ t. same (l.sorts t) (l'.sorts t) (h.sorts_grow t) }

pub have_sorts_grow : (f f' : Tree → Run (List ℕ)) → ((t : Tree) → Grows (f t) (f' t)) → (xs : List Variable) (vs : List Tree) → Grows (have_sorts f xs vs) (have_sorts f' xs vs)
have_sorts_grow f f' h xs vs = grows (have_sorts f xs vs) (have_sorts f' xs vs) (have_sorts_alike IsForLimits IsAny may_stop f f' (λ t. same (f t) (f' t) (h t)) xs vs)

pub solve_grows : (P : Program) (l l' : Level) → IsLargerLevel l l' → (c : List Fragment) (σ : Binding) → Grows (solve P l c σ) (solve P l' c σ)
solve_grows P l l' h c σ = grows (solve P l c σ) (solve P l' c σ) (solve_alike IsForLimits IsAny may_stop P l l' (same_level l l' h) c σ)

pub solve_after_grows : (P : Program) (l l' : Level) → IsLargerLevel l l' → (last : Binding) (c : List Fragment) (σ : Binding) → Grows (solve_after P l last c σ) (solve_after P l' last c σ)
solve_after_grows P l l' h last c σ = grows (solve_after P l last c σ) (solve_after P l' last c σ) (solve_after_alike IsForLimits IsAny may_stop P l l' (same_level l l' h) last c σ)

pub admit_grows : (th : ℕ → Theory) (t : Tree) → Grows (admit th t) (admit th t)
admit_grows th t = grows (admit th t) (admit th t) (admit_alike IsForLimits IsAny may_stop th t)

module _ (P : Program) (B B' d : ℕ) (e : B' ≡ B + d) where
  pub levels_same : (k k' : ℕ) → k ≤ k' → IsSameLevel (levels P B k) (levels P B' k')
  levels_same zero zero h = record {
    eval_alike = λ t b c q. inl tt;
    sorts_alike = sorts_of_alike IsForLimits IsAny may_stop P B B' d tt e (solve P no_level) (solve P no_level)
        (solve_alike IsForLimits IsAny may_stop P no_level no_level (record { eval_alike = λ t b c q. inl tt; sorts_alike = λ t b c q. inl tt }));
  }
  levels_same zero (suc k') h = record {
    eval_alike = λ t b c q. inl tt;
    sorts_alike = sorts_of_alike IsForLimits IsAny may_stop P B B' d tt e (solve P no_level) (solve P (levels P B' k'))
        (solve_alike IsForLimits IsAny may_stop P no_level (levels P B' k') (record { eval_alike = λ t b c q. inl tt; sorts_alike = λ t b c q. inl tt }));
  }
  levels_same (suc k) zero h = absurd (omega arith)
  levels_same (suc k) (suc k') h = level_alike IsForLimits IsAny may_stop P B B' d tt e (levels P B k) (levels P B' k') (levels_same k k' (omega arith))

  pub levels_grow : (k k' : ℕ) → k ≤ k' → IsLargerLevel (levels P B k) (levels P B' k')
  levels_grow k k' h =
      let s = levels_same k k' h in
      record { eval_grows = λ t. grows ((levels P B k).eval t) ((levels P B' k').eval t) (s.eval_alike t); sorts_grow = λ t. grows ((levels P B k).sorts t) ((levels P B' k').sorts t) (s.sorts_alike t) }
