-- Where the settling of a term ends, the sorts of the term or of an identity end so.
use Rattle.std.proofs.Common.{◌≡◌, ◌⊎◌, inl, inr, ◌≤◌, ◌+◌, ℕ, suc, List, [], ◌∷◌, All, Result, Ok, Err, IfErr, refl, sym, ap, ◌∙◌, subst, arith}
use Rattle.std.proofs.lemmas.List.Elements.{All-head, All-tail}
use Rattle.mau_terms.specs.Tree.{Tree}
use Rattle.mau_terms.specs.Norm.{norm}
use Rattle.mau_terms.specs.Finite.{IsIn}
use Rattle.mau_signature.specs.Signature.{theory_at}
use Rattle.mau_evaluation.specs.Run.{End, stopped, too_deep, overflowed, Outcome, done, ended, Run, gives, counted, go_on, and_then, each_in_turn, IsLeft, NeverRises}
use Rattle.mau_evaluation.specs.Program.{Program}
use Rattle.mau_evaluation.specs.Evaluation.{levels, settle}
use Rattle.mau_evaluation.proofs.Falls.{each_falls, levels_fall}
use Rattle.mau_api.specs.Programs.{program_over, identities_of}
use Rattle.mau_api.specs.Terms.{IsNormalBare}
use Rattle.mau_api.specs.Answers.{levels_of_condition, IsOneToSettle, MayEnd}
use Rattle.mau_api.specs.declared.results.EvalEnd.{EvalEnd}
use Rattle.mau_api.specs.declared.results.EvalEnd.TheVariants.{Stopped, TooDeep, Overflow, NoMemory}
use Rattle.mau_settling.proofs.Units.{identities_bare}
use Rattle.mau_machine.specs.Words.{ComesToEnd, settle_on}
use Rattle.mau_reducer.specs.Basis.{Basis, IsBasis}
use Rattle.mau_reducer.specs.Handles.{rules_of}
use Rattle.mau_reducer.specs.Meant.{meanings_of}
use Rattle.mau_reducer.specs.MeantLaws.{sorting_is}
use Rattle.mau_reducer.proofs.Reached.{end_reached, too_deep_by}

from_counted : {A : Type 0} (r : ℕ) (o : Outcome A) (e : End) → counted r o ≡ ended e → o ≡ ended e
from_counted r (done x q b) e h = absurd (cc h)
from_counted r (ended d) e h = h

-- one of them ends so, with no more budget than there was
each_ends : {A B : Type 0} (f : A → Run B) → ((x : A) → NeverRises (f x)) → (xs : List A) (b : ℕ) (e : End) → each_in_turn f xs b ≡ ended e → (x : A) × (c : ℕ) × IsIn x xs × (c ≤ b) × (f x c ≡ ended e)
each_ends f falls [] b e h = absurd (cc h)
each_ends {A = A} {B = B} f falls (x ∷ xs) b e h = by (f x b) refl (falls x b) h (λ c k. each_ends f falls xs c e k)
  where
    inner : (y : B) (c r : ℕ) (o : Outcome (List B)) → each_in_turn f xs c ≡ o → counted r (go_on (λ ys. gives (y ∷ ys)) o) ≡ ended e → each_in_turn f xs c ≡ ended e
    inner y c r (ended d) q k = let same : d ≡ e = cc in q ∙ ap (λ z. ended z) same
    inner y c r (done ys n a) q k = absurd (cc k)

    by : (o : Outcome B) → f x b ≡ o → IsLeft b o → go_on (λ y. and_then (each_in_turn f xs) (λ ys. gives (y ∷ ys))) o ≡ ended e →
        ((c : ℕ) → each_in_turn f xs c ≡ ended e → (z : A) × (a : ℕ) × IsIn z xs × (a ≤ c) × (f z a ≡ ended e)) → (z : A) × (c : ℕ) × IsIn z (x ∷ xs) × (c ≤ b) × (f z c ≡ ended e)
    by (ended d) q left k rest = let same : d ≡ e = cc in (x, b, inl refl, omega arith, q ∙ ap (λ z. ended z) same)
    by (done y r c) q left k rest =
        let z = rest c (inner y c r (each_in_turn f xs c) refl k) in
        (z.0, z.1, inr z.2, omega (arith, z.3, left), z.4)

-- settling by k levels
settle_ends : (P : Program) (B k : ℕ) (t : Tree) (b : ℕ) (e : End) → settle P (levels P B k) (levels P B (suc k)).sorts t b ≡ ended e →
    (u : Tree) × (c : ℕ) × ((u ≡ t) ⊎ IsIn u P.units) × (c ≤ b) × ((levels P B (suc k)).sorts u c ≡ ended e)
settle_ends P B k t b e h = one_ends P.units (levels P B (suc k)).sorts (levels_fall P B (suc k)).sorts_fall t b e h
  where
    one_ends : (us : List Tree) (f : Tree → Run (List ℕ)) → ((u : Tree) → NeverRises (f u)) → (t : Tree) (b : ℕ) (e : End) → and_then (each_in_turn f us) (λ ss. f t) b ≡ ended e →
        (u : Tree) × (c : ℕ) × ((u ≡ t) ⊎ IsIn u us) × (c ≤ b) × (f u c ≡ ended e)
    one_ends us f falls t b e h = by (each_in_turn f us b) refl (each_falls f falls us b) h
      where
        by : (o : Outcome (List (List ℕ))) → each_in_turn f us b ≡ o → IsLeft b o → go_on (λ ss. f t) o ≡ ended e → (u : Tree) × (c : ℕ) × ((u ≡ t) ⊎ IsIn u us) × (c ≤ b) × (f u c ≡ ended e)
        by (ended d) q left k =
            let same : d ≡ e = cc in
            let z = each_ends f falls us b e (q ∙ ap (λ y. ended y) same) in
            (z.0, z.1, inr z.2, z.3, z.4)
        by (done ss r c) q left k = (t, c, inl refl, omega (arith, left), from_counted r (f t c) e k)

-- ---- as an evaluator says it

module _ (b : Basis) (basis : IsBasis b) (n : ℕ) (same : n ≡ levels_of_condition) (t : Tree) (normal : norm (theory_at b.program.sig) t ≡ t) where
  abbrev P : Program
  P = program_over b.program b.hooks

  one_bare : (us : List Tree) → All (IsNormalBare b.program.sig) us → (u : Tree) → IsIn u us → norm (theory_at b.program.sig) u ≡ u
  one_bare [] all u i = absurd i
  one_bare (x ∷ xs) all u (inl e) = subst (λ y. norm (theory_at b.program.sig) y ≡ y) (sym e) (All-head (IsNormalBare b.program.sig) x xs all).0
  one_bare (x ∷ xs) all u (inr i) = one_bare xs (All-tail (IsNormalBare b.program.sig) x xs all) u i

  one_normal : (u : Tree) → IsOneToSettle (meanings_of b) t u → norm (theory_at b.program.sig) u ≡ u
  one_normal u (inl e) = subst (λ y. norm (theory_at b.program.sig) y ≡ y) (sym e) normal
  one_normal u (inr i) = one_bare (identities_of b.program.sig) (identities_bare b.program.sig basis.reducible.lawful) u i

  sorting_ends : (u : Tree) → IsOneToSettle (meanings_of b) t u → (k c : ℕ) (e : End) → (levels P b.limit k).sorts u c ≡ ended e → (meanings_of b).sorting k b.limit u c ≡ ended e
  sorting_ends u one k c e h = ap (λ (r : Run (List ℕ)). r c) (sorting_is P k b.limit u) ∙ (ap (λ y. (levels P b.limit k).sorts y c) (one_normal u one) ∙ h)

  pub may_end : (e : EvalEnd) → ((c : ℕ) → ComesToEnd P (λ j. settle_on (rules_of b) (n + j) t c) e) → MayEnd (meanings_of b) t e
  may_end Stopped h =
      let k = end_reached P (λ j. settle_on (rules_of b) j t 0) n Stopped (h 0) in
      let z = settle_ends P b.limit k.levels t 0 stopped k.is in
      let none : z.1 ≡ 0 = omega (arith, z.3) in
      (z.0, z.2, (suc k.levels, sorting_ends z.0 z.2 (suc k.levels) 0 stopped (subst (λ c. (levels P b.limit (suc k.levels)).sorts z.0 c ≡ ended stopped) none z.4)))
  may_end TooDeep h =
      let k = too_deep_by P (λ j. settle_on (rules_of b) j t 0) n (h 0) in
      let z = settle_ends P b.limit n t 0 too_deep k in
      (z.0, z.2, (b.limit, z.1, subst (λ j. (meanings_of b).sorting (suc j) b.limit z.0 z.1 ≡ ended too_deep) same (sorting_ends z.0 z.2 (suc n) z.1 too_deep z.4)))
  may_end Overflow h =
      let k = end_reached P (λ j. settle_on (rules_of b) j t 0) n Overflow (h 0) in
      let z = settle_ends P b.limit k.levels t 0 overflowed k.is in
      (z.0, z.2, (suc k.levels, b.limit, z.1, omega (arith, k.enough, same), omega arith, omega arith, sorting_ends z.0 z.2 (suc k.levels) z.1 overflowed z.4))
  may_end NoMemory h = (t, inl refl, tt)

  pub settling_ends : {A : Type 0} (r : Result A EvalEnd) → ((c : ℕ) → IfErr r (ComesToEnd P (λ j. settle_on (rules_of b) (n + j) t c))) → IfErr r (MayEnd (meanings_of b) t)
  settling_ends (Ok x) h = tt
  settling_ends (Err e) h = may_end e h
