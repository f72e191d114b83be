-- The values that uses lead to, one after another.
use Rattle.std.proofs.Common.{◌≡◌, ℕ, true, false, Option, Some, refl, ap, ◌∙◌}
use Rattle.mau_terms.specs.Tree.{Tree}
use Rattle.mau_terms.specs.Bare.{IsLawful}
use Rattle.mau_evaluation.specs.Run.{End, stopped, too_deep, overflowed, done, ended}
use Rattle.mau_evaluation.specs.Program.{Program}
use Rattle.mau_evaluation.specs.Engine.{Engine, Engines, engine_of}
use Rattle.mau_evaluation.specs.Rules.{Place, rewritten}
use Rattle.mau_evaluation.specs.Questions.{evaluates}
use Rattle.mau_evaluation.specs.Answers.{Answers, and_those, for_each, from_outcome}
use Rattle.mau_evaluation.specs.OrderedLists.{only}
use Rattle.mau_api.specs.Answers.{levels_of_condition}
use Rattle.mau_api.specs.declared.results.EvalEnd.{EvalEnd}
use Rattle.mau_api.specs.declared.results.EvalEnd.TheVariants.{Stopped, TooDeep, Overflow, NoMemory}
use Rattle.mau_leaves.specs.Steps.{Gives, IsOver, Passes, EndsNow, Throughout}
use Rattle.mau_leaves.specs.Uses.{Use, value_at}
use Rattle.mau_leaves.specs.Answers.{ComesTo, QuestionEnds, IsDueBy}
use Rattle.mau_leaves.specs.Top.{values_left}
use Rattle.mau_leaves.proofs.Steps.{through_as, due_as}
use Rattle.mau_leaves.proofs.Throughs.{valued_through, valued_due}

module _ (E : Engines) (V : Engine → Use → Answers Tree) (now : Engine → Answers Use → Type 0) (o : Option Use) where
  abbrev Old : Engine → Answers Tree → Type 0
  Old L = values_left (V L) (now L) o false

  ends_still : (L : Engine) (e : End) → EndsNow (now L) e → EndsNow (values_left (V L) (now L) o false) e
  ends_still L e h q (r, n, s) = s ∙ ap (for_each (V L)) (h r n)

  pub found_result : (u : Use) (after : Engine → Answers Use → Type 0) → Throughout E now (λ L. Gives (now L) u (after L)) →
      Throughout E (λ L. values_left (V L) (now L) o false) (λ L. Passes (values_left (V L) (now L) o false) (values_left (V L) (after L) (Some u) true))
  found_result u after h =
      through_as E now Old {H = λ L. Gives (now L) u (after L)} {K = λ L. Passes (Old L) (values_left (V L) (after L) (Some u) true)}
      (λ L k q n. let g = k n.0 n.1 in (g.0, g.2, n.2 ∙ ap (for_each (V L)) g.1)) ends_still h

  pub over_result : Throughout E now (λ L. IsOver (now L)) → Throughout E (λ L. values_left (V L) (now L) o false) (λ L. IsOver (values_left (V L) (now L) o false))
  over_result h = through_as E now Old {H = λ L. IsOver (now L)} {K = λ L. IsOver (Old L)} (λ L k q n. n.2 ∙ ap (for_each (V L)) (k n.0 n.1)) ends_still h

  pub passes_result : (u : Option Use) (after : Engine → Answers Use → Type 0) → Throughout E now (λ L. Passes (now L) (after L)) →
      Throughout E (λ L. values_left (V L) (now L) o false) (λ L. Passes (values_left (V L) (now L) o false) (values_left (V L) (after L) u false))
  passes_result u after h =
      through_as E now Old {H = λ L. Passes (now L) (after L)} {K = λ L. Passes (Old L) (values_left (V L) (after L) u false)} (λ L k q n. (n.0, k n.0 n.1, n.2)) ends_still h

module _ (P : Program) (b : ℕ) (V : Engine → Use → Answers Tree) (now : Engine → Answers Use → Type 0) (o : Option Use) where
  pub due_result : (e : EvalEnd) → IsDueBy P b now e → IsDueBy P b (λ L. values_left (V L) (now L) o false) e
  due_result Stopped h = due_as (engine_of P) now (λ L. values_left (V L) (now L) o false) (ends_still (engine_of P) V now o) P levels_of_condition b stopped h
  due_result TooDeep h = due_as (engine_of P) now (λ L. values_left (V L) (now L) o false) (ends_still (engine_of P) V now o) P levels_of_condition b too_deep h
  due_result Overflow h = due_as (engine_of P) now (λ L. values_left (V L) (now L) o false) (ends_still (engine_of P) V now o) P levels_of_condition b overflowed h
  due_result NoMemory h = tt

-- ---- the value of the last use

module _ (P : Program) (lawful : IsLawful P.sign) (s : Place) (now : Engine → Answers Use → Type 0) (u : Use) (w : Tree) (is : (L : Engine) → rewritten P L u.rule s u.solution u.values ≡ w) where
  abbrev Due : Engine → Answers Tree → Type 0
  Due L = values_left (value_at P L s) (now L) (Some u) true

  ends_there : (L : Engine) (f : End) → L.level.eval w L.budget ≡ ended f → EndsNow (values_left (value_at P L s) (now L) (Some u) true) f
  ends_there L f h q n = n.2 ∙ ap (λ z. and_those z (for_each (value_at P L s) n.0)) (ap (λ t. from_outcome only (L.level.eval t L.budget)) (is L) ∙ ap (from_outcome only) h)

  gives_there : (v : Tree) (k : Option Use) (L : Engine) (r l : ℕ) → L.level.eval w L.budget ≡ done v r l → Gives (values_left (value_at P L s) (now L) (Some u) true) v (values_left (value_at P L s) (now L) k false)
  gives_there v k L r l h q n = (
    for_each (value_at P L s) n.0,
    n.2 ∙ ap (λ z. and_those z (for_each (value_at P L s) n.0)) (ap (λ t. from_outcome only (L.level.eval t L.budget)) (is L) ∙ ap (from_outcome only) h),
    (n.0, n.1, refl),
  )

  pub value_result : (v : Tree) (k : Option Use) → ComesTo P (λ L. L.level.eval w) v → Throughout (engine_of P) (λ L. values_left (value_at P L s) (now L) (Some u) true) (λ L.
      Gives (values_left (value_at P L s) (now L) (Some u) true) v (values_left (value_at P L s) (now L) k false))
  value_result v k comes = valued_through P lawful Due w ends_there v (λ L. Gives (Due L) v (values_left (value_at P L s) (now L) k false)) (gives_there v k) comes

  pub value_due : (b : ℕ) (e : EvalEnd) → QuestionEnds P b (evaluates w) e → IsDueBy P b (λ L. values_left (value_at P L s) (now L) (Some u) true) e
  value_due b e h = valued_due P lawful Due w ends_there b e h
