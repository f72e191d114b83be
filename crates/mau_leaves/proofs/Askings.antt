-- A condition that is asked on and on.
use Rattle.std.proofs.Common.{◌≡◌, ℕ, List, [], ◌∷◌, ◌++◌, Option, Some, None, refl, ap, ◌∙◌, subst}
use Rattle.mau_evaluation.specs.Run.{End, Outcome, done, ended}
use Rattle.mau_evaluation.specs.Program.{Fragment, Program}
use Rattle.mau_evaluation.specs.Evaluation.{Binding}
use Rattle.mau_evaluation.specs.Engine.{Engine}
use Rattle.mau_evaluation.specs.Answers.{Answers, no_more, answer, before, FirstBy}
use Rattle.mau_evaluation.specs.OrderedLists.{shown, asked_from}
use Rattle.mau_leaves.specs.Steps.{Gives, IsOver, EndsNow}
use Rattle.mau_leaves.specs.Uses.{condition_from, IsAskedFrom}
use Rattle.mau_leaves.proofs.Engines.{AsksRightly}

pub before_more : {A : Type 0} (xs : List A) (y : A) (p : Answers A) → before xs (answer y p) ≡ before (xs ++ y ∷ []) p
before_more [] y p = refl
before_more (x ∷ xs) y p = ap (answer x) (before_more xs y p)

module _ (P : Program) (L : Engine) (right : AsksRightly P L) (c : List Fragment) (σ : Binding) where
  -- a first one is there
  first_by : (x : Binding) (r l : ℕ) (o : Outcome (Option Binding)) (p : Answers Binding) → o ≡ done (Some x) r l → FirstBy o p → (q : Answers Binding) × (p ≡ answer x q)
  first_by x r l o p e h = subst (λ z. FirstBy z p) e h

  none_by : (r l : ℕ) (o : Outcome (Option Binding)) (p : Answers Binding) → o ≡ done None r l → FirstBy o p → p ≡ no_more
  none_by r l o p e h = subst (λ z. FirstBy z p) e h

  pub asked_gives : (o : Option Binding) (x : Binding) (r l : ℕ) → condition_from P L o c σ L.budget ≡ done (Some x) r l → Gives (IsAskedFrom P L o c σ) x (IsAskedFrom P L (Some x) c σ)
  asked_gives None x r l e p n =
      let h = first_by x r l (L.ask c σ L.budget) (shown P L c σ) e (right.first c σ) in (
        asked_from P L c σ (L.ask_after x c σ L.budget) h.0,
        n ∙ (ap (λ z. asked_from P L c σ z (shown P L c σ)) e ∙ ap (asked_from P L c σ (done (Some x) r l)) h.1),
        record { given = []; more = h.0; listed = h.1; rest_is = refl },
      )
  asked_gives (Some last) x r l e p n =
      let h = first_by x r l (L.ask_after last c σ L.budget) n.more e (right.next c σ last n.given n.more n.listed) in (
        asked_from P L c σ (L.ask_after x c σ L.budget) h.0,
        n.rest_is ∙ (ap (λ z. asked_from P L c σ z n.more) e ∙ ap (asked_from P L c σ (done (Some x) r l)) h.1),
        record { given = n.given ++ last ∷ []; more = h.0; listed = n.listed ∙ (before_more n.given last n.more ∙ ap (before (n.given ++ last ∷ [])) h.1); rest_is = refl },
      )

  pub asked_over : (o : Option Binding) (r l : ℕ) → condition_from P L o c σ L.budget ≡ done None r l → IsOver (IsAskedFrom P L o c σ)
  asked_over None r l e p n = n ∙ (ap (λ z. asked_from P L c σ z (shown P L c σ)) e ∙ ap (asked_from P L c σ (done None r l)) (none_by r l (L.ask c σ L.budget) (shown P L c σ) e (right.first c σ)))
  asked_over (Some last) r l e p n =
      n.rest_is ∙ (ap (λ z. asked_from P L c σ z n.more) e ∙ ap (asked_from P L c σ (done None r l)) (none_by r l (L.ask_after last c σ L.budget) n.more e (right.next c σ last n.given n.more n.listed)))

  pub asked_ends : (o : Option Binding) (f : End) → condition_from P L o c σ L.budget ≡ ended f → EndsNow (IsAskedFrom P L o c σ) f
  asked_ends None f e p n = n ∙ ap (λ z. asked_from P L c σ z (shown P L c σ)) e
  asked_ends (Some last) f e p n = n.rest_is ∙ ap (λ z. asked_from P L c σ z n.more) e
