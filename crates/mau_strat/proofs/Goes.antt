-- What a run keeps from step to step.
use Rattle.std.proofs.Common.{◌≡◌, ℕ, List, [], ◌∷◌, ◌++◌, get_or, All, Contains, Bool, true, false, Some, None, sym, ◌∙◌, ap, subst, append_assoc, append-nil}
use Rattle.std.proofs.lemmas.List.Elements.{All-push, All-nil, Contains-get_or, Contains-append_right}
use Rattle.mau_strat.specs.declared.walk.WalkEnd.{WalkEnd}
use Rattle.mau_evaluation.specs.Reach.{IsClosed}
use Rattle.mau_strat.specs.Walks.{AnswerIs, EndIs, EndAfter}
use Rattle.mau_strat.proofs.Turns.{Lists}

-- from what was listed at first, so far no solution is new
pub record WentOn (solves : ℕ → Bool) (old now : List ℕ) : Type 0 where
  pub more : List ℕ
  pub is : now ≡ old ++ more
  pub not_solved : All (λ c. solves c ≡ false) more

pub none_yet : (solves : ℕ → Bool) (old : List ℕ) → WentOn solves old old
none_yet solves old = record { more = []; is = sym (append-nil old); not_solved = All-nil (λ c. solves c ≡ false) }

-- a listed one is a solution where it was
abbrev pub SameSolves : (ℕ → Bool) → (ℕ → Bool) → List ℕ → Type 0
SameSolves solves solves' seen = (c : ℕ) → Contains seen c → solves' c ≡ solves c

module _ (solves solves' : ℕ → Bool) (old now new : List ℕ) (h : WentOn solves old now) (same : SameSolves solves solves' now) where
  still : All (λ c. solves' c ≡ false) h.more
  still k d l =
      let x = get_or h.more k d in
      same x (subst (λ z. Contains z x) (sym h.is) (Contains-append_right old h.more x (Contains-get_or h.more k d l))) ∙ h.not_solved k d l

  pub on_again : new ≡ now → WentOn solves' old new
  on_again e = record { more = h.more; is = e ∙ h.is; not_solved = still }

  pub on_entered : (c : ℕ) → new ≡ now ++ c ∷ [] → solves' c ≡ false → WentOn solves' old new
  on_entered c e f = record {
    more = h.more ++ c ∷ [];
    is = e ∙ (ap (λ xs. xs ++ c ∷ []) h.is ∙ append_assoc old h.more (c ∷ []));
    not_solved = All-push (λ d. solves' d ≡ false) h.more c still f;
  }

  -- the answers
  pub on_done : (B N : Lists) → new ≡ now → IsClosed B N new → AnswerIs B N solves' old new None
  on_done B N e k = (h.more, e ∙ h.is, still, k)

  pub on_solved : (B N : Lists) (c : ℕ) → new ≡ now ++ c ∷ [] → solves' c ≡ true → AnswerIs B N solves' old new (Some c)
  on_solved B N c e f = (h.more, e ∙ ap (λ xs. xs ++ c ∷ []) h.is, still, f)

  pub on_end : {C : Type 0} (B N : Lists) (due : ℕ → List ℕ → C → Type 0) (limit : ℕ) (x : WalkEnd C) → new ≡ now → EndIs B N due limit new x → EndAfter B N due solves' limit old new x
  on_end B N due limit x e k = (h.more, e ∙ h.is, still, k)
