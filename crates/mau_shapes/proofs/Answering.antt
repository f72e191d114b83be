-- Each text has one answer.
use Rattle.std.proofs.Common.{◌≡◌, ℕ, suc, ◌+◌, ◌-◌, ◌≤◌, ◌<◌, [], ◌∷◌, ◌++◌, length, take, drop, get_or, ◌⊎◌, inl, inr, Some, None, refl, sym, ap, ◌∙◌, subst, arith, append_assoc}
use Rattle.std.proofs.lemmas.Bool.{cases_order}
use Rattle.std.proofs.lemmas.List.{take-append-drop, take-take}
use Rattle.mau_shapes.specs.Words.{Word, Words}
use Rattle.mau_shapes.specs.Shape.{Shape, IsTextOf}
use Rattle.mau_shapes.specs.Front.{IsFront, IsUnexpected}
use Rattle.mau_shapes.specs.Reader.{State, operand, step, go_on, run, finish}
use Rattle.mau_shapes.proofs.Completing.{is_whole, leads_nowhere, ends_early}

-- ---- an answer

-- the word i leads nowhere
pub record Stuck (ws : Words) (x : State) : Type 0 where
  pub place : ℕ
  pub state : State
  pub within : place < length ws
  pub leads : run (take place ws) x ≡ Some state
  pub stops : step (get_or ws place []) state ≡ None

later : (w : Word) (ws : Words) (x y : State) → step w x ≡ Some y → Stuck ws y → Stuck (w ∷ ws) x
later w ws x y e h = record {
  place = suc h.place;
  state = h.state;
  within = omega (arith, h.within);
  leads = ap (λ o. go_on o (run (take h.place ws))) e ∙ h.leads;
  stops = h.stops;
}

pub led_or_stuck : (ws : Words) (x : State) → ((y : State) × (run ws x ≡ Some y)) ⊎ Stuck ws x
led_or_stuck [] x = inl (x, refl)
led_or_stuck (w ∷ ws) x =
    (elim (step w x) as (λ o. step w x ≡ o → ((y : State) × (go_on o (run ws) ≡ Some y)) ⊎ Stuck (w ∷ ws) x) [
      | None ↦ λ e. inr (record { place = 0; state = x; within = omega arith; leads = refl; stops = e })
      | Some y ↦ λ e. elim (led_or_stuck ws y) [ inl a ↦ inl a | inr b ↦ inr (later w ws x y e b) ]
    ]) refl

pub answered : (ws : Words) → 0 < length ws → ((s : Shape) × IsTextOf ws s) ⊎ ((i : ℕ) × IsUnexpected ws i)
answered ws l = elim (led_or_stuck ws (operand [])) [
  | inl a ↦ (elim (finish a.0) as (λ o. finish a.0 ≡ o → ((s : Shape) × IsTextOf ws s) ⊎ ((i : ℕ) × IsUnexpected ws i)) [
    | None ↦ λ e. inr (length ws - 1, ends_early ws a.0 l a.1 e)
    | Some s ↦ λ e. inl (s, is_whole ws a.0 s a.1 e)
  ]) refl
  | inr b ↦ inr (b.place, leads_nowhere ws b.place b.state b.within b.leads b.stops)
]

-- ---- one answer

-- the words before a front are one
pub front_before : (ws : Words) (i j : ℕ) → i ≤ j → IsFront (take j ws) → IsFront (take i ws)
front_before ws i j le f =
    let t : take i (take j ws) ≡ take i ws = take-take i j ws le in
    let r : take i (take j ws) ++ drop i (take j ws) ≡ take j ws = take-append-drop i (take j ws) in
    let e : take j ws ++ f.more ≡ take i ws ++ (drop i (take j ws) ++ f.more)
    = ap (λ z. z ++ f.more) (sym r) ∙ (append_assoc (take i (take j ws)) (drop i (take j ws)) f.more ∙ ap (λ z. z ++ (drop i (take j ws) ++ f.more)) t) in
    record { shape = f.shape; more = drop i (take j ws) ++ f.more; reads = subst (λ z. IsTextOf z f.shape) e f.reads }

front_of_text : (ws : Words) (i : ℕ) (s : Shape) → IsTextOf ws s → IsFront (take i ws)
front_of_text ws i s h = record { shape = s; more = drop i ws; reads = subst (λ z. IsTextOf z s) (sym (take-append-drop i ws)) h }

pub no_text : (ws : Words) (i : ℕ) → IsUnexpected ws i → (s : Shape) → IsTextOf ws s → ⊥
no_text ws i u s h = elim u.fault [ inl f ↦ f (front_of_text ws (i + 1) s h) | inr e ↦ e.1 s h ]

not_before : (ws : Words) (i j : ℕ) → IsUnexpected ws i → IsUnexpected ws j → i < j → ⊥
not_before ws i j u v l = elim u.fault [
  | inl f ↦ f (front_before ws (i + 1) j (omega (arith, l)) v.front)
  | inr e ↦ absurd (let there : j < length ws = v.there in let last : i + 1 ≡ length ws = e.0 in omega (arith, l))
]

pub one_fault : (ws : Words) (i j : ℕ) → IsUnexpected ws i → IsUnexpected ws j → i ≡ j
one_fault ws i j u v = elim (cases_order i j) [
  | inl e ↦ e
  | inr o ↦ elim o [ inl l ↦ absurd (not_before ws i j u v l) | inr l ↦ absurd (not_before ws j i v u l) ]
]
