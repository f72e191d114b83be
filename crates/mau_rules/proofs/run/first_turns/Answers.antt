use Rattle.std.proofs.Common.{◌≡◌, ◌+◌, ◌++◌, ◌∷◌, [], ℕ, zero, suc, List, length, get_or, refl, ap, ◌∙◌, arith, length-append}
use Rattle.mau_rules.proofs.run.first_turns.Goals as goal

no_turn : (xs : List ℕ) → ((f : ℕ) → get_or xs f 0 ≡ 0) → (f : ℕ) → get_or (xs ++ 0 ∷ []) f 0 ≡ 0
no_turn [] h zero = refl
no_turn [] h (suc f) = refl
no_turn (x ∷ xs) h zero = h 0
no_turn (x ∷ xs) h (suc f) = no_turn xs (λ g. h (suc g)) f

none_before : (xs ys : List ℕ) → xs ≡ [] → ys ≡ xs ++ 0 ∷ [] → (f : ℕ) → get_or ys f 0 ≡ 0
none_before xs ys e h f = ap (λ (zs : List ℕ). get_or zs f 0) h ∙ no_turn xs (λ g. ap (λ (zs : List ℕ). get_or zs g 0) e) f

longer : (xs ys : List ℕ) (n : ℕ) → length xs ≡ n → ys ≡ xs ++ 0 ∷ [] → length ys ≡ suc n
longer xs ys n h e = ap length e ∙ (length-append xs (0 ∷ []) ∙ omega (arith, h))

pub loop-init : goal.loop-init
loop-init c = (
  longer c.new-turns.result.items c.push.new.self.items 0 (ap (λ (xs : List ℕ). length xs) c.new-turns.ensures.items) c.in_ok-push.ensures.items,
  none_before c.new-turns.result.items c.push.new.self.items c.new-turns.ensures.items c.in_ok-push.ensures.items,
)

pub loop-preserved : goal.loop-preserved
loop-preserved c = (
  longer c.loop.turns.items c.push-in-loop.new.self.items (suc c.loop.counter) c.loop.invariant.0 c.in_ok-push-2.ensures.items ∙ next c.loop.counter,
  λ f. ap (λ (xs : List ℕ). get_or xs f 0) c.in_ok-push-2.ensures.items ∙ no_turn c.loop.turns.items c.loop.invariant.1 f,
)
  where
    next : (n : ℕ) → suc (suc n) ≡ suc (n + 1)
    next n = omega arith

pub returns-clause-first : goal.returns-clause-first
returns-clause-first c = λ f. c.loop.invariant.1 f

pub returns-clause-as_many : goal.returns-clause-as_many
returns-clause-as_many c = omega (arith, c.loop-test.false, c.loop.auto.counter-end, c.loop.invariant.0)
