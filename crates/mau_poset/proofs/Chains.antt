-- Chains of steps, and what is below what by them.
use Rattle.std.proofs.Common.{ℕ, ◌<◌, inl, inr, List}
use Rattle.std.proofs.lemmas.List.Elements.{All-contains}
use Rattle.mau_poset.specs.Order.{Chain, no_step, step, Leads, IsBelow, IsWithin, Joins, AreJoined}

pub Chain-trans : {Step : ℕ → ℕ → Type 0} {a b c : ℕ} → Chain Step a b → Chain Step b c → Chain Step a c
Chain-trans no_step d = d
Chain-trans (step s r) d = step s (Chain-trans r d)

-- one pair is a chain of at least one
pub IsBelow-one : (pairs : List (ℕ × ℕ)) (a b : ℕ) → Leads pairs a b → IsBelow pairs a b
IsBelow-one pairs a b l = (b, l, no_step)

-- a pair before a chain
pub IsBelow-more : (pairs : List (ℕ × ℕ)) (a b c : ℕ) → Leads pairs a b → IsBelow pairs b c → IsBelow pairs a c
IsBelow-more pairs a b c l h = (b, l, step h.1 h.2)

-- ---- the sorts of a chain are those that the pairs name

pub Leads-within : (pairs : List (ℕ × ℕ)) (n a b : ℕ) → IsWithin pairs n → Leads pairs a b → (a < n) × (b < n)
Leads-within pairs n a b within leads = All-contains (λ (p : ℕ × ℕ). (p.0 < n) × (p.1 < n)) pairs (a, b) within leads

pub Chain-within : (pairs : List (ℕ × ℕ)) (n : ℕ) {a b : ℕ} → IsWithin pairs n → Chain (Leads pairs) a b → a < n → b < n
Chain-within pairs n within no_step a_in = a_in
Chain-within pairs n {a} within (step {b = c} s r) a_in = Chain-within pairs n within r (Leads-within pairs n a c within s).1

pub IsBelow-within : (pairs : List (ℕ × ℕ)) (n a b : ℕ) → IsWithin pairs n → IsBelow pairs a b → (a < n) × (b < n)
IsBelow-within pairs n a b within h =
    let ends = Leads-within pairs n a h.0 within h.1 in
    (ends.0, Chain-within pairs n within h.2 ends.1)

-- ---- sorts that pairs join

pub Chain-one : {Step : ℕ → ℕ → Type 0} {a b : ℕ} → Step a b → Chain Step a b
Chain-one s = step s no_step

pub AreJoined-sym : (pairs : List (ℕ × ℕ)) {a b : ℕ} → AreJoined pairs a b → AreJoined pairs b a
AreJoined-sym pairs no_step = no_step
AreJoined-sym pairs (step s r) = Chain-trans (AreJoined-sym pairs r) (Chain-one (turned s))
  where
    turned : {a b : ℕ} → Joins pairs a b → Joins pairs b a
    turned (inl leads) = inr leads
    turned (inr leads) = inl leads

pub AreJoined-more : (pairs more : List (ℕ × ℕ)) {a b : ℕ} → ((c d : ℕ) → Leads pairs c d → Leads more c d) → AreJoined pairs a b → AreJoined more a b
AreJoined-more pairs more within no_step = no_step
AreJoined-more pairs more within (step (inl leads) r) = step (inl (within _ _ leads)) (AreJoined-more pairs more within r)
AreJoined-more pairs more within (step (inr leads) r) = step (inr (within _ _ leads)) (AreJoined-more pairs more within r)

pub IsBelow-trans : (pairs : List (ℕ × ℕ)) (a b c : ℕ) → IsBelow pairs a b → IsBelow pairs b c → IsBelow pairs a c
IsBelow-trans pairs a b c p q = (p.0, p.1, Chain-trans p.2 (step q.1 q.2))
