-- The first sort of a kind is the least of all that pairs join, and what follows for the numbers of kinds.
use Rattle.std.proofs.Common.{◌≡◌, ℕ, ◌≤◌, ◌⊎◌, ⊎_elim, inl, inr, List, [], ◌∷◌, refl, sym, ◌∙◌, subst, arith}
use Rattle.std.proofs.lemmas.Bool.Decides.{nat_tests}
use Rattle.std.proofs.lemmas.List.Elements.{Contains-append_left, Contains-append_right, Contains-append_cases, Contains-push_cases, Contains-push}
use Rattle.mau_poset.specs.Order.{no_step, step, Leads, AreJoined, first_united, first_sort}
use Rattle.mau_poset.proofs.Chains.{Chain-trans, Chain-one, AreJoined-sym, AreJoined-more}

-- ---- a list with one more pair in front

pub Leads-first : (p : ℕ × ℕ) (pairs : List (ℕ × ℕ)) → Leads (p ∷ pairs) p.0 p.1
Leads-first p pairs = Contains-append_left (p ∷ []) pairs p (Contains-push [] p)

pub Leads-later : (p : ℕ × ℕ) (pairs : List (ℕ × ℕ)) (a b : ℕ) → Leads pairs a b → Leads (p ∷ pairs) a b
Leads-later p pairs a b leads = Contains-append_right (p ∷ []) pairs (a, b) leads

pub Leads-cases : (p : ℕ × ℕ) (pairs : List (ℕ × ℕ)) (a b : ℕ) → Leads (p ∷ pairs) a b → (p ≡ (a, b)) ⊎ Leads pairs a b
Leads-cases p pairs a b leads = ⊎_elim
    (λ first. ⊎_elim
    (λ none. absurd (omega (arith, none.1)))
    (λ same. inl same)
    (Contains-push_cases [] p (a, b) first))
    (λ later. inr later)
    (Contains-append_cases (p ∷ []) pairs (a, b) leads)

-- ---- the first sort of a kind

first_united-le : (x y a : ℕ) → first_united x y a ≤ a
first_united-le x y a = grind (arith, nat_tests)

first_united-ends : (x y : ℕ) → first_united x y x ≡ first_united x y y
first_united-ends x y = grind (arith, nat_tests)

first_united-cases : (x y a : ℕ) → (first_united x y a ≡ a) ⊎ (((a ≡ x) × (first_united x y a ≡ y)) ⊎ ((a ≡ y) × (first_united x y a ≡ x)))
first_united-cases x y a = grind (arith, nat_tests)

first_sort-more : (p : ℕ × ℕ) (pairs : List (ℕ × ℕ)) (a : ℕ) → first_sort (p ∷ pairs) a ≡ first_united (first_sort pairs p.0) (first_sort pairs p.1) (first_sort pairs a)
unfolding first_sort
first_sort-more p pairs a = refl

pub first_sort-le : (pairs : List (ℕ × ℕ)) (a : ℕ) → first_sort pairs a ≤ a
unfolding first_sort
first_sort-le [] a = omega arith
first_sort-le (p ∷ pairs) a = rw (first_sort-more p pairs a) (omega (arith, first_united-le (first_sort pairs p.0) (first_sort pairs p.1) (first_sort pairs a), first_sort-le pairs a))

-- pairs join a sort to the first of its kind
pub first_sort-joined : (pairs : List (ℕ × ℕ)) (a : ℕ) → AreJoined pairs a (first_sort pairs a)
unfolding first_sort
first_sort-joined [] a = no_step
first_sort-joined (p ∷ pairs) a =
    let here : (c : ℕ) → AreJoined (p ∷ pairs) c (first_sort pairs c) = λ c. AreJoined-more pairs (p ∷ pairs) (Leads-later p pairs) (first_sort-joined pairs c) in
    let back : (c : ℕ) → AreJoined (p ∷ pairs) (first_sort pairs c) c = λ c. AreJoined-sym (p ∷ pairs) (here c) in
    let over : AreJoined (p ∷ pairs) p.0 p.1 = Chain-one (inl (Leads-first p pairs)) in
    rw (first_sort-more p pairs a) (⊎_elim
    (λ (same : first_united (first_sort pairs p.0) (first_sort pairs p.1) (first_sort pairs a) ≡ first_sort pairs a). rw same (here a))
    (λ changed. ⊎_elim
    (λ low. rw low.1 (Chain-trans (rw low.0 at (here a)) (Chain-trans (back p.0) (Chain-trans over (here p.1)))))
    (λ high. rw high.1 (Chain-trans (rw high.0 at (here a)) (Chain-trans (back p.1) (Chain-trans (AreJoined-sym (p ∷ pairs) over) (here p.0)))))
    changed)
    (first_united-cases (first_sort pairs p.0) (first_sort pairs p.1) (first_sort pairs a)))

-- the two ends of a pair are in one kind
pub first_sort-leads : (pairs : List (ℕ × ℕ)) (a b : ℕ) → Leads pairs a b → first_sort pairs a ≡ first_sort pairs b
first_sort-leads [] a b leads = absurd (omega (arith, leads.1))
first_sort-leads (p ∷ pairs) a b leads = ⊎_elim
    (λ (same : p ≡ (a, b)).
    let ends = first_united-ends (first_sort pairs p.0) (first_sort pairs p.1) in
    let whole : first_sort (p ∷ pairs) p.0 ≡ first_sort (p ∷ pairs) p.1 = rw (first_sort-more p pairs p.0, first_sort-more p pairs p.1) ends in
    subst (λ (q : ℕ × ℕ). first_sort (p ∷ pairs) q.0 ≡ first_sort (p ∷ pairs) q.1) same whole)
    (λ later. rw (first_sort-more p pairs a, first_sort-more p pairs b, first_sort-leads pairs a b later) refl)
    (Leads-cases p pairs a b leads)

-- sorts that pairs join have one first sort
pub first_sort-same : (pairs : List (ℕ × ℕ)) {a b : ℕ} → AreJoined pairs a b → first_sort pairs a ≡ first_sort pairs b
first_sort-same pairs no_step = refl
first_sort-same pairs (step (inl leads) r) = first_sort-leads pairs _ _ leads ∙ first_sort-same pairs r
first_sort-same pairs (step (inr leads) r) = sym (first_sort-leads pairs _ _ leads) ∙ first_sort-same pairs r

-- the first sort is at most each sort of its kind
pub first_sort-least : (pairs : List (ℕ × ℕ)) {a b : ℕ} → AreJoined pairs a b → first_sort pairs a ≤ b
first_sort-least pairs {a} {b} joined = omega (arith, first_sort-same pairs joined, first_sort-le pairs b)

-- a function on sorts that agrees on the ends of each pair agrees on all that pairs join
pub same_label : (pairs : List (ℕ × ℕ)) (label : ℕ → ℕ) {a b : ℕ} → ((c d : ℕ) → Leads pairs c d → label c ≡ label d) → AreJoined pairs a b → label a ≡ label b
same_label pairs label agree no_step = refl
same_label pairs label agree (step (inl leads) r) = agree _ _ leads ∙ same_label pairs label agree r
same_label pairs label agree (step (inr leads) r) = sym (agree _ _ leads) ∙ same_label pairs label agree r

-- such a function that gives a sort one of its kind that is not above it gives the first
pub first_sort-is : (pairs : List (ℕ × ℕ)) (label : ℕ → ℕ) (a : ℕ) → ((c d : ℕ) → Leads pairs c d → label c ≡ label d) → AreJoined pairs a (label a) → label (first_sort pairs a) ≤ first_sort pairs a → label a ≡ first_sort pairs a
first_sort-is pairs label a agree joined low =
    omega (arith, first_sort-least pairs joined, same_label pairs label agree (first_sort-joined pairs a))
