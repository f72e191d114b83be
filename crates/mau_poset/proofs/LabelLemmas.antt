-- Labels, one of them lowered, and labels that agree on the ends of each pair.
use Rattle.std.proofs.Common.{◌≡◌, ℕ, ◌+◌, ◌<◌, ◌≤◌, ◌||◌, ⊎_elim, Bool, true, false, List, length, get_or, set, take, sum, sym, subst, ◌∙◌, arith}
use Rattle.std.specs.Bool.{OnFalse}
use Rattle.std.proofs.lemmas.Bool.{OnFalse_from, OnFalse_at, cases_eq}
use Rattle.std.proofs.lemmas.List.{get_or-set_same, get_or-set_other, length-set, take_all}
use Rattle.std.proofs.lemmas.List.Elements.{All-more, All-contains}
use Rattle.std.proofs.lemmas.List.Sums.{sum_by-set}
use Rattle.mau_poset.specs.Order.{no_step, AreJoined, first_sort}
use Rattle.mau_poset.specs.Labels.{AreLow, AreLabels, HaveOneLabel, Sank}
use Rattle.mau_poset.proofs.FirstSorts.{first_sort-le, first_sort-is}

-- a label that pairs join to its sort may take the place of another
pub AreLabels-set : (pairs : List (ℕ × ℕ)) (labels : List ℕ) (at to : ℕ) → AreJoined pairs at to → AreLabels pairs labels → AreLabels pairs (set labels at to)
AreLabels-set pairs labels at to joined are a lt =
    let lt' : a < length labels = rw length-set at lt in
    ⊎_elim
    (λ (e : a ≡ at). rw (e, get_or-set_same labels at to 0 (subst (λ k. k < length labels) e lt')) joined)
    (λ (ne : a ≡ at → ⊥). rw (get_or-set_other labels at a to 0 ne) (are a lt'))
    (cases_eq a at)

-- what sinks after it sank or stayed has sunk
pub Sank-more : (b c : Bool) (x y z : List ℕ) → Sank b x y → Sank c y z → Sank (c || b) x z
Sank-more true true x y z h k = omega (arith, h, k)
Sank-more true false x y z h k = subst (λ w. sum w < sum x) (sym k) h
Sank-more false true x y z h k = subst (λ w. sum z < sum w) h k
Sank-more false false x y z h k = k ∙ h

-- one more pair at which nothing changed
pub HaveOneLabel-more : (b : Bool) (pairs : List (ℕ × ℕ)) (i : ℕ) (old new : List ℕ) → i < length pairs → OnFalse b (HaveOneLabel (take i pairs) old) → new ≡ old → get_or new (get_or pairs i (0, 0)).0 0 ≡ get_or new (get_or pairs i (0, 0)).1 0 → OnFalse b (HaveOneLabel (take (i + 1) pairs) new)
HaveOneLabel-more b pairs i old new lt so_far same here = OnFalse_from b _
    (λ no. All-more (λ (p : ℕ × ℕ). get_or new p.0 0 ≡ get_or new p.1 0) pairs i (0, 0) lt (rw same (OnFalse_at no so_far)) here)

pub HaveOneLabel-all : (b : Bool) (pairs : List (ℕ × ℕ)) (i : ℕ) (labels : List ℕ) → length pairs ≤ i → OnFalse b (HaveOneLabel (take i pairs) labels) → OnFalse b (HaveOneLabel pairs labels)
HaveOneLabel-all b pairs i labels past same = rw (take_all i pairs past) at same

-- settled labels are the first sorts
pub first_sort-settled : (pairs : List (ℕ × ℕ)) (labels : List ℕ) → AreLow labels → AreLabels pairs labels → HaveOneLabel pairs labels → (a : ℕ) → a < length labels → get_or labels a 0 ≡ first_sort pairs a
first_sort-settled pairs labels low are same a lt =
    let first_in : first_sort pairs a < length labels = omega (arith, first_sort-le pairs a) in
    first_sort-is pairs (λ c. get_or labels c 0) a
    (λ c d leads. All-contains (λ (p : ℕ × ℕ). get_or labels p.0 0 ≡ get_or labels p.1 0) pairs (c, d) same leads)
    (are a lt)
    (low (first_sort pairs a) first_in)

-- ---- a label replaced by one that is not above it

pub AreLow-set : (labels : List ℕ) (at to : ℕ) → to ≤ at → AreLow labels → AreLow (set labels at to)
AreLow-set labels at to low are a lt =
    let lt' : a < length labels = rw length-set at lt in
    ⊎_elim
    (λ (e : a ≡ at). rw (e, get_or-set_same labels at to 0 (subst (λ k. k < length labels) e lt')) low)
    (λ (ne : a ≡ at → ⊥). rw (get_or-set_other labels at a to 0 ne) (are a lt'))
    (cases_eq a at)

pub sum-lowered : (labels : List ℕ) (at to : ℕ) → at < length labels → to ≤ get_or labels at 0 → sum (set labels at to) ≤ sum labels
sum-lowered labels at to lt low = omega (arith, sum_by-set (λ x. x) labels at to 0 lt)

-- labels of which each is its own sort
pub AreLabels-own : (pairs : List (ℕ × ℕ)) (labels : List ℕ) (n : ℕ) → length labels ≡ n → ((a : ℕ) → a < n → get_or labels a 0 ≡ a) → AreLabels pairs labels
AreLabels-own pairs labels n len own a lt = rw (own a (rw (← len) lt)) no_step
