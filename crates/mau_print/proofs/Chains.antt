-- Lists under an associative form, which nest to the right: what stands before and behind the list of the others.
use Rattle.std.proofs.Common.{◌≡◌, ◌≢◌, ℕ, zero, suc, ◌<◌, ◌≤◌, ◌+◌, ◌-◌, List, [], ◌∷◌, ◌++◌, Bool, true, false, cond, if◌then◌else◌, nat_lt, nat_le, length, get_or, map, take, drop, codes, refl, sym, ap, ◌∙◌, append_assoc, add-one, arith}
use Rattle.std.proofs.lemmas.Bool.Decides.{nat_tests}
use Rattle.std.proofs.lemmas.List.Sums.{sum_by-append}
use Rattle.std.proofs.lemmas.List.{length-take-le, length-append}
use Rattle.std.proofs.Math.Seq.{split_at, take-append_seam}
use Rattle.mau_grammar.specs.declared.production.Hole.{Hole}
use Rattle.mau_grammar.specs.declared.production.Part.{Part}
use Rattle.mau_grammar.specs.declared.production.Part.TheVariants.{Word, Hole as Place}
use Rattle.mau_grammar.specs.Production.{place, places, is_place}
use Rattle.mau_print.specs.Written.{Printed, printed_as, guarded, gap, pieces, spaced, woven, nested}
use Rattle.mau_print.specs.LeftToRight.{opening, closing, times, IsSecondPlace}

-- ---- pieces one behind the other

spaced-append : (b : Bool) (us vs : List (List ℕ)) → us ≢ [] → spaced b (us ++ vs) ≡ spaced b us ++ spaced false vs
spaced-append b [] vs h = absurd (h refl)
spaced-append b (u ∷ []) vs h = simp append_assoc
spaced-append b (u ∷ w ∷ us) vs h = ap (λ x. gap b ++ (u ++ x)) (spaced-append false (w ∷ us) vs (λ e. cc)) ∙ simp append_assoc

places-word : (w : List ℕ) (ps : List Part) → places (Word w ∷ ps) ≡ places ps
places-word w ps = refl

places-place : (h : Hole) (ps : List Part) → places (Place h ∷ ps) ≡ 1 + places ps
places-place h ps = sum_by-append (λ p. cond (is_place p) 1 0) (Place h ∷ []) ps

-- with no place before, no argument is taken
pieces-words : (before rest : List Part) (xs : List Printed) → places before ≡ 0 → pieces (before ++ rest) xs ≡ pieces before [] ++ pieces rest xs
pieces-words [] rest xs h = refl
pieces-words (Word w ∷ ps) rest xs h = ap (λ y. w ∷ y) (pieces-words ps rest xs (omega (arith, h, places-word w ps)))
pieces-words (Place p ∷ ps) rest xs h = absurd (omega (arith, h, places-place p ps))

pieces-one : (before rest : List Part) (x : Printed) (xs : List Printed) → places before ≡ 1 → pieces (before ++ rest) (x ∷ xs) ≡ pieces before (x ∷ []) ++ pieces rest xs
pieces-one [] rest x xs h = absurd (omega (arith, h))
pieces-one (Word w ∷ ps) rest x xs h = ap (λ y. w ∷ y) (pieces-one ps rest x xs (omega (arith, h, places-word w ps)))
pieces-one (Place p ∷ ps) rest x xs h = ap (λ y. guarded p.upto x ∷ y) (pieces-words ps rest xs (omega (arith, h, places-place p ps)))

some_piece : (before : List Part) (x : Printed) → places before ≡ 1 → pieces before (x ∷ []) ≢ []
some_piece [] x h e = absurd (omega (arith, h))
some_piece (Word w ∷ ps) x h e = cc
some_piece (Place p ∷ ps) x h e = cc

-- the place behind the first `at` parts, which hold one place
pub second : (ps : List Part) (at : ℕ) (h : Hole) → at < length ps → Place h ≡ get_or ps at (Place h) → places (take at ps) ≡ 1 → IsSecondPlace ps at h.upto
second ps at h below e one = record {
  before = take at ps;
  after = drop (at + 1) ps;
  kind = h.kind;
  split = split_at ps at (Place h) below ∙ ap (λ p. take at ps ++ p ∷ drop (suc at) ps) (sym e) ∙ ap (λ n. take at ps ++ Place h ∷ drop n ps) (sym (add-one at));
  len = length-take-le at ps (omega arith);
  one = one;
}

-- what stands before and behind the second place
pub before-is : (ps : List Part) (at upto : ℕ) (s : IsSecondPlace ps at upto) → take at ps ≡ s.before
before-is ps at upto s = ap (take at) s.split ∙ ap (λ n. take n (s.before ++ place s.kind upto ∷ s.after)) (sym s.len) ∙ take-append_seam s.before (place s.kind upto ∷ s.after)

pub after-is : (ps : List Part) (at upto : ℕ) (s : IsSecondPlace ps at upto) → drop (at + 1) ps ≡ s.after
after-is ps at upto s =
    ap (drop (at + 1)) s.split
    ∙ ap (λ n. drop (n + 1) (s.before ++ place s.kind upto ∷ s.after)) (sym s.len)
    ∙ drop_behind s.before (place s.kind upto) s.after
  where
    drop_behind : (xs : List Part) (y : Part) (ys : List Part) → drop (length xs + 1) (xs ++ y ∷ ys) ≡ ys
    drop_behind [] y ys = refl
    drop_behind (x ∷ xs) y ys = let e : length (x ∷ xs) + 1 ≡ suc (length xs + 1) = omega arith in ap (λ n. drop n (x ∷ (xs ++ y ∷ ys))) e ∙ drop_behind xs y ys

pub at-within : (ps : List Part) (at upto : ℕ) → IsSecondPlace ps at upto → at < length ps
at-within ps at upto s = omega (arith, ap length s.split, length-append s.before (place s.kind upto ∷ s.after), s.len)

-- ---- one element more

guarded_open : (q upto : ℕ) (w : List ℕ) (rest : List ℕ) → guarded upto (printed_as q w) ++ rest ≡ (if nat_lt upto q then codes "(" else []) ++ (w ++ ((if nat_lt upto q then codes ")" else []) ++ rest))
guarded_open q upto w rest = by (nat_le q upto) (nat_lt upto q) (grind (arith, nat_tests))
  where
    by : (a b : Bool) → a ≡ (if b then false else true) → cond a w (codes "(" ++ (w ++ codes ")")) ++ rest ≡ cond b (codes "(") [] ++ (w ++ (cond b (codes ")") [] ++ rest))
    by true true e = absurd (cc)
    by true false e = refl
    by false true e = simp append_assoc
    by false false e = absurd (cc)

pub nested-more : (q : ℕ) (ps : List Part) (at upto : ℕ) (s : IsSecondPlace ps at upto) (x y z : Printed) (zs : List Printed)
    → nested q ps (x ∷ y ∷ z ∷ zs) ≡ opening (nat_lt upto q) s.before x ++ (nested q ps (y ∷ z ∷ zs) ++ closing (nat_lt upto q) s.after)
nested-more q ps at upto s x y z zs =
    let w = nested q ps (y ∷ z ∷ zs) in
    let e : pieces ps (x ∷ printed_as q w ∷ []) ≡ pieces s.before (x ∷ []) ++ (guarded upto (printed_as q w) ∷ pieces s.after []) =
    ap (λ qs. pieces qs (x ∷ printed_as q w ∷ [])) s.split ∙ pieces-one s.before (place s.kind upto ∷ s.after) x (printed_as q w ∷ []) s.one in
    ap (spaced true) e
    ∙ spaced-append true (pieces s.before (x ∷ [])) (guarded upto (printed_as q w) ∷ pieces s.after []) (some_piece s.before x s.one)
    ∙ ap (λ r. spaced true (pieces s.before (x ∷ [])) ++ (codes " " ++ r)) (guarded_open q upto w (spaced false (pieces s.after [])))
    ∙ simp append_assoc

-- the element i of a list, and the others
pub nested-at : {A : Type 0} (q : ℕ) (ps : List Part) (at upto : ℕ) (s : IsSecondPlace ps at upto) (f : A → Printed) (xs : List A) (i : ℕ) (d : A) → i + 2 < length xs
    → nested q ps (map f (drop i xs)) ≡ opening (nat_lt upto q) s.before (f (get_or xs i d)) ++ (nested q ps (map f (drop (i + 1) xs)) ++ closing (nat_lt upto q) s.after)
nested-at q ps at upto s f [] i d h = absurd (omega arith)
nested-at q ps at upto s f (a ∷ []) i d h = absurd (omega arith)
nested-at q ps at upto s f (a ∷ b ∷ []) i d h = absurd (omega arith)
nested-at q ps at upto s f (a ∷ b ∷ c ∷ es) zero d h = nested-more q ps at upto s (f a) (f b) (f c) (map f es)
nested-at q ps at upto s f (a ∷ b ∷ c ∷ es) (suc i) d h =
    let e : suc (i + 1) ≡ suc i + 1 = omega arith in
    nested-at q ps at upto s f (b ∷ c ∷ es) i d (omega arith) ∙ ap (λ n. opening (nat_lt upto q) s.before (f (get_or (b ∷ c ∷ es) i d)) ++ (nested q ps (map f (drop n (a ∷ b ∷ c ∷ es))) ++ closing (nat_lt upto q) s.after)) e

-- ---- what stands behind all lists of others

pub times-one : (n : ℕ) (w : List ℕ) → times (n + 1) w ≡ w ++ times n w
times-one n w = rw add-one refl

pub times-less : (n i : ℕ) (w : List ℕ) → i < n → times (n - i) w ≡ w ++ times (n - (i + 1)) w
times-less n i w h = let e : n - i ≡ n - (i + 1) + 1 = omega arith in ap (λ m. times m w) e ∙ times-one (n - (i + 1)) w

-- ---- fewer places

-- without a second place only the first argument is written
pub one_place : (ps : List Part) (x : Printed) (xs ys : List Printed) → places ps ≤ 1 → pieces ps (x ∷ xs) ≡ pieces ps (x ∷ ys)
one_place [] x xs ys h = refl
one_place (Word w ∷ ps) x xs ys h = ap (λ z. w ∷ z) (one_place ps x xs ys (omega (arith, h, places-word w ps)))
one_place (Place p ∷ ps) x xs ys h = ap (λ z. guarded p.upto x ∷ z) (none ps xs ys (omega (arith, h, places-place p ps)))
  where
    none : (qs : List Part) (us vs : List Printed) → places qs ≤ 0 → pieces qs us ≡ pieces qs vs
    none [] us vs h = refl
    none (Word w ∷ qs) us vs h = ap (λ z. w ∷ z) (none qs us vs (omega (arith, h, places-word w qs)))
    none (Place p ∷ qs) us vs h = absurd (omega (arith, h, places-place p qs))

pub nested-one_place : (q : ℕ) (ps : List Part) (xs : List Printed) → places ps ≤ 1 → nested q ps xs ≡ woven ps xs
nested-one_place q ps [] h = refl
nested-one_place q ps (x ∷ []) h = refl
nested-one_place q ps (x ∷ y ∷ []) h = refl
nested-one_place q ps (x ∷ y ∷ z ∷ zs) h = ap (spaced true) (one_place ps x (printed_as q (nested q ps (y ∷ z ∷ zs)) ∷ []) (y ∷ z ∷ zs) h)

pub nested-short : {A : Type 0} (q : ℕ) (ps : List Part) (f : A → Printed) (xs : List A) → length xs < 3 → nested q ps (map f xs) ≡ woven ps (map f xs)
nested-short q ps f [] h = refl
nested-short q ps f (a ∷ []) h = refl
nested-short q ps f (a ∷ b ∷ []) h = refl
nested-short q ps f (a ∷ b ∷ c ∷ es) h = absurd (omega arith)

-- one element more is written, and what stands behind its list of others is not yet
pub chain-step : {A : Type 0} (q : ℕ) (ps : List Part) (at upto : ℕ) (s : IsSecondPlace ps at upto) (f : A → Printed) (xs : List A) (i : ℕ) (d : A) (b : Bool) (out new whole : List ℕ)
    → b ≡ nat_lt upto q → i + 2 < length xs → new ≡ out ++ opening b (take at ps) (f (get_or xs i d))
    → out ++ (nested q ps (map f (drop i xs)) ++ times i (closing b (drop (at + 1) ps))) ≡ whole
    → new ++ (nested q ps (map f (drop (i + 1) xs)) ++ times (i + 1) (closing b (drop (at + 1) ps))) ≡ whole
chain-step q ps at upto s f xs i d b out new whole eb below en inv =
    let o = opening b (take at ps) (f (get_or xs i d)) in
    let k = closing b (drop (at + 1) ps) in
    let n = nested q ps (map f (drop (i + 1) xs)) in
    let one : nested q ps (map f (drop i xs)) ≡ o ++ (n ++ k) =
    nested-at q ps at upto s f xs i d below
    ∙ ap (λ c. opening c s.before (f (get_or xs i d)) ++ (n ++ closing c s.after)) (sym eb)
    ∙ ap (λ p. opening b p (f (get_or xs i d)) ++ (n ++ closing b s.after)) (sym (before-is ps at upto s))
    ∙ ap (λ p. o ++ (n ++ closing b p)) (sym (after-is ps at upto s)) in
    let left : new ++ (n ++ times (i + 1) k) ≡ (out ++ o) ++ (n ++ (k ++ times i k)) =
    ap (λ w. w ++ (n ++ times (i + 1) k)) en ∙ ap (λ w. (out ++ o) ++ (n ++ w)) (times-one i k) in
    let middle : (out ++ o) ++ (n ++ (k ++ times i k)) ≡ out ++ ((o ++ (n ++ k)) ++ times i k) = simp append_assoc in
    left ∙ middle ∙ ap (λ w. out ++ (w ++ times i k)) (sym one) ∙ inv
