-- Variables as they are written: where their text is cut.
use Rattle.std.proofs.Common.{◌≡◌, ℕ, zero, suc, ◌+◌, ◌<◌, ◌≤◌, ◌==◌, ◌&&◌, List, [], ◌∷◌, ◌++◌, length, take, drop, get_or, Bool, true, false, not, Option, Some, None, refl, sym, ap, ◌∙◌, subst, arith, cond, if◌then◌else◌, eq-eqb}
use Rattle.std.specs.Prelude.{position, nat_lt, bytes_eq, codes, is_some}
use Rattle.std.specs.List.{position_or_len}
use Rattle.std.specs.Option.{option_map}
use Rattle.std.specs.Str.Pattern.{LacksTextAt, HasTextAt}
use Rattle.std.proofs.lemmas.Bool.{eqb-true, lt-ltb, le-ltb}
use Rattle.mau_poset.specs.Order.{kind_of}
use Rattle.mau_signature.specs.Signature.{SignatureOf}
use Rattle.mau_logic.specs.Lines.{cut, before_bracket, in_brackets, sort_named, sort_or_kind, pair_of, is_hole}

same_true : (a b : ℕ) → a ≡ b → (a == b) ≡ true
same_true a b e = eq-eqb a b e

pub other_false : (a b : ℕ) → (a ≡ b → ⊥) → (a == b) ≡ false
other_false a b f = by (a == b) refl
  where
    by : (x : Bool) → (a == b) ≡ x → x ≡ false
    by true e = absurd (f (eqb-true a b e))
    by false e = refl

-- ---- the last colon

-- no colon is at i or behind it
abbrev NoColonFrom : ℕ → List ℕ → Type 0
NoColonFrom i w = (k : ℕ) → i ≤ k → k ≤ length w → LacksTextAt (58 ∷ []) w k

no_colon_none : (w : List ℕ) → NoColonFrom 0 w → cut w ≡ None
no_colon_none [] h = refl
no_colon_none (c ∷ cs) h =
    rw (no_colon_none cs (λ k l m rest e. h (suc k) (omega arith) (omega arith) rest e))
    (ap (λ (b : Bool). if b then Some ([], cs) else None) (other_false c 58 (λ e. h 0 (omega arith) (omega arith) cs (ap (λ z. z ∷ cs) e))))

pub no_colon : (w : List ℕ) → ((k : ℕ) → k ≤ length w → LacksTextAt (58 ∷ []) w k) → cut w ≡ None
no_colon w h = no_colon_none w (λ k l m. h k m)

no_colon_behind : (w : List ℕ) (j : ℕ) → NoColonFrom j w → NoColonFrom 0 (drop j w)
no_colon_behind w zero h k l m rest e = h k (omega arith) m rest e
no_colon_behind [] (suc j) h k l m rest e = by k e
  where
    by : (k : ℕ) → drop k [] ≡ (58 ∷ []) ++ rest → ⊥
    by zero d = cc
    by (suc k) d = cc
no_colon_behind (c ∷ cs) (suc j) h k l m rest e = no_colon_behind cs j (λ i a b rest d. h (suc i) (omega arith) (omega arith) rest d) k l m rest e

cut_in : (front rest : List ℕ) → cut rest ≡ None → cut (front ++ 58 ∷ rest) ≡ Some (front, rest)
cut_in [] rest h = rw h refl
cut_in (c ∷ front) rest h = rw (cut_in front rest h) refl

halves : (i : ℕ) (w : List ℕ) → w ≡ take i w ++ drop i w
halves zero w = refl
halves (suc i) [] = refl
halves (suc i) (c ∷ cs) = ap (λ z. c ∷ z) (halves i cs)

pub last_colon : (w : List ℕ) (i j : ℕ) → ((k : ℕ) → i < k → k ≤ length w → LacksTextAt (58 ∷ []) w k) → HasTextAt (58 ∷ []) w i j → cut w ≡ Some (take i w, drop j w)
last_colon w i j behind here =
    let ends : j ≡ i + 1 = here.ends in
    let whole : w ≡ take i w ++ 58 ∷ drop j w = halves i w ∙ ap (λ z. take i w ++ z) here.split in
    ap cut whole ∙ cut_in (take i w) (drop j w) (no_colon_none (drop j w) (no_colon_behind w j (λ k l m. behind k (omega arith) m)))

-- ---- brackets

last_bracket : (inner : List ℕ) (c : ℕ) → before_bracket (inner ++ c ∷ []) ≡ (if c == 93 then Some inner else None)
last_bracket [] c = refl
last_bracket (d ∷ []) c = by (c == 93)
  where
    by : (b : Bool) → option_map (λ es. d ∷ es) (if b then Some [] else None) ≡ (if b then Some (d ∷ []) else None)
    by true = refl
    by false = refl
last_bracket (d ∷ e ∷ es) c = ap (option_map (λ zs. d ∷ zs)) (last_bracket (e ∷ es) c) ∙ by (c == 93)
  where
    by : (b : Bool) → option_map (λ zs. d ∷ zs) (if b then Some (e ∷ es) else None) ≡ (if b then Some (d ∷ e ∷ es) else None)
    by true = refl
    by false = refl

-- a text with this first character, and these behind it
pub not_opened : (w : List ℕ) (first : ℕ) (rest : List ℕ) → w ≡ first ∷ rest → (first ≡ 91 → ⊥) → in_brackets w ≡ None
not_opened w first rest e f = ap in_brackets e ∙ ap (λ (b : Bool). if b then before_bracket rest else None) (other_false first 91 f)

pub nothing_behind : (w : List ℕ) (first : ℕ) (rest : List ℕ) → w ≡ first ∷ rest → length rest ≡ 0 → in_brackets w ≡ None
nothing_behind w first [] e l = ap in_brackets e ∙ by (first == 91)
  where
    by : (b : Bool) → (if b then before_bracket [] else None) ≡ None
    by true = refl
    by false = refl
nothing_behind w first (c ∷ cs) e l = absurd (omega arith)

opened : (w : List ℕ) (first : ℕ) (rest inner : List ℕ) (last : ℕ) → w ≡ first ∷ rest → first ≡ 91 → rest ≡ inner ++ last ∷ [] → in_brackets w ≡ (if last == 93 then Some inner else None)
opened w first rest inner last e f d =
    ap in_brackets e ∙ ap (λ (b : Bool). if b then before_bracket rest else None) (same_true first 91 f) ∙ ap before_bracket d ∙ last_bracket inner last

pub not_closed : (w : List ℕ) (first : ℕ) (rest inner : List ℕ) (last : ℕ) → w ≡ first ∷ rest → first ≡ 91 → rest ≡ inner ++ last ∷ [] → (last ≡ 93 → ⊥) → in_brackets w ≡ None
not_closed w first rest inner last e f d g = opened w first rest inner last e f d ∙ ap (λ (b : Bool). if b then Some inner else None) (other_false last 93 g)

pub bracketed : (w : List ℕ) (first : ℕ) (rest inner : List ℕ) (last : ℕ) → w ≡ first ∷ rest → first ≡ 91 → rest ≡ inner ++ last ∷ [] → last ≡ 93 → in_brackets w ≡ Some inner
bracketed w first rest inner last e f d g = opened w first rest inner last e f d ∙ ap (λ (b : Bool). if b then Some inner else None) (same_true last 93 g)

pub empty_text : (w : List ℕ) → length w ≡ 0 → in_brackets w ≡ None
empty_text [] e = refl
empty_text (c ∷ cs) e = absurd (omega arith)

-- ---- sorts and holes

pub kind_is : (s : SignatureOf) (sorts : List (List ℕ)) (w v : List ℕ) → in_brackets w ≡ Some v → sort_or_kind s sorts w ≡ option_map (kind_of s.hierarchy) (sort_named sorts v)
kind_is s sorts w v e = rw e refl

pub sort_is : (s : SignatureOf) (sorts : List (List ℕ)) (w : List ℕ) → in_brackets w ≡ None → sort_or_kind s sorts w ≡ sort_named sorts w
sort_is s sorts w e = rw e refl

pub pair_is : (s : SignatureOf) (sorts : List (List ℕ)) (w a b : List ℕ) (r : ℕ) → cut w ≡ Some (a, b) → sort_or_kind s sorts b ≡ Some r → pair_of s sorts w ≡ Some (a, r)
pair_is s sorts w a b r e d = rw e (ap (option_map (λ (q : ℕ). (a, q))) d)

pub no_pair : (s : SignatureOf) (sorts : List (List ℕ)) (w a b : List ℕ) → cut w ≡ Some (a, b) → sort_or_kind s sorts b ≡ None → pair_of s sorts w ≡ None
no_pair s sorts w a b e d = rw e (ap (option_map (λ (q : ℕ). (a, q))) d)

pub not_cut : (s : SignatureOf) (sorts : List (List ℕ)) (w : List ℕ) → cut w ≡ None → pair_of s sorts w ≡ None
not_cut s sorts w e = rw e refl

pub hole_is : (w a b : List ℕ) → cut w ≡ Some (a, b) → is_hole w ≡ (bytes_eq a (codes "HOLE") && is_some (in_brackets b))
hole_is w a b e = rw e refl

-- ---- the first that passes a test

found_here : {A : Type 0} (p : A → Bool) (xs : List A) (i : ℕ) (d : A) → i < length xs → p (get_or xs i d) ≡ true → position_or_len p (drop i xs) ≡ 0
found_here p [] i d l t = absurd (omega arith)
found_here p (x ∷ xs) zero d l t = rw t refl
found_here p (x ∷ xs) (suc i) d l t = found_here p xs i d (omega arith) t

pub passed_here : {A : Type 0} (p : A → Bool) (xs : List A) (i : ℕ) (d : A) → i < length xs → p (get_or xs i d) ≡ false → position_or_len p (drop i xs) ≡ 1 + position_or_len p (drop (suc i) xs)
passed_here p [] i d l t = absurd (omega arith)
passed_here p (x ∷ xs) zero d l t = rw t refl
passed_here p (x ∷ xs) (suc i) d l t = passed_here p xs i d (omega arith) t

none_behind : {A : Type 0} (p : A → Bool) (xs : List A) (i : ℕ) → length xs ≤ i → position_or_len p (drop i xs) ≡ 0
none_behind p [] zero l = refl
none_behind p [] (suc i) l = refl
none_behind p (x ∷ xs) zero l = absurd (omega arith)
none_behind p (x ∷ xs) (suc i) l = none_behind p xs i (omega arith)

-- the first that passes is not before i
abbrev pub ComesFrom : {A : Type 0} → (A → Bool) → List A → ℕ → Type 0
ComesFrom p xs i = position_or_len p xs ≡ i + position_or_len p (drop i xs)

pub place_here : {A : Type 0} (p : A → Bool) (xs : List A) (i : ℕ) (d : A) → i < length xs → ComesFrom p xs i → p (get_or xs i d) ≡ true → position p xs ≡ Some i
place_here p xs i d l e t =
    let z : position_or_len p (drop i xs) ≡ 0 = found_here p xs i d l t in
    let at : position_or_len p xs ≡ i = omega (arith, e, z) in
    ap (λ n. cond (nat_lt n (length xs)) (Some n) None) at ∙ ap (λ (b : Bool). cond b (Some i) None) (lt-ltb i (length xs) l)

pub no_place : {A : Type 0} (p : A → Bool) (xs : List A) (i : ℕ) → length xs ≤ i → ComesFrom p xs i → position p xs ≡ None
no_place p xs i l e =
    let z : position_or_len p (drop i xs) ≡ 0 = none_behind p xs i l in
    let far : length xs ≤ position_or_len p xs = omega (arith, e, z) in
    ap (λ (b : Bool). cond b (Some (position_or_len p xs)) None) (le-ltb (position_or_len p xs) (length xs) far)
