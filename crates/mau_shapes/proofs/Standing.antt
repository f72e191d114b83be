-- What stands in a state: words that were read, of which all so far may be a strategy.
use Rattle.std.proofs.Common.{◌≡◌, ℕ, ◌-◌, ◌≤◌, ◌<◌, List, [], ◌∷◌, ◌++◌, Bool, true, false, ◌⊎◌, inl, inr, refl, sym, ap, ◌∙◌, arith, append_assoc, append-nil, All}
use Rattle.std.proofs.lemmas.Bool.{false≢true, ltb-true, ltb-false}
use Rattle.std.specs.Prelude.{codes, nat_lt, if◌then◌else◌}
use Rattle.mau_shapes.specs.Words.{Word, Words, of_test, of_top, of_wrapper, of_name, beginning, names, Role, joint, role, behind, ends_test, ends_fragment, ends_variable, ends_term}
use Rattle.mau_shapes.specs.Shape.{Use, Shape, plain, assigned, called, wrapped, within, tested, marked, joined, chosen, each, parted, use_text, use_texts, text, stops, is_clear, IsPart, IsUse, is_rule_form, takes_marks, Fits}
use Rattle.mau_shapes.specs.Reader.{bracket, wrapper, top_wrapper, left, asked, answered, Frames, Goal, argument, variable, value, pattern, fragment, State, operand, named, done, reading, such_of, ends, close, is_narrow}
use Rattle.mau_shapes.proofs.Tables.{known_as}
use Rattle.mau_shapes.proofs.Reading.{Admits}

-- ---- what is open

abbrev pub opened : Frames → Words
opened [] = []
opened (bracket ∷ k) = opened k ++ codes "(" ∷ []
opened (wrapper w ∷ k) = opened k ++ w ∷ codes "(" ∷ []
opened (top_wrapper w ∷ k) = opened k ++ w ∷ codes "(" ∷ []
opened (left w m e ∷ k) = opened k ++ (text e ++ w ∷ [])
opened (asked e ∷ k) = opened k ++ (text e ++ codes "?" ∷ [])
opened (answered e f ∷ k) = opened k ++ (text e ++ codes "?" ∷ (text f ++ codes ":" ∷ []))

abbrev pub AreOpen : Frames → Type 0
AreOpen [] = Unit {0}
AreOpen (bracket ∷ k) = (is_narrow k ≡ false) × AreOpen k
AreOpen (wrapper w ∷ k) = (beginning w ≡ of_wrapper) × (is_narrow k ≡ false) × AreOpen k
AreOpen (top_wrapper w ∷ k) = (beginning w ≡ of_top) × (is_narrow k ≡ false) × AreOpen k
AreOpen (left w m e ∷ k) = (role w ≡ joint m) × Fits (m - 1) e × Admits m k × AreOpen k
AreOpen (asked e ∷ k) = Fits 5 e × Admits 6 k × AreOpen k
AreOpen (answered e f ∷ k) = Fits 5 e × Fits 6 f × Admits 6 k × AreOpen k

pub admits_two : (k : Frames) → AreOpen k → is_narrow k ≡ false → Admits 2 k
admits_two [] h free = tt
admits_two (bracket ∷ k) h free = tt
admits_two (wrapper w ∷ k) h free = tt
admits_two (top_wrapper w ∷ k) h free = absurd (false≢true (sym free))
admits_two (left w m e ∷ k) h free = let b : (3 ≤ m) × (m ≤ 5) = known_as w (joint m) h.0 in omega (arith, b.0)
admits_two (asked e ∷ k) h free = tt
admits_two (answered e f ∷ k) h free = tt

pub looser : (s : Shape) (m n : ℕ) → m ≤ n → Fits m s → Fits n s
looser (plain w) m n le h = h
looser (assigned w us) m n le h = h
looser (called w ts) m n le h = h
looser (wrapped w e) m n le h = h
looser (within e) m n le h = h
looser (tested w p c) m n le h = h
looser (marked e w) m n le h = (omega (arith, le, h.0), h.1, h.2, h.3)
looser (joined w e f) m n le h = (h.0, h.1, omega (arith, le, h.2), h.3, h.4)
looser (chosen e f g) m n le h = (omega (arith, le, h.0), h.1, h.2, h.3)

-- ---- forms that are closed

-- closing keeps the words, and leaves a strategy that is tighter than m where nothing tighter than m waits
pub record Closed (m : ℕ) (s : Shape) (k : Frames) (x : Shape × Frames) : Type 0 where
  pub fits : Fits (m - 1) x.0
  pub open_still : AreOpen x.1
  pub admits : Admits m x.1
  pub words : opened x.1 ++ text x.0 ≡ opened k ++ text s

pub regroup : (a b : Words) (w : Word) (c : Words) → a ++ (b ++ w ∷ c) ≡ (a ++ (b ++ w ∷ [])) ++ c
regroup a b w c = sym (append_assoc a (b ++ w ∷ []) c ∙ ap (λ z. a ++ z) (append_assoc b (w ∷ []) c))

pub regroup_two : (a b : Words) (v : Word) (c : Words) (w : Word) (d : Words) → a ++ (b ++ v ∷ (c ++ w ∷ d)) ≡ (a ++ (b ++ v ∷ (c ++ w ∷ []))) ++ d
regroup_two a b v c w d =
    sym (append_assoc a (b ++ v ∷ (c ++ w ∷ [])) d ∙ ap (λ z. a ++ z) (append_assoc b (v ∷ (c ++ w ∷ [])) d
    ∙ ap (λ z. b ++ v ∷ z) (append_assoc c (w ∷ []) d)))

close_left : (b : Bool) (m n j : ℕ) (s e : Shape) (w : Word) (k : Frames) → nat_lt j m ≡ b → Fits n s → n < m → Admits n (left w j e ∷ k) → AreOpen (left w j e ∷ k)
    → Closed m (joined w e s) k (close m (joined w e s) k) ⊎ (b ≡ false)
    → Closed m s (left w j e ∷ k) (if b then close m (joined w e s) k else (s, left w j e ∷ k))
close_left true m n j s e w k t h l a o (inl c) =
    record { fits = c.fits; open_still = c.open_still; admits = c.admits; words = c.words ∙ regroup (opened k) (text e) w (text s) }
close_left true m n j s e w k t h l a o (inr x) = absurd (false≢true (sym x))
close_left false m n j s e w k t h l a o c =
    record { fits = looser s n (m - 1) (omega (arith, l)) h; open_still = o; admits = ltb-false j m t; words = refl }

close_answered : (b : Bool) (m n : ℕ) (s e f : Shape) (k : Frames) → nat_lt 6 m ≡ b → Fits n s → n < m → AreOpen (answered e f ∷ k)
    → Closed m (chosen e f s) k (close m (chosen e f s) k) ⊎ (b ≡ false)
    → Closed m s (answered e f ∷ k) (if b then close m (chosen e f s) k else (s, answered e f ∷ k))
close_answered true m n s e f k t h l o (inl c) =
    record { fits = c.fits; open_still = c.open_still; admits = c.admits; words = c.words ∙ regroup_two (opened k) (text e) (codes "?") (text f) (codes ":") (text s) }
close_answered true m n s e f k t h l o (inr x) = absurd (false≢true (sym x))
close_answered false m n s e f k t h l o c =
    record { fits = looser s n (m - 1) (omega (arith, l)) h; open_still = o; admits = tt; words = refl }

at_level : (w : Word) (e f : Shape) (j : ℕ) → role w ≡ joint j → Fits (j - 1) e → Fits j f → Fits j (joined w e f)
at_level w e f j r h q = (j, r, omega arith, h, q)

pub closing : (k : Frames) (m n : ℕ) (s : Shape) → Fits n s → n < m → m ≤ 7 → Admits n k → AreOpen k → Closed m s k (close m s k)
closing [] m n s h l le a o = record { fits = looser s n (m - 1) (omega (arith, l)) h; open_still = tt; admits = tt; words = refl }
closing (bracket ∷ k) m n s h l le a o = record { fits = looser s n (m - 1) (omega (arith, l)) h; open_still = o; admits = tt; words = refl }
closing (wrapper w ∷ k) m n s h l le a o = record { fits = looser s n (m - 1) (omega (arith, l)) h; open_still = o; admits = tt; words = refl }
closing (top_wrapper w ∷ k) m n s h l le a o = absurd a
closing (asked e ∷ k) m n s h l le a o = record { fits = looser s n (m - 1) (omega (arith, l)) h; open_still = o; admits = tt; words = refl }
closing (left w j e ∷ k) m n s h l le a o =
    let whole : Fits j (joined w e s) = at_level w e s j o.0 o.1 (looser s n j a h) in
    close_left (nat_lt j m) m n j s e w k refl h l a o
    (elim (nat_lt j m) as (λ b. nat_lt j m ≡ b → Closed m (joined w e s) k (close m (joined w e s) k) ⊎ (b ≡ false)) [
      | true ↦ λ t. inl (closing k m j (joined w e s) whole (ltb-true j m t) le o.2 o.3)
      | false ↦ λ t. inr refl
    ] refl)
closing (answered e f ∷ k) m n s h l le a o =
    close_answered (nat_lt 6 m) m n s e f k refl h l o
    (elim (nat_lt 6 m) as (λ b. nat_lt 6 m ≡ b → Closed m (chosen e f s) k (close m (chosen e f s) k) ⊎ (b ≡ false)) [
      | true ↦ λ t. inl (closing k m 6 (chosen e f s) (omega arith, o.0, o.1, looser s n 6 (omega (arith, l, le)) h) (ltb-true 6 m t) le o.2 o.3)
      | false ↦ λ t. inr refl
    ] refl)

-- ---- parts

-- each followed by a word
abbrev pub before : Word → List Words → Words
before w [] = []
before w (t ∷ ts) = t ++ w ∷ before w ts

pub before_more : (w : Word) (ts : List Words) (t : Words) → before w (ts ++ t ∷ []) ≡ before w ts ++ (t ++ w ∷ [])
before_more w [] t = refl
before_more w (u ∷ ts) t = ap (λ z. u ++ w ∷ z) (before_more w ts t) ∙ sym (append_assoc u (w ∷ before w ts) (t ++ w ∷ []))

-- a list between words and the last part
pub parted_more : (w : Word) (ts : List Words) (t : Words) → parted w (ts ++ t ∷ []) ≡ before w ts ++ t
parted_more w [] t = append-nil t
parted_more w (u ∷ ts) t = ap (λ z. u ++ z) (rest w ts t) ∙ sym (append_assoc u (w ∷ before w ts) t)
  where
    rest : (w : Word) (ts : List Words) (t : Words) → each w (ts ++ t ∷ []) ≡ w ∷ (before w ts ++ t)
    rest w [] t = ap (λ z. w ∷ z) (append-nil t)
    rest w (u ∷ ts) t = ap (λ z. w ∷ (u ++ z)) (rest w ts t) ∙ ap (λ z. w ∷ z) (sym (append_assoc u (w ∷ before w ts) t))

pub uses_more : (us : List Use) (u : Use) → use_texts (us ++ u ∷ []) ≡ use_texts us ++ use_text u ∷ []
uses_more [] u = refl
uses_more (v ∷ us) u = ap (λ z. use_text v ∷ z) (uses_more us u)

-- words of a part so far, behind which d brackets are open
pub record IsBegun (f : Role → Bool) (p : Words) (d : ℕ) : Type 0 where
  pub clear : (q : Words) → is_clear f 0 (p ++ q) ≡ is_clear f d q

pub begun_none : (f : Role → Bool) → IsBegun f [] 0
begun_none f = record { clear = λ q. refl }

pub begun_more : (f : Role → Bool) (p : Words) (d : ℕ) (v : Word) → IsBegun f p d → stops f d (role v) ≡ false → IsBegun f (p ++ v ∷ []) (behind d (role v))
begun_more f p d v h e = record {
  clear = λ q. ap (is_clear f 0) (append_assoc p (v ∷ []) q) ∙ (h.clear (v ∷ q) ∙ ap (λ b. if b then false else is_clear f (behind d (role v)) q) e);
}

pub part_of : (f : Role → Bool) (p : Words) → IsBegun f p 0 → (p ≡ [] → ⊥) → IsPart f p
part_of f p h some = record { some = some; clear = ap (is_clear f 0) (sym (append-nil p)) ∙ h.clear [] }

-- ---- states

abbrev pub IsSign : Words → Type 0
IsSign c = (c ≡ codes "s.t." ∷ []) ⊎ (c ≡ codes "such" ∷ codes "that" ∷ [])

abbrev pub IsGoal : Goal → Frames → Type 0
IsGoal (argument w ts) k = (beginning w ≡ of_name) × All (IsPart ends_term) ts × (is_narrow k ≡ false)
IsGoal (variable w us) k = (names (beginning w) ≡ true) × All IsUse us
IsGoal (value w us x) k = (names (beginning w) ≡ true) × All IsUse us × IsPart ends_variable x
IsGoal (pattern w) k = (beginning w ≡ of_test) × (is_narrow k ≡ false)
IsGoal (fragment w p c cs) k = (beginning w ≡ of_test) × (is_narrow k ≡ false) × IsPart ends_test p × IsSign c × All (IsPart ends_fragment) cs

-- a strategy as tight as one that is marked may stand there
abbrev pub MayStand : Shape → Frames → Type 0
MayStand s k = is_narrow k ≡ true → is_rule_form s ≡ true

abbrev pub IsState : State → Type 0
IsState (operand k) = AreOpen k
IsState (named w k) = (names (beginning w) ≡ true) × AreOpen k
IsState (done s k) = Fits 2 s × (takes_marks s ≡ true) × MayStand s k × AreOpen k
IsState (reading g p d k) = IsGoal g k × IsBegun (ends g) p d × AreOpen k
IsState (such_of w p v k) = (beginning w ≡ of_test) × (is_narrow k ≡ false) × IsPart ends_test p × (v ≡ codes "such") × AreOpen k

abbrev pub goal_words : Goal → Words
goal_words (argument w ts) = w ∷ codes "(" ∷ before (codes ",") ts
goal_words (variable w us) = w ∷ codes "[" ∷ before (codes ",") (use_texts us)
goal_words (value w us x) = w ∷ codes "[" ∷ (before (codes ",") (use_texts us) ++ (x ++ codes "<-" ∷ []))
goal_words (pattern w) = w ∷ []
goal_words (fragment w p c cs) = w ∷ (p ++ (c ++ before (codes "/\\") cs))

abbrev pub state_words : State → Words
state_words (operand k) = opened k
state_words (named w k) = opened k ++ w ∷ []
state_words (done s k) = opened k ++ text s
state_words (reading g p d k) = opened k ++ (goal_words g ++ p)
state_words (such_of w p v k) = opened k ++ w ∷ (p ++ v ∷ [])

pub record Stands (ws : Words) (st : State) : Type 0 where
  pub right : IsState st
  pub words : state_words st ≡ ws
