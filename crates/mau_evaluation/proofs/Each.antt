-- What is among the answers of the combinators, and whether they come to an end.
use Rattle.std.proofs.Common.{◌≡◌, ℕ, List, [], ◌∷◌, Bool, true, false, inl, inr, refl, sym, subst, ◌⊎◌}
use Rattle.mau_terms.specs.Finite.{IsIn}
use Rattle.mau_evaluation.specs.Run.{End, Outcome, done, ended, Run}
use Rattle.mau_evaluation.specs.Answers.{Answers, no_more, ends_by, answer, answers_of, and_those, for_each, asking, from_outcome, when}

-- ---- what is among them, and whether they come to an end

abbrev pub Has : {A : Type 0} → A → Answers A → Type 0
Has y no_more = ⊥
Has y (ends_by e) = ⊥
Has y (answer x p) = (y ≡ x) ⊎ Has y p

abbrev pub IsWhole : {A : Type 0} → Answers A → Type 0
IsWhole no_more = Unit {0}
IsWhole (ends_by e) = ⊥
IsWhole (answer x p) = IsWhole p

pub whole_list : {A : Type 0} (xs : List A) → IsWhole (answers_of xs)
whole_list [] = tt
whole_list (x ∷ xs) = whole_list xs

pub has_list : {A : Type 0} (y : A) (xs : List A) → Has y (answers_of xs) → IsIn y xs
has_list y [] h = absurd h
has_list y (x ∷ xs) (inl e) = inl e
has_list y (x ∷ xs) (inr h) = inr (has_list y xs h)

pub list_has : {A : Type 0} (y : A) (xs : List A) → IsIn y xs → Has y (answers_of xs)
list_has y [] h = absurd h
list_has y (x ∷ xs) (inl e) = inl e
list_has y (x ∷ xs) (inr h) = inr (list_has y xs h)

-- ---- one after the other

pub whole_those : {A : Type 0} (p q : Answers A) → IsWhole (and_those p q) → IsWhole p × IsWhole q
whole_those no_more q h = (tt, h)
whole_those (ends_by e) q h = absurd h
whole_those (answer x p) q h = whole_those p q h

pub has_those : {A : Type 0} (y : A) (p q : Answers A) → Has y (and_those p q) → Has y p ⊎ Has y q
has_those y no_more q h = inr h
has_those y (ends_by e) q h = absurd h
has_those y (answer x p) q (inl e) = inl (inl e)
has_those y (answer x p) q (inr h) = by (has_those y p q h)
  where
    by : Has y p ⊎ Has y q → Has y (answer x p) ⊎ Has y q
    by (inl i) = inl (inr i)
    by (inr i) = inr i

pub into_first : {A : Type 0} (y : A) (p q : Answers A) → Has y p → Has y (and_those p q)
into_first y no_more q h = absurd h
into_first y (ends_by e) q h = absurd h
into_first y (answer x p) q (inl e) = inl e
into_first y (answer x p) q (inr h) = inr (into_first y p q h)

pub into_second : {A : Type 0} (y : A) (p q : Answers A) → IsWhole p → Has y q → Has y (and_those p q)
into_second y no_more q w h = h
into_second y (ends_by e) q w h = absurd w
into_second y (answer x p) q w h = inr (into_second y p q w h)

-- ---- for each

pub whole_each : {A B : Type 0} (f : A → Answers B) (p : Answers A) → IsWhole (for_each f p) → IsWhole p
whole_each f no_more h = tt
whole_each f (ends_by e) h = h
whole_each f (answer x p) h = whole_each f p (whole_those (f x) (for_each f p) h).1

pub whole_at : {A B : Type 0} (f : A → Answers B) (p : Answers A) → IsWhole (for_each f p) → (x : A) → Has x p → IsWhole (f x)
whole_at f no_more h x i = absurd i
whole_at f (ends_by e) h x i = absurd i
whole_at f (answer y p) h x (inl e) = subst (λ z. IsWhole (f z)) (sym e) (whole_those (f y) (for_each f p) h).0
whole_at f (answer y p) h x (inr i) = whole_at f p (whole_those (f y) (for_each f p) h).1 x i

pub has_each : {A B : Type 0} (f : A → Answers B) (p : Answers A) (y : B) → Has y (for_each f p) → (x : A) × Has x p × Has y (f x)
has_each f no_more y h = absurd h
has_each f (ends_by e) y h = absurd h
has_each {A = A} f (answer x p) y h = by (λ i. has_each f p y i) (has_those y (f x) (for_each f p) h)
  where
    by : (Has y (for_each f p) → (z : A) × Has z p × Has y (f z)) → Has y (f x) ⊎ Has y (for_each f p) → (z : A) × Has z (answer x p) × Has y (f z)
    by more (inl i) = (x, inl refl, i)
    by more (inr i) = let r = more i in (r.0, inr r.1, r.2)

pub into_each : {A B : Type 0} (f : A → Answers B) (p : Answers A) (x : A) (y : B) → IsWhole (for_each f p) → Has x p → Has y (f x) → Has y (for_each f p)
into_each f no_more x y w i h = absurd i
into_each f (ends_by e) x y w i h = absurd i
into_each f (answer z p) x y w (inl e) h = into_first y (f z) (for_each f p) (subst (λ a. Has y (f a)) e h)
into_each f (answer z p) x y w (inr i) h =
    into_second y (f z) (for_each f p) (whole_those (f z) (for_each f p) w).0 (into_each f p x y (whole_those (f z) (for_each f p) w).1 i h)

-- ---- what is asked

pub has_asking : {A B : Type 0} (b : ℕ) (m : Run A) (f : A → Answers B) (y : B) → Has y (asking b m f) → (x : A) × (r : ℕ) × (c : ℕ) × (m b ≡ done x r c) × Has y (f x)
has_asking {A = A} b m f y h = by (m b) refl h
  where
    by : (o : Outcome A) → m b ≡ o → Has y (from_outcome f o) → (x : A) × (r : ℕ) × (c : ℕ) × (m b ≡ done x r c) × Has y (f x)
    by (done x r c) e i = (x, r, c, e, i)
    by (ended z) e i = absurd i

pub into_asking : {A B : Type 0} (b : ℕ) (m : Run A) (f : A → Answers B) (x : A) (r c : ℕ) (y : B) → m b ≡ done x r c → Has y (f x) → Has y (asking b m f)
into_asking b m f x r c y e h = subst (λ o. Has y (from_outcome f o)) (sym e) h

pub whole_asking : {A B : Type 0} (b : ℕ) (m : Run A) (f : A → Answers B) (x : A) (r c : ℕ) → m b ≡ done x r c → IsWhole (asking b m f) → IsWhole (f x)
whole_asking b m f x r c e h = subst (λ o. IsWhole (from_outcome f o)) e h

-- where it is whole, it has no end
pub asking_gives : {A B : Type 0} (b : ℕ) (m : Run A) (f : A → Answers B) → IsWhole (asking b m f) → (e : End) → m b ≡ ended e → ⊥
asking_gives b m f h e q = let w : IsWhole (from_outcome f (ended e)) = subst (λ o. IsWhole (from_outcome f o)) q h in w

pub has_when : {A : Type 0} (t : Bool) (p : Answers A) (y : A) → Has y (when t p) → (t ≡ true) × Has y p
has_when true p y h = (refl, h)
has_when false p y h = absurd h

pub into_when : {A : Type 0} (t : Bool) (p : Answers A) (y : A) → t ≡ true → Has y p → Has y (when t p)
into_when t p y e h = subst (λ b. Has y (when b p)) (sym e) h

pub whole_when : {A : Type 0} (t : Bool) (p : Answers A) → t ≡ true → IsWhole (when t p) → IsWhole p
whole_when t p e h = subst (λ b. IsWhole (when b p)) e h
