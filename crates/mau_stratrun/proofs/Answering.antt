-- What a successor's place says of any list of first successors of that length.
use Rattle.std.proofs.Common.{◌≡◌, ℕ, ◌+◌, ◌≤◌, List, [], ◌∷◌, ◌++◌, length, Some, inl, inr, refl, sym, ap, ◌∙◌, subst, arith, length-append, append-nil, append_assoc, slice_get}
use Rattle.std.proofs.lemmas.Option.{slice_get_within}
use Rattle.mau_evaluation.specs.Engine.{Engine, Engines, engine_of}
use Rattle.mau_evaluation.specs.Configs.{Config}
use Rattle.mau_evaluation.specs.Entries.{IsFront}
use Rattle.mau_evaluation.specs.Eventually.{Eventually}
use Rattle.mau_stratrun.specs.declared.leaves.LeafEnd.{LeafEnd}
use Rattle.mau_stratrun.specs.Settings.{Fixed}
use Rattle.mau_stratrun.specs.Yields.{BeginsBy, NextBy, IsEnd}
use Rattle.mau_stratrun.proofs.Agreeing.{Agree, front_itself, begins_agree, begins_front, all_begin, fewer_begin}

least : (m n : ℕ) → m ≤ m + n
least m n = omega arith

other : (m n : ℕ) → n ≤ m + n
other m n = omega arith

-- what holds each from some limits on holds at one engine
pub at_one : (E : Engines) {A B : Engine → Type 0} {C : Type 0} → Eventually E A → Eventually E B → ((L : Engine) → A L → B L → C) → C
at_one E a b k = k (E (a.level + b.level) (a.each + b.each) (a.budget + b.budget))
    (a.holds (a.level + b.level) (a.each + b.each) (a.budget + b.budget) (least a.level b.level) (least a.each b.each) (least a.budget b.budget))
    (b.holds (a.level + b.level) (a.each + b.each) (a.budget + b.budget) (other a.level b.level) (other a.each b.each) (other a.budget b.budget))

pub then_so : (E : Engines) {A B : Engine → Type 0} → ((L : Engine) → A L → B L) → Eventually E A → Eventually E B
then_so E f h = record { level = h.level; each = h.each; budget = h.budget; holds = λ k B b i j l. f (E k B b) (h.holds k B b i j l) }

pub always : (E : Engines) {A : Engine → Type 0} → ((L : Engine) → A L) → Eventually E A
always E f = record { level = 0; each = 0; budget = 0; holds = λ k B b i j l. f (E k B b) }

no_more_of : {A : Type 0} (xs zs : List A) → length (xs ++ zs) ≡ length xs → xs ++ zs ≡ xs
no_more_of xs [] e = append-nil xs
no_more_of xs (z ∷ zs) e = absurd (omega (arith, length-append xs (z ∷ zs)))

same_length : {A : Type 0} (xs ys : List A) → Agree xs ys → length xs ≡ length ys → xs ≡ ys
same_length xs ys (inl h) e = sym (h.1 ∙ no_more_of xs h.0 (sym (ap length h.1) ∙ sym e))
same_length xs ys (inr h) e = h.1 ∙ no_more_of ys h.0 (sym (ap length h.1) ∙ e)

push_front : {A : Type 0} (xs : List A) (x : A) → IsFront xs (xs ++ x ∷ [])
push_front xs x = (x ∷ [], refl)

next_front : (xs zs : List Config) (x : Config) (full : List Config) → full ≡ xs ++ zs → slice_get (xs ++ zs) (length xs) ≡ Some x → IsFront (xs ++ x ∷ []) full
next_front xs [] x full h k = absurd (omega (arith, slice_get_within (xs ++ []) (length xs) x k, length-append xs []))
next_front xs (z ∷ zs) x full h k = (zs, h ∙ (sym (append_assoc xs (z ∷ []) zs) ∙ ap (λ w. (xs ++ w ∷ []) ++ zs) (head xs k)))
  where
    head : (ys : List Config) → slice_get (ys ++ z ∷ zs) (length ys) ≡ Some x → z ≡ x
    head [] m = cc
    head (y ∷ ys) m = head ys m

module _ (f : Fixed) (c : Config) where
  abbrev E : Engines
  E = engine_of f.program

  pub one_front : (given front : List Config) → BeginsBy f c given → BeginsBy f c front → length given ≡ length front → given ≡ front
  one_front given front a b e = at_one E {C = given ≡ front} a b (λ L p q. same_length given front (begins_agree f.program L f.definitions c given front p q) e)

  pub all_begins : (cs front : List Config) → NextBy f c cs → IsFront front cs → BeginsBy f c front
  all_begins cs front n h = then_so E (λ L a. all_begin f.program L f.definitions c cs front a h) n

  pub fewer_begins : (cs front : List Config) → BeginsBy f c cs → IsFront front cs → BeginsBy f c front
  fewer_begins cs front n h = then_so E (λ L a. fewer_begin f.program L f.definitions c cs front a h) n

  -- behind a front of the same length
  pub answered_some : (given front : List Config) (x : Config) → BeginsBy f c given → BeginsBy f c (front ++ x ∷ []) → length given ≡ length front → BeginsBy f c (given ++ x ∷ [])
  answered_some given front x b a e =
      let same = one_front given front b (fewer_begins (front ++ x ∷ []) front a (push_front front x)) e in
      subst (λ g. BeginsBy f c (g ++ x ∷ [])) (sym same) a

  pub answered_none : (given front : List Config) → BeginsBy f c given → NextBy f c front → length given ≡ length front → NextBy f c given
  answered_none given front b a e = subst (NextBy f c) (sym (one_front given front b (all_begins front front a (front_itself front)) e)) a

  -- where all are known
  pub front_of_all : (given full : List Config) → BeginsBy f c given → NextBy f c full → IsFront given full
  front_of_all given full b n = at_one E {C = IsFront given full} b n (λ L p q. begins_front f.program L f.definitions c given full p q)

  pub no_more_behind : (given full : List Config) → BeginsBy f c given → NextBy f c full → length full ≤ length given → NextBy f c given
  no_more_behind given full b n l = let h = front_of_all given full b n in subst (NextBy f c) (h.1 ∙ no_more_of given h.0 (omega (arith, length-append given h.0, ap length h.1))) n

  pub one_behind : (given full : List Config) → BeginsBy f c given → NextBy f c full → (x : Config) → slice_get full (length given) ≡ Some x → BeginsBy f c (given ++ x ∷ [])
  one_behind given full b n x e = let h = front_of_all given full b n in all_begins full (given ++ x ∷ []) n (next_front given h.0 x full h.1 (sym (ap (λ w. slice_get w (length given)) h.1) ∙ e))

  -- where as many or more are known
  pub one_of_known : (given known : List Config) → BeginsBy f c given → BeginsBy f c known → (x : Config) → slice_get known (length given) ≡ Some x → BeginsBy f c (given ++ x ∷ [])
  one_of_known given known b k x e =
      let h = at_one E {C = IsFront given known} b k (λ L p q. shorter (begins_agree f.program L f.definitions c given known p q)) in
      fewer_begins known (given ++ x ∷ []) k (next_front given h.0 x known h.1 (sym (ap (λ w. slice_get w (length given)) h.1) ∙ e))
    where
      shorter : Agree given known → IsFront given known
      shorter (inl h) = h
      shorter (inr h) = let short = same_length known given (inl h) (omega (arith, slice_get_within known (length given) x e, ap length h.1, length-append known h.0)) in ([], short ∙ sym (append-nil given))

  pub ended : (given front : List Config) → BeginsBy f c given → BeginsBy f c front → length given ≡ length front → (e : LeafEnd) → IsEnd f c front e → IsEnd f c given e
  ended given front b b' k e h = subst (λ g. IsEnd f c g e) (sym (one_front given front b b' k)) h
