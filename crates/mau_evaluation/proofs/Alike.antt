-- Computations that give the same under other limits, but for some ends: how it passes through their combinators. `excused` are the ends after which
-- nothing is said; D are the amounts of budget that may be added, more than none only where Stopped is excused.
use Rattle.std.proofs.Common.{◌≡◌, ℕ, zero, suc, ◌+◌, Bool, true, false, List, [], ◌∷◌, ◌++◌, Option, Some, None, if◌then◌else◌, ◌&&◌, not, is_some, ◌⊎◌, inl, inr, refl, sym, ◌∙◌, ap, subst, arith}
use Rattle.mau_evaluation.specs.Run.{stopped, End, Outcome, done, ended, Run, gives, ends, counted, go_on, and_then, spend, spending, or_go_on, or_else, put_back, apart, first_of, each_in_turn, where_true, choose, counted_if, try_on, and_try}
use Rattle.mau_evaluation.specs.Higher.{with_more}
use Rattle.mau_terms.specs.Tree.{Tree, variable, numeral, apply, list_of}
use Rattle.mau_terms.specs.Norm.{build}
use Rattle.mau_terms.specs.Subst.{Variable, variables, instance}
use Rattle.mau_terms.specs.declared.theory.Theory.{Theory}
use Rattle.mau_evaluation.specs.Program.{Fragment, equals, matches, has_sort, reaches, Equation, Membership, Answer, no_value, value, too_large, Program}
use Rattle.mau_evaluation.specs.Listing.{same_tree, keep, Solution, solutions, solutions_within}
use Rattle.mau_evaluation.specs.Evaluation.{Binding, look_up, extend, agree, has_number, Level, have_sorts, solve, own_and_after, solve_after, any, joined, holds_for, by_membership, sorts_in, sorts_of, size, at, put, admitted, within_limits, admit, top_changed, native, replaced, binding_of, apply_for, try_equation, by_equations, by_answer, applied, settle, order_of, put_value, in_places, go_from, at_top, on_normal, rounds, level_on}

pub none_before : (d : ℕ) → 0 + d ≡ d
none_before d = omega arith

suc-sum : (b d : ℕ) → suc (b + d) ≡ suc b + d
suc-sum b d = omega arith

module _ (excused : End → Type 0) (D : ℕ → Type 0) (stops : (d : ℕ) → D (suc d) → excused stopped) where
  abbrev pub IsExcused : {A : Type 0} → Outcome A → Type 0
  IsExcused (done x r b) = ⊥
  IsExcused (ended e) = excused e

  -- o' is o, with d more left
  abbrev pub IsAlike : {A : Type 0} → ℕ → Outcome A → Outcome A → Type 0
  IsAlike d o o' = IsExcused o ⊎ (with_more d o ≡ o')

  abbrev pub AreAlike : {A : Type 0} → Run A → Run A → Type 0
  AreAlike m m' = (b d : ℕ) → D d → IsAlike d (m b) (m' (b + d))

  pub gives_alike : {A : Type 0} (x : A) → AreAlike (gives x) (gives x)
  gives_alike x b d q = inr refl

  counted_alike : {A : Type 0} (d r : ℕ) (o o' : Outcome A) → IsAlike d o o' → IsAlike d (counted r o) (counted r o')
  counted_alike d r (done x q b) o' (inl h) = absurd h
  counted_alike d r (done x q b) o' (inr h) = inr (ap (counted r) h)
  counted_alike d r (ended e) o' (inl h) = inl h
  counted_alike d r (ended e) o' (inr h) = inr (ap (counted r) h)

  pub and_then_alike : {A B : Type 0} (m m' : Run A) (k k' : A → Run B) → AreAlike m m' → ((x : A) → AreAlike (k x) (k' x)) → AreAlike (and_then m k) (and_then m' k')
  and_then_alike {A = A} {B = B} m m' k k' h g b d q = by (m b) (m' (b + d)) (h b d q)
    where
      by : (o o' : Outcome A) → IsAlike d o o' → IsAlike d (go_on k o) (go_on k' o')
      by (done x r c) o' (inl e) = absurd e
      by (done x r c) o' (inr e) = subst (λ w. IsAlike d (counted r (k x c)) (go_on k' w)) e (counted_alike d r (k x c) (k' x (c + d)) (g x c d q))
      by (ended z) o' (inl e) = inl e
      by (ended z) o' (inr e) = inr (ap (go_on k') e)

  pub spending_alike : {A : Type 0} (m m' : Run A) → AreAlike m m' → AreAlike (spending m) (spending m')
  spending_alike m m' h zero zero q = inr refl
  spending_alike m m' h zero (suc d) q = inl (stops d q)
  spending_alike m m' h (suc b) d q = subst (λ w. IsAlike d (counted 1 (m b)) (spend m' w)) (suc-sum b d) (counted_alike d 1 (m b) (m' (b + d)) (h b d q))

  pub or_else_alike : {A : Type 0} (m m' k k' : Run (Option A)) → AreAlike m m' → AreAlike k k' → AreAlike (or_else m k) (or_else m' k')
  or_else_alike {A = A} m m' k k' h g b d q = by (m b) (m' (b + d)) (h b d q)
    where
      by : (o o' : Outcome (Option A)) → IsAlike d o o' → IsAlike d (or_go_on k o) (or_go_on k' o')
      by (done (Some x) r c) o' (inl e) = absurd e
      by (done (Some x) r c) o' (inr e) = inr (ap (or_go_on k') e)
      by (done None r c) o' (inl e) = absurd e
      by (done None r c) o' (inr e) = subst (λ w. IsAlike d (k c) (or_go_on k' w)) e (g c d q)
      by (ended z) o' (inl e) = inl e
      by (ended z) o' (inr e) = inr (ap (or_go_on k') e)

  pub apart_alike : {A : Type 0} (n n' : ℕ) (m m' : Run A) → AreAlike m m' → (e : ℕ) → D e → n' ≡ n + e → AreAlike (apart n m) (apart n' m')
  apart_alike {A = A} n n' m m' h e k p b d q = by (m n) (m' n') (subst (λ w. IsAlike e (m n) (m' w)) (sym p) (h n e k))
    where
      by : (o o' : Outcome A) → IsAlike e o o' → IsAlike d (put_back b o) (put_back (b + d) o')
      by (done x r c) o' (inl z) = absurd z
      by (done x r c) o' (inr z) = inr (ap (put_back (b + d)) z)
      by (ended y) o' (inl z) = inl z
      by (ended y) o' (inr z) = inr (ap (put_back (b + d)) z)

  pub first_of_alike : {A B : Type 0} (f f' : A → Run (Option B)) → ((x : A) → AreAlike (f x) (f' x)) → (xs : List A) → AreAlike (first_of f xs) (first_of f' xs)
  first_of_alike f f' h [] = gives_alike None
  first_of_alike f f' h (x ∷ xs) = or_else_alike (f x) (f' x) (first_of f xs) (first_of f' xs) (h x) (first_of_alike f f' h xs)

  pub each_alike : {A B : Type 0} (f f' : A → Run B) → ((x : A) → AreAlike (f x) (f' x)) → (xs : List A) → AreAlike (each_in_turn f xs) (each_in_turn f' xs)
  each_alike f f' h [] = gives_alike []
  each_alike f f' h (x ∷ xs) =
      and_then_alike (f x) (f' x) (λ y. and_then (each_in_turn f xs) (λ ys. gives (y ∷ ys))) (λ y. and_then (each_in_turn f' xs) (λ ys. gives (y ∷ ys))) (h x)
      λ y. and_then_alike (each_in_turn f xs) (each_in_turn f' xs) (λ ys. gives (y ∷ ys)) (λ ys. gives (y ∷ ys)) (each_alike f f' h xs) λ ys. gives_alike (y ∷ ys)

  pub where_true_alike : {A : Type 0} (t : Bool) (m m' : Run (Option A)) → AreAlike m m' → AreAlike (where_true t m) (where_true t m')
  where_true_alike true m m' h = h
  where_true_alike false m m' h = gives_alike None

  pub choose_alike : {A : Type 0} (t : Bool) (m m' k k' : Run A) → AreAlike m m' → AreAlike k k' → AreAlike (choose t m k) (choose t m' k')
  choose_alike true m m' k k' h g = h
  choose_alike false m m' k k' h g = g

  counted_if_alike : {A : Type 0} (d r : ℕ) (o o' : Outcome (Option A)) → IsAlike d o o' → IsAlike d (counted_if r o) (counted_if r o')
  counted_if_alike d r (done (Some x) q b) o' (inl h) = absurd h
  counted_if_alike d r (done (Some x) q b) o' (inr h) = inr (ap (counted_if r) h)
  counted_if_alike d r (done None q b) o' (inl h) = absurd h
  counted_if_alike d r (done None q b) o' (inr h) = inr (ap (counted_if r) h)
  counted_if_alike d r (ended e) o' (inl h) = inl h
  counted_if_alike d r (ended e) o' (inr h) = inr (ap (counted_if r) h)

  pub and_try_alike : {A B : Type 0} (m m' : Run A) (k k' : A → Run (Option B)) → AreAlike m m' → ((x : A) → AreAlike (k x) (k' x)) → AreAlike (and_try m k) (and_try m' k')
  and_try_alike {A = A} {B = B} m m' k k' h g b d q = by (m b) (m' (b + d)) (h b d q)
    where
      by : (o o' : Outcome A) → IsAlike d o o' → IsAlike d (try_on k o) (try_on k' o')
      by (done x r c) o' (inl e) = absurd e
      by (done x r c) o' (inr e) = subst (λ w. IsAlike d (counted_if r (k x c)) (try_on k' w)) e (counted_if_alike d r (k x c) (k' x (c + d)) (g x c d q))
      by (ended z) o' (inl e) = inl e
      by (ended z) o' (inr e) = inr (ap (try_on k') e)

  -- ---- levels

  pub record IsAlikeLevel (l l' : Level) : Type 0 where
    pub eval_alike : (t : Tree) → AreAlike (l.eval t) (l'.eval t)
    pub sorts_alike : (t : Tree) → AreAlike (l.sorts t) (l'.sorts t)

  abbrev pub AlikeOn : {A : Type 0} → (Tree → Run A) → (Tree → Run A) → Type 0
  AlikeOn f f' = (t : Tree) → AreAlike (f t) (f' t)

  pub have_sorts_alike : (f f' : (Tree → Run (List ℕ))) → AlikeOn f f' → (xs : List Variable) (vs : List Tree) → AreAlike (have_sorts f xs vs) (have_sorts f' xs vs)
  have_sorts_alike f f' h [] vs = gives_alike true
  have_sorts_alike f f' h (x ∷ xs) [] = gives_alike false
  have_sorts_alike f f' h (x ∷ xs) (v ∷ vs) =
      and_then_alike (f v) (f' v) (λ ss. choose (has_number ss x.1) (have_sorts f xs vs) (gives false)) (λ ss. choose (has_number ss x.1) (have_sorts f' xs vs) (gives false)) (h v)
      λ ss. choose_alike (has_number ss x.1) (have_sorts f xs vs) (have_sorts f' xs vs) (gives false) (gives false) (have_sorts_alike f f' h xs vs) (gives_alike false)

  module _ (P : Program) (l l' : Level) (h : IsAlikeLevel l l') where
    pub solve_alike : (c : List Fragment) (σ : Binding) → AreAlike (solve P l c σ) (solve P l' c σ)
    solve_alike [] σ = gives_alike (Some σ)
    solve_alike (equals t u ∷ c) σ =
        let g : Binding → Tree = λ s. instance (look_up s) t in
        and_try_alike (l.eval (instance (look_up σ) t)) (l'.eval (instance (look_up σ) t))
        (λ v. and_try (l.eval (instance (look_up σ) u)) λ w. where_true (same_tree v w) (solve P l c σ))
        (λ v. and_try (l'.eval (instance (look_up σ) u)) λ w. where_true (same_tree v w) (solve P l' c σ))
        (h.eval_alike (instance (look_up σ) t))
        λ v. and_try_alike (l.eval (instance (look_up σ) u)) (l'.eval (instance (look_up σ) u))
        (λ w. where_true (same_tree v w) (solve P l c σ)) (λ w. where_true (same_tree v w) (solve P l' c σ))
        (h.eval_alike (instance (look_up σ) u))
        λ w. where_true_alike (same_tree v w) (solve P l c σ) (solve P l' c σ) (solve_alike c σ)
    solve_alike (has_sort t s ∷ c) σ =
        and_try_alike (l.eval (instance (look_up σ) t)) (l'.eval (instance (look_up σ) t))
        (λ v. and_try (l.sorts v) λ ss. where_true (has_number ss s) (solve P l c σ))
        (λ v. and_try (l'.sorts v) λ ss. where_true (has_number ss s) (solve P l' c σ))
        (h.eval_alike (instance (look_up σ) t))
        λ v. and_try_alike (l.sorts v) (l'.sorts v)
        (λ ss. where_true (has_number ss s) (solve P l c σ)) (λ ss. where_true (has_number ss s) (solve P l' c σ))
        (h.sorts_alike v)
        λ ss. where_true_alike (has_number ss s) (solve P l c σ) (solve P l' c σ) (solve_alike c σ)
    solve_alike (matches p u ∷ c) σ =
        let one : Level → (Binding → Run (Option Binding)) → Solution → Run (Option Binding) =
        λ m rest x. and_try (have_sorts m.sorts (variables p) x.values) λ ok. where_true ok (rest (extend σ (variables p) x.values)) in
        and_try_alike (l.eval (instance (look_up σ) u)) (l'.eval (instance (look_up σ) u))
        (λ v. first_of (one l (solve P l c)) (keep (λ x. agree P.sign.theory σ (variables p) x.values) (solutions P.sign p v)))
        (λ v. first_of (one l' (solve P l' c)) (keep (λ x. agree P.sign.theory σ (variables p) x.values) (solutions P.sign p v)))
        (h.eval_alike (instance (look_up σ) u))
        λ v. first_of_alike (one l (solve P l c)) (one l' (solve P l' c))
        (λ x. and_try_alike (have_sorts l.sorts (variables p) x.values) (have_sorts l'.sorts (variables p) x.values)
        (λ ok. where_true ok (solve P l c (extend σ (variables p) x.values))) (λ ok. where_true ok (solve P l' c (extend σ (variables p) x.values)))
        (have_sorts_alike l.sorts l'.sorts h.sorts_alike (variables p) x.values)
        λ ok. where_true_alike ok (solve P l c (extend σ (variables p) x.values)) (solve P l' c (extend σ (variables p) x.values)) (solve_alike c (extend σ (variables p) x.values)))
        (keep (λ x. agree P.sign.theory σ (variables p) x.values) (solutions P.sign p v))
    solve_alike (reaches t u ∷ c) σ = gives_alike None

    own_and_after_alike : {A B : Type 0} (own : A → Bool) (f f' g g' : A → Run (Option B)) → ((x : A) → AreAlike (f x) (f' x)) → ((x : A) → AreAlike (g x) (g' x)) → (xs : List A) → AreAlike (own_and_after P l own f g xs) (own_and_after P l' own f' g' xs)
    own_and_after_alike own f f' g g' p q [] = gives_alike None
    own_and_after_alike own f f' g g' p q (x ∷ xs) =
        choose_alike (own x) (or_else (f x) (first_of g xs)) (or_else (f' x) (first_of g' xs)) (own_and_after P l own f g xs) (own_and_after P l' own f' g' xs)
        (or_else_alike (f x) (f' x) (first_of g xs) (first_of g' xs) (p x) (first_of_alike g g' q xs)) (own_and_after_alike own f f' g g' p q xs)

    pub solve_after_alike : (last : Binding) (c : List Fragment) (σ : Binding) → AreAlike (solve_after P l last c σ) (solve_after P l' last c σ)
    solve_after_alike last [] σ = gives_alike None
    solve_after_alike last (equals t u ∷ c) σ =
        and_try_alike (l.eval (instance (look_up σ) t)) (l'.eval (instance (look_up σ) t))
        (λ v. and_try (l.eval (instance (look_up σ) u)) λ w. where_true (same_tree v w) (solve_after P l last c σ))
        (λ v. and_try (l'.eval (instance (look_up σ) u)) λ w. where_true (same_tree v w) (solve_after P l' last c σ))
        (h.eval_alike (instance (look_up σ) t))
        λ v. and_try_alike (l.eval (instance (look_up σ) u)) (l'.eval (instance (look_up σ) u))
        (λ w. where_true (same_tree v w) (solve_after P l last c σ)) (λ w. where_true (same_tree v w) (solve_after P l' last c σ))
        (h.eval_alike (instance (look_up σ) u))
        λ w. where_true_alike (same_tree v w) (solve_after P l last c σ) (solve_after P l' last c σ) (solve_after_alike last c σ)
    solve_after_alike last (has_sort t s ∷ c) σ =
        and_try_alike (l.eval (instance (look_up σ) t)) (l'.eval (instance (look_up σ) t))
        (λ v. and_try (l.sorts v) λ ss. where_true (has_number ss s) (solve_after P l last c σ))
        (λ v. and_try (l'.sorts v) λ ss. where_true (has_number ss s) (solve_after P l' last c σ))
        (h.eval_alike (instance (look_up σ) t))
        λ v. and_try_alike (l.sorts v) (l'.sorts v)
        (λ ss. where_true (has_number ss s) (solve_after P l last c σ)) (λ ss. where_true (has_number ss s) (solve_after P l' last c σ))
        (h.sorts_alike v)
        λ ss. where_true_alike (has_number ss s) (solve_after P l last c σ) (solve_after P l' last c σ) (solve_after_alike last c σ)
    solve_after_alike last (matches p u ∷ c) σ =
        let one : Level → (Binding → Run (Option Binding)) → Solution → Run (Option Binding) =
        λ m rest x. and_try (have_sorts m.sorts (variables p) x.values) λ ok. where_true ok (rest (extend σ (variables p) x.values)) in
        let own : Solution → Bool = λ x. agree P.sign.theory last (variables p) x.values in
        and_try_alike (l.eval (instance (look_up σ) u)) (l'.eval (instance (look_up σ) u))
        (λ v. own_and_after P l own (one l (solve_after P l last c)) (one l (solve P l c)) (keep (λ x. agree P.sign.theory σ (variables p) x.values) (solutions P.sign p v)))
        (λ v. own_and_after P l' own (one l' (solve_after P l' last c)) (one l' (solve P l' c)) (keep (λ x. agree P.sign.theory σ (variables p) x.values) (solutions P.sign p v)))
        (h.eval_alike (instance (look_up σ) u))
        λ v. own_and_after_alike own (one l (solve_after P l last c)) (one l' (solve_after P l' last c)) (one l (solve P l c)) (one l' (solve P l' c))
        (λ x. and_try_alike (have_sorts l.sorts (variables p) x.values) (have_sorts l'.sorts (variables p) x.values)
        (λ ok. where_true ok (solve_after P l last c (extend σ (variables p) x.values))) (λ ok. where_true ok (solve_after P l' last c (extend σ (variables p) x.values)))
        (have_sorts_alike l.sorts l'.sorts h.sorts_alike (variables p) x.values)
        λ ok. where_true_alike ok (solve_after P l last c (extend σ (variables p) x.values)) (solve_after P l' last c (extend σ (variables p) x.values)) (solve_after_alike last c (extend σ (variables p) x.values)))
        (λ x. and_try_alike (have_sorts l.sorts (variables p) x.values) (have_sorts l'.sorts (variables p) x.values)
        (λ ok. where_true ok (solve P l c (extend σ (variables p) x.values))) (λ ok. where_true ok (solve P l' c (extend σ (variables p) x.values)))
        (have_sorts_alike l.sorts l'.sorts h.sorts_alike (variables p) x.values)
        λ ok. where_true_alike ok (solve P l c (extend σ (variables p) x.values)) (solve P l' c (extend σ (variables p) x.values)) (solve_alike c (extend σ (variables p) x.values)))
        (keep (λ x. agree P.sign.theory σ (variables p) x.values) (solutions P.sign p v))
    solve_after_alike last (reaches t u ∷ c) σ = gives_alike None

  module _ (P : Program) (B B' d : ℕ) (allowed : D d) (e : B' ≡ B + d) (ask ask' : (List Fragment → Binding → Run (Option Binding))) (h : (c : List Fragment) (σ : Binding) → AreAlike (ask c σ) (ask' c σ)) where
    holds_for_alike : (f f' : (Tree → Run (List ℕ))) → AlikeOn f f' → (m : Membership) (x : Solution) → AreAlike (holds_for P B ask f m x) (holds_for P B' ask' f' m x)
    holds_for_alike f f' g m x =
        let σ : Binding = extend [] (variables m.left) x.values in
        and_then_alike (and_try (have_sorts f (variables m.left) x.values) λ ok. where_true ok (apart B (ask m.cond σ)))
        (and_try (have_sorts f' (variables m.left) x.values) λ ok. where_true ok (apart B' (ask' m.cond σ)))
        (λ o. gives (is_some o)) (λ o. gives (is_some o))
        (and_try_alike (have_sorts f (variables m.left) x.values) (have_sorts f' (variables m.left) x.values)
        (λ ok. where_true ok (apart B (ask m.cond σ))) (λ ok. where_true ok (apart B' (ask' m.cond σ)))
        (have_sorts_alike f f' g (variables m.left) x.values)
        λ ok. where_true_alike ok (apart B (ask m.cond σ)) (apart B' (ask' m.cond σ)) (apart_alike B B' (ask m.cond σ) (ask' m.cond σ) (h m.cond σ) d allowed e))
        λ o. gives_alike (is_some o)

    by_membership_alike : (f f' : (Tree → Run (List ℕ))) → AlikeOn f f' → (t : Tree) (m : Membership) → AreAlike (by_membership P B ask f t m) (by_membership P B' ask' f' t m)
    by_membership_alike f f' g t m =
        let k : List Bool → Run (List ℕ) = λ bs. gives (if any bs then P.above m.sort else []) in
        choose_alike m.exec
        (and_then (each_in_turn (holds_for P B ask f m) (solutions P.sign m.left t)) k)
        (and_then (each_in_turn (holds_for P B' ask' f' m) (solutions P.sign m.left t)) k)
        (gives []) (gives [])
        (and_then_alike (each_in_turn (holds_for P B ask f m) (solutions P.sign m.left t)) (each_in_turn (holds_for P B' ask' f' m) (solutions P.sign m.left t)) k k
        (each_alike (holds_for P B ask f m) (holds_for P B' ask' f' m) (holds_for_alike f f' g m) (solutions P.sign m.left t))
        λ bs. gives_alike (if any bs then P.above m.sort else []))
        (gives_alike [])

    sorts_in_alike : (n : ℕ) → AlikeOn (sorts_in P B ask n) (sorts_in P B' ask' n)
    sorts_in_alike zero t = gives_alike []
    sorts_in_alike (suc n) (variable i s) = gives_alike (P.above s)
    sorts_in_alike (suc n) (numeral m) = gives_alike (P.numeral_sorts m)
    sorts_in_alike (suc n) (apply f ts) =
        let u : Tree = apply f ts in
        and_then_alike (each_in_turn (sorts_in P B ask n) (list_of ts)) (each_in_turn (sorts_in P B' ask' n) (list_of ts))
        (λ args. and_then (each_in_turn (by_membership P B ask (sorts_in P B ask n) u) P.memberships) λ more. gives (P.declared f args ++ joined more))
        (λ args. and_then (each_in_turn (by_membership P B' ask' (sorts_in P B' ask' n) u) P.memberships) λ more. gives (P.declared f args ++ joined more))
        (each_alike (sorts_in P B ask n) (sorts_in P B' ask' n) (sorts_in_alike n) (list_of ts))
        λ args. and_then_alike (each_in_turn (by_membership P B ask (sorts_in P B ask n) u) P.memberships) (each_in_turn (by_membership P B' ask' (sorts_in P B' ask' n) u) P.memberships)
        (λ more. gives (P.declared f args ++ joined more)) (λ more. gives (P.declared f args ++ joined more))
        (each_alike (by_membership P B ask (sorts_in P B ask n) u) (by_membership P B' ask' (sorts_in P B' ask' n) u)
        (by_membership_alike (sorts_in P B ask n) (sorts_in P B' ask' n) (sorts_in_alike n) u) P.memberships)
        λ more. gives_alike (P.declared f args ++ joined more)

    pub sorts_of_alike : AlikeOn (sorts_of P B ask) (sorts_of P B' ask')
    sorts_of_alike t = sorts_in_alike (size t) t

  admitted_alike : (b o : Bool) (t : Tree) → AreAlike (admitted b o t) (admitted b o t)
  admitted_alike true o t b d q = inr refl
  admitted_alike false true t b d q = inr refl
  admitted_alike false false t b d q = inr refl

  within_alike : (th : ℕ → Theory) (u : Tree) → AreAlike (within_limits th u) (within_limits th u)
  within_alike th u = admitted_alike _ _ _

  pub admit_alike : (th : ℕ → Theory) (t : Tree) → AreAlike (admit th t) (admit th t)
  admit_alike th t = admitted_alike _ _ _

  module _ (P : Program) (l l' : Level) (h : IsAlikeLevel l l') (f f' : (Tree → Run (List ℕ))) (g : AlikeOn f f') where
    apply_for_alike : (e : Equation) (t : Tree) (x : Solution) → AreAlike (apply_for P l f e t x) (apply_for P l' f' e t x)
    apply_for_alike e t x =
        let k : Option Binding → Run (Option Tree) = λ o. gives (replaced P.sign.theory e t x o) in
        and_try_alike (have_sorts f (variables e.left) x.values) (have_sorts f' (variables e.left) x.values)
        (λ ok. where_true ok (and_try (solve P l e.cond (binding_of e.left x)) k))
        (λ ok. where_true ok (and_try (solve P l' e.cond (binding_of e.left x)) k))
        (have_sorts_alike f f' g (variables e.left) x.values)
        λ ok. where_true_alike ok (and_try (solve P l e.cond (binding_of e.left x)) k) (and_try (solve P l' e.cond (binding_of e.left x)) k)
        (and_try_alike (solve P l e.cond (binding_of e.left x)) (solve P l' e.cond (binding_of e.left x)) k k
        (solve_alike P l l' h e.cond (binding_of e.left x)) λ o. gives_alike (replaced P.sign.theory e t x o))

    try_equation_alike : (t : Tree) (o : Bool) (e : Equation) → AreAlike (try_equation P l f t o e) (try_equation P l' f' t o e)
    try_equation_alike t o e =
        where_true_alike (e.exec && (if o then e.owise else not e.owise)) (first_of (apply_for P l f e t) (solutions_within P.sign e.left t)) (first_of (apply_for P l' f' e t) (solutions_within P.sign e.left t))
        (first_of_alike (apply_for P l f e t) (apply_for P l' f' e t) (apply_for_alike e t) (solutions_within P.sign e.left t))

    by_equations_alike : (t : Tree) → AreAlike (by_equations P l f t) (by_equations P l' f' t)
    by_equations_alike t =
        or_else_alike (first_of (try_equation P l f t false) P.equations) (first_of (try_equation P l' f' t false) P.equations)
        (first_of (try_equation P l f t true) P.equations) (first_of (try_equation P l' f' t true) P.equations)
        (first_of_alike (try_equation P l f t false) (try_equation P l' f' t false) (try_equation_alike t false) P.equations)
        (first_of_alike (try_equation P l f t true) (try_equation P l' f' t true) (try_equation_alike t true) P.equations)

    by_answer_alike : (a : Answer) (m m' : Run (Option Tree)) → AreAlike m m' → AreAlike (by_answer P l f a m) (by_answer P l' f' a m')
    by_answer_alike no_value m m' k = k
    by_answer_alike (value v) m m' k = gives_alike (Some v)
    by_answer_alike too_large m m' k = λ b d q. inr refl

    pub applied_alike : (t : Tree) → AreAlike (applied P l f t) (applied P l' f' t)
    applied_alike t = by_answer_alike (native P t) (by_equations P l f t) (by_equations P l' f' t) (by_equations_alike t)

    settle_alike : (t : Tree) → AreAlike (settle P l f t) (settle P l' f' t)
    settle_alike t =
        and_then_alike (each_in_turn f P.units) (each_in_turn f' P.units) (λ us. f t) (λ us. f' t) (each_alike f f' g P.units) λ us. g t

    put_value_alike : (ts : List Tree) (i : ℕ) (o : Option Tree) → AreAlike (put_value P l f l.eval ts i o) (put_value P l' f' l'.eval ts i o)
    put_value_alike ts i None = gives_alike ts
    put_value_alike ts i (Some t) = and_then_alike (l.eval t) (l'.eval t) (λ v. gives (put ts i v)) (λ v. gives (put ts i v)) (h.eval_alike t) λ v. gives_alike (put ts i v)

    in_places_alike : (is : List ℕ) (ts : List Tree) → AreAlike (in_places P l f is ts) (in_places P l' f' is ts)
    in_places_alike [] ts = gives_alike ts
    in_places_alike (i ∷ is) ts =
        and_then_alike (put_value P l f l.eval ts i (at ts i)) (put_value P l' f' l'.eval ts i (at ts i)) (in_places P l f is) (in_places P l' f' is) (put_value_alike ts i (at ts i)) (in_places_alike is)

    go_from_alike : (n n' : Tree → Run Tree) → AlikeOn n n' → (t : Tree) (o : Option Tree) → AreAlike (go_from P l f n t o) (go_from P l' f' n' t o)
    go_from_alike n n' k t None = gives_alike t
    go_from_alike n n' k t (Some u) = spending_alike (n u) (n' u) (k u)

    at_top_alike : (n n' : Tree → Run Tree) → AlikeOn n n' → (t : Tree) → AreAlike (at_top P l f n t) (at_top P l' f' n' t)
    at_top_alike n n' k t =
        and_then_alike (settle P l f t) (settle P l' f' t) (λ ss. and_then (applied P l f t) λ o. go_from P l f n t o) (λ ss. and_then (applied P l' f' t) λ o. go_from P l' f' n' t o) (settle_alike t)
        λ ss. and_then_alike (applied P l f t) (applied P l' f' t) (λ o. go_from P l f n t o) (λ o. go_from P l' f' n' t o) (applied_alike t) λ o. go_from_alike n n' k t o

    on_normal_alike : (n n' : Tree → Run Tree) → AlikeOn n n' → (t : Tree) → AreAlike (on_normal P l f n t) (on_normal P l' f' n' t)
    on_normal_alike n n' k (variable i s) = at_top_alike n n' k (variable i s)
    on_normal_alike n n' k (numeral m) = at_top_alike n n' k (numeral m)
    on_normal_alike n n' k (apply q ts) =
        let is : List ℕ = order_of P q (list_of ts) in
        let h : Theory = P.sign.theory q in
        let rest : Level → (Tree → Run (List ℕ)) → (Tree → Run Tree) → List Tree → Run Tree = λ m s r us. and_then (within_limits P.sign.theory (build h q us)) λ t. choose (top_changed h is q us t) (m.eval t) (at_top P m s r t) in
        and_then_alike (in_places P l f is (list_of ts)) (in_places P l' f' is (list_of ts)) (rest l f n) (rest l' f' n') (in_places_alike is (list_of ts))
        λ us. and_then_alike (within_limits P.sign.theory (build h q us)) (within_limits P.sign.theory (build h q us))
        (λ t. choose (top_changed h is q us t) (l.eval t) (at_top P l f n t)) (λ t. choose (top_changed h is q us t) (l'.eval t) (at_top P l' f' n' t))
        (within_alike P.sign.theory (build h q us))
        λ t. choose_alike (top_changed h is q us t) (l.eval t) (l'.eval t) (at_top P l f n t) (at_top P l' f' n' t) (larger.eval_alike t) (at_top_alike n n' k t)
      where
        larger : IsAlikeLevel l l'
        larger = h

    -- d more at most: with none left the first is stopped
    pub rounds_alike : (n n' d : ℕ) → n' ≡ n + d → D d → AlikeOn (rounds P l f n) (rounds P l' f' n')
    rounds_alike zero zero d e q t =
        and_then_alike (admit P.sign.theory t) (admit P.sign.theory t) (on_normal P l f (λ u. ends stopped)) (on_normal P l' f' (λ u. ends stopped)) (admit_alike P.sign.theory t)
        (on_normal_alike (λ u. ends stopped) (λ u. ends stopped) λ u b c k. inr refl)
    rounds_alike zero (suc n') d e q t =
        let z : excused stopped = stops n' (subst D (sym (e ∙ none_before d)) q) in
        and_then_alike (admit P.sign.theory t) (admit P.sign.theory t) (on_normal P l f (λ u. ends stopped)) (on_normal P l' f' (rounds P l' f' n')) (admit_alike P.sign.theory t)
        (on_normal_alike (λ u. ends stopped) (rounds P l' f' n') λ u b c k. inl z)
    rounds_alike (suc n) zero d e q t = absurd (omega arith)
    rounds_alike (suc n) (suc n') d e q t =
        and_then_alike (admit P.sign.theory t) (admit P.sign.theory t) (on_normal P l f (rounds P l f n)) (on_normal P l' f' (rounds P l' f' n')) (admit_alike P.sign.theory t)
        (on_normal_alike (rounds P l f n) (rounds P l' f' n') (rounds_alike n n' d (omega arith) q))

  -- a level over alike levels
  pub level_alike : (P : Program) (B B' d : ℕ) → D d → B' ≡ B + d → (l l' : Level) → IsAlikeLevel l l' → IsAlikeLevel (level_on P B l) (level_on P B' l')
  level_alike P B B' d q e l l' h =
      let g : AlikeOn (sorts_of P B (solve P l)) (sorts_of P B' (solve P l')) = sorts_of_alike P B B' d q e (solve P l) (solve P l') (solve_alike P l l' h) in
      record { eval_alike = λ t b c k. rounds_alike P l l' h (sorts_of P B (solve P l)) (sorts_of P B' (solve P l')) g b (b + c) c refl k t b c k; sorts_alike = g }
