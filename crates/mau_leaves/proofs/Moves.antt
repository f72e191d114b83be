-- What is left of the uses of a rule, with one engine, as its solutions are gone through and their conditions are asked.
use Rattle.std.proofs.Common.{◌≡◌, ◌⊎◌, inl, inr, ℕ, List, [], ◌∷◌, ◌++◌, Bool, true, false, ◌&&◌, Option, Some, None, refl, sym, ap, ◌∙◌, subst}
use Rattle.mau_terms.specs.Tree.{Tree}
use Rattle.mau_terms.specs.Finite.{IsIn}
use Rattle.mau_terms.specs.Subst.{variables}
use Rattle.mau_listing.specs.Finite.{comes_behind}
use Rattle.mau_evaluation.specs.Run.{End, done, ended}
use Rattle.mau_evaluation.specs.Program.{Rule, Program}
use Rattle.mau_evaluation.specs.Listing.{Solution, compare}
use Rattle.mau_evaluation.specs.Evaluation.{Binding, agree, have_sorts}
use Rattle.mau_evaluation.specs.Engine.{Engine}
use Rattle.mau_evaluation.specs.Rules.{bound_by}
use Rattle.mau_evaluation.specs.Answers.{Answers, no_more, ends_by, and_those, for_each, asking, from_outcome, when}
use Rattle.mau_evaluation.specs.OrderedLists.{asked}
use Rattle.mau_evaluation.proofs.Listed.{from_keep}
use Rattle.mau_leaves.specs.Steps.{Gives, IsOver, Passes, EndsNow}
use Rattle.mau_leaves.specs.Uses.{Use, behind, at_one, solutions_as, solutions_behind, use_by, condition_from, uses_for, uses_at, uses_among, IsLeft}
use Rattle.mau_rules.proofs.Passing.{AllFail, no_more_fail, one_fails}
use Rattle.mau_leaves.proofs.Engines.{AsksRightly}
use Rattle.mau_leaves.proofs.Askings.{asked_gives, asked_over, asked_ends}

-- ---- a condition is asked on

module _ (P : Program) (L : Engine) (right : AsksRightly P L) (w : Bool) (q : Rule) (σ : Binding) (t : Tree) (x : Solution) (o : Option Binding) where
  abbrev tail : Answers Use
  tail = uses_among P L q σ (solutions_behind P w q t (Some x))

  pub use_given : (s : Binding) (r l : ℕ) → condition_from P L o q.cond (bound_by P L q σ x) L.budget ≡ done (Some s) r l →
      Gives (IsLeft P L w q σ t (at_one x o)) (record { rule = q; solution = x; values = s }) (IsLeft P L w q σ t (at_one x (Some s)))
  use_given s r l e p (rest, n, h) =
      let g = asked_gives P L right q.cond (bound_by P L q σ x) o s r l e rest n in (
        and_those (for_each (use_by q x) g.0) tail,
        h ∙ ap (λ z. and_those (for_each (use_by q x) z) tail) g.1,
        (g.0, g.2, refl),
      )

  pub use_passed : (r l : ℕ) → condition_from P L o q.cond (bound_by P L q σ x) L.budget ≡ done None r l → Passes (IsLeft P L w q σ t (at_one x o)) (IsLeft P L w q σ t (behind (Some x)))
  use_passed r l e p (rest, n, h) = h ∙ ap (λ z. and_those (for_each (use_by q x) z) tail) (asked_over P L right q.cond (bound_by P L q σ x) o r l e rest n)

  pub use_ends : (f : End) → condition_from P L o q.cond (bound_by P L q σ x) L.budget ≡ ended f → EndsNow (IsLeft P L w q σ t (at_one x o)) f
  use_ends f e p (rest, n, h) = h ∙ ap (λ z. and_those (for_each (use_by q x) z) tail) (asked_ends P L right q.cond (bound_by P L q σ x) o f e rest n)

-- ---- lists in two parts

in_first : {A : Type 0} (xs ys : List A) (x : A) → IsIn x xs → IsIn x (xs ++ ys)
in_first [] ys x i = absurd i
in_first (z ∷ xs) ys x (inl e) = inl e
in_first (z ∷ xs) ys x (inr i) = inr (in_first xs ys x i)

in_last : {A : Type 0} (xs : List A) (x : A) → IsIn x (xs ++ x ∷ [])
in_last [] x = inl refl
in_last (z ∷ xs) x = inr (in_last xs x)

in_two : {A : Type 0} (xs ys : List A) (x : A) → (xs ++ x ∷ []) ++ ys ≡ xs ++ (x ∷ ys)
in_two [] ys x = refl
in_two (z ∷ xs) ys x = ap (λ zs. z ∷ zs) (in_two xs ys x)

-- ---- solutions are gone through

module _ (P : Program) (L : Engine) (w : Bool) (q : Rule) (σ : Binding) (t : Tree) (X : Type 0) (e : End) (test : Solution → Bool)
    (sorted : (y : Solution) → IsIn y (solutions_as P w q t) →
    (have_sorts L.level.sorts (variables q.left) y.values L.budget ≡ done (test y) 0 L.budget) ⊎ (X × (have_sorts L.level.sorts (variables q.left) y.values L.budget ≡ ended e))) where
  -- the values agree with what is bound, and have their sorts
  abbrev pub accepted : Solution → Bool
  accepted y = agree P.sign.theory σ (variables q.left) y.values && test y

  abbrev asks_at : Solution → Answers Use
  asks_at y = asking L.budget (have_sorts L.level.sorts (variables q.left) y.values) (λ ok. when ok (uses_for P L q σ y))

  abbrev IsListed : Solution → Type 0
  IsListed y = IsIn y (solutions_as P w q t)

  at_sorts : (y : Solution) → IsListed y → (asking L.budget (have_sorts L.level.sorts (variables q.left) y.values) (λ ok. when ok (uses_for P L q σ y)) ≡ when (test y) (uses_for P L q σ y))
      ⊎ (X × (asking L.budget (have_sorts L.level.sorts (variables q.left) y.values) (λ ok. when ok (uses_for P L q σ y)) ≡ ends_by e))
  at_sorts y listed = by (sorted y listed)
    where
      by : (have_sorts L.level.sorts (variables q.left) y.values L.budget ≡ done (test y) 0 L.budget) ⊎ (X × (have_sorts L.level.sorts (variables q.left) y.values L.budget ≡ ended e)) →
          (asking L.budget (have_sorts L.level.sorts (variables q.left) y.values) (λ ok. when ok (uses_for P L q σ y)) ≡ when (test y) (uses_for P L q σ y))
          ⊎ (X × (asking L.budget (have_sorts L.level.sorts (variables q.left) y.values) (λ ok. when ok (uses_for P L q σ y)) ≡ ends_by e))
      by (inl h) = inl (ap (from_outcome (λ ok. when ok (uses_for P L q σ y))) h)
      by (inr h) = inr (h.0, ap (from_outcome (λ ok. when ok (uses_for P L q σ y))) h.1)

  one_by : (y : Solution) → IsListed y → (uses_at P L q σ y ≡ when (accepted y) (uses_for P L q σ y)) ⊎ (X × (uses_at P L q σ y ≡ ends_by e))
  one_by y listed = by (agree P.sign.theory σ (variables q.left) y.values) (at_sorts y listed)
    where
      by : (b : Bool) → (asks_at y ≡ when (test y) (uses_for P L q σ y)) ⊎ (X × (asks_at y ≡ ends_by e)) → (when b (asks_at y) ≡ when (b && test y) (uses_for P L q σ y)) ⊎ (X × (when b (asks_at y) ≡ ends_by e))
      by true h = h
      by false h = inl refl

  -- those that are not accepted give nothing
  over_all : (failed rest : List Solution) → ((y : Solution) → IsIn y failed → IsListed y) → AllFail accepted failed → (uses_among P L q σ (failed ++ rest) ≡ uses_among P L q σ rest) ⊎ (X × (uses_among P L q σ (failed ++ rest) ≡ ends_by e))
  over_all [] rest listed no_more_fail = inl refl
  over_all (y ∷ ys) rest listed (one_fails h hs) = by (one_by y (listed y (inl refl))) (over_all ys rest (λ z i. listed z (inr i)) hs)
    where
      by : (uses_at P L q σ y ≡ when (accepted y) (uses_for P L q σ y)) ⊎ (X × (uses_at P L q σ y ≡ ends_by e)) →
          (uses_among P L q σ (ys ++ rest) ≡ uses_among P L q σ rest) ⊎ (X × (uses_among P L q σ (ys ++ rest) ≡ ends_by e)) →
          (and_those (uses_at P L q σ y) (uses_among P L q σ (ys ++ rest)) ≡ uses_among P L q σ rest) ⊎ (X × (and_those (uses_at P L q σ y) (uses_among P L q σ (ys ++ rest)) ≡ ends_by e))
      by (inl k) (inl m) = inl (ap (λ z. and_those z (uses_among P L q σ (ys ++ rest))) (k ∙ ap (λ b. when b (uses_for P L q σ y)) h) ∙ m)
      by (inl k) (inr m) = inr (m.0, ap (λ z. and_those z (uses_among P L q σ (ys ++ rest))) (k ∙ ap (λ b. when b (uses_for P L q σ y)) h) ∙ m.1)
      by (inr k) m = inr (k.0, ap (λ z. and_those z (uses_among P L q σ (ys ++ rest))) k.1)

  module _ (last : Option Solution) where
    -- those behind the last one are listed
    among : (failed ys : List Solution) → solutions_behind P w q t last ≡ failed ++ ys → (y : Solution) → IsIn y failed → IsListed y
    among failed ys parts y i =
        (from_keep (comes_behind (compare P.sign.theory q.left) last) y (solutions_as P w q t) (subst (IsIn y) (sym parts) (in_first failed ys y i))).0

    -- the next one that is accepted
    pub next_one : (failed ys : List Solution) (x : Solution) → solutions_behind P w q t last ≡ failed ++ (x ∷ ys) → AllFail accepted failed → accepted x ≡ true → solutions_behind P w q t (Some x) ≡ ys →
        Passes (IsLeft P L w q σ t (behind last)) (IsLeft P L w q σ t (at_one x None)) ⊎ (X × EndsNow (IsLeft P L w q σ t (behind last)) e)
    next_one failed ys x parts fails passes rest = by (over_all failed (x ∷ ys) (among failed (x ∷ ys) parts) fails) (one_by x (among (failed ++ x ∷ []) ys (parts ∙ sym (in_two failed ys x)) x (in_last failed x)))
      where
        by : (uses_among P L q σ (failed ++ (x ∷ ys)) ≡ uses_among P L q σ (x ∷ ys)) ⊎ (X × (uses_among P L q σ (failed ++ (x ∷ ys)) ≡ ends_by e)) → (uses_at P L q σ x ≡ when (accepted x) (uses_for P L q σ x)) ⊎ (X × (uses_at P L q σ x ≡ ends_by e)) →
            Passes (IsLeft P L w q σ t (behind last)) (IsLeft P L w q σ t (at_one x None)) ⊎ (X × EndsNow (IsLeft P L w q σ t (behind last)) e)
        by (inl h) (inl k) = inl (λ p n. (
          asked P L q.cond (bound_by P L q σ x),
          refl,
          n ∙ (ap (uses_among P L q σ) parts ∙ (h ∙ (ap (λ z. and_those z (uses_among P L q σ ys)) (k ∙ ap (λ b. when b (uses_for P L q σ x)) passes)
              ∙ ap (λ zs. and_those (uses_for P L q σ x) (uses_among P L q σ zs)) (sym rest)))),
        ))
        by (inl h) (inr k) = inr (k.0, λ p n. n ∙ (ap (uses_among P L q σ) parts ∙ (h ∙ ap (λ z. and_those z (uses_among P L q σ ys)) k.1)))
        by (inr h) k = inr (h.0, λ p n. n ∙ (ap (uses_among P L q σ) parts ∙ h.1))

    -- no other one is accepted
    pub no_other : (failed : List Solution) → solutions_behind P w q t last ≡ failed ++ [] → AllFail accepted failed → IsOver (IsLeft P L w q σ t (behind last)) ⊎ (X × EndsNow (IsLeft P L w q σ t (behind last)) e)
    no_other failed parts fails = by (over_all failed [] (among failed [] parts) fails)
      where
        by : (uses_among P L q σ (failed ++ []) ≡ no_more) ⊎ (X × (uses_among P L q σ (failed ++ []) ≡ ends_by e)) → IsOver (IsLeft P L w q σ t (behind last)) ⊎ (X × EndsNow (IsLeft P L w q σ t (behind last)) e)
        by (inl h) = inl (λ p n. n ∙ (ap (uses_among P L q σ) parts ∙ h))
        by (inr h) = inr (h.0, λ p n. n ∙ (ap (uses_among P L q σ) parts ∙ h.1))

    -- one that is not gone through, behind some that are not accepted
    pub skip_one : (failed ys : List Solution) (x : Solution) → solutions_behind P w q t last ≡ failed ++ ys → AllFail accepted failed → solutions_behind P w q t (Some x) ≡ ys →
        Passes (IsLeft P L w q σ t (behind last)) (IsLeft P L w q σ t (behind (Some x))) ⊎ (X × EndsNow (IsLeft P L w q σ t (behind last)) e)
    skip_one failed ys x parts fails rest = by (over_all failed ys (among failed ys parts) fails)
      where
        by : (uses_among P L q σ (failed ++ ys) ≡ uses_among P L q σ ys) ⊎ (X × (uses_among P L q σ (failed ++ ys) ≡ ends_by e)) →
            Passes (IsLeft P L w q σ t (behind last)) (IsLeft P L w q σ t (behind (Some x))) ⊎ (X × EndsNow (IsLeft P L w q σ t (behind last)) e)
        by (inl h) = inl (λ p n. n ∙ (ap (uses_among P L q σ) parts ∙ (h ∙ ap (uses_among P L q σ) (sym rest))))
        by (inr h) = inr (h.0, λ p n. n ∙ (ap (uses_among P L q σ) parts ∙ h.1))
