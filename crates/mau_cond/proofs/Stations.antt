-- What comes through matching fragments.
use Rattle.std.proofs.Common.{◌≡◌, ℕ, zero, suc, ◌+◌, ◌≤◌, List, [], ◌∷◌, ◌++◌, Bool, true, false, Option, Some, None, map, take, drop, length, slice_get, refl, ap, ap₂, ◌∙◌, arith}
use Rattle.mau_terms.specs.Tree.{Tree}
use Rattle.mau_terms.specs.Subst.{variables}
use Rattle.mau_program.specs.declared.statements.Fragment as Written
use Rattle.mau_evaluation.specs.Run.{Outcome, done, ended, End, Run, and_try, try_on, or_go_on, or_else, first_of, where_true, counted_if, choose}
use Rattle.mau_evaluation.specs.Program.{Fragment, matches, Program}
use Rattle.mau_evaluation.specs.Listing.{Solution}
use Rattle.mau_evaluation.specs.Evaluation.{Binding, Level, have_sorts, extend, own_and_after}
use Rattle.mau_api.specs.Programs.{fragment_of}
use Rattle.mau_cond.specs.declared.stage.Station.{Station}
use Rattle.mau_cond.specs.Path.{AreNested}
use Rattle.mau_cond.proofs.Lists.{take_less}
use Rattle.mau_cond.specs.Meaning.{Left, left_at, total, evaluated, AreKnownToHave, AreSorted, no_more, has, lacks, AreSortedFrom, before, here, solve_from, tried, chosen, goes_on, through}

-- ---- the fragments from a place on

pub from_place : (cond : List Written.Fragment) (i : ℕ) (f : Written.Fragment) → slice_get cond i ≡ Some f →
    drop i (map fragment_of cond) ≡ fragment_of f ∷ drop (suc i) (map fragment_of cond)
from_place [] i f e = cc
from_place (x ∷ cond) zero f e = ap (λ z. fragment_of z ∷ map fragment_of cond) (some e)
  where
    some : {A : Type 0} {x y : A} → Some x ≡ Some y → x ≡ y
    some e = cc
from_place (x ∷ cond) (suc i) f e = from_place cond i f e

pub from_end : (cond : List Written.Fragment) (i : ℕ) → length cond ≤ i → drop i (map fragment_of cond) ≡ []
from_end [] zero h = refl
from_end [] (suc i) h = refl
from_end (x ∷ cond) zero h = absurd (omega (arith, h))
from_end (x ∷ cond) (suc i) h = from_end cond i (omega (arith, h))

-- ---- what was bound before

pub nested_push : (low : ℕ) (ss : List Station) (s : Station) (n : ℕ) → AreNested low ss s.bound → s.bound ≤ n → AreNested low (ss ++ s ∷ []) n
nested_push low [] s n h k = (h, k)
nested_push low (z ∷ ss) s n h k = (h.0, nested_push z.bound ss s n h.1 k)

pub nested_pop : (low : ℕ) (ss : List Station) (s : Station) (n : ℕ) → AreNested low (ss ++ s ∷ []) n → AreNested low ss s.bound × (s.bound ≤ n)
nested_pop low [] s n h = h
nested_pop low (z ∷ ss) s n h = let q = nested_pop z.bound ss s n h.1 in ((h.0, q.0), q.1)

pub nested_more : (low : ℕ) (ss : List Station) (m n : ℕ) → AreNested low ss m → m ≤ n → AreNested low ss n
nested_more low [] m n h k = omega (arith, h, k)
nested_more low (z ∷ ss) m n h k = (h.0, nested_more z.bound ss m n h.1 k)

nested_low : (low : ℕ) (ss : List Station) (n : ℕ) → AreNested low ss n → low ≤ n
nested_low low [] n h = h
nested_low low (z ∷ ss) n h = let q = nested_low z.bound ss n h.1 in omega (arith, h.0, q)

-- ---- counts

sum_twice : (r q p : ℕ) → r + (q + p) ≡ r + q + p
sum_twice r q p = omega arith

pub counted_twice : (r q : ℕ) (o : Outcome (Option Binding)) → counted_if r (counted_if q o) ≡ counted_if (r + q) o
counted_twice r q (done (Some σ) p b) = ap (λ n. done (Some σ) n b) (sum_twice r q p)
counted_twice r q (done None p b) = refl
counted_twice r q (ended e) = refl

module _ (P : Program) (l : Level) (c : List Fragment) where
  -- ---- through them

  pub through_ended : (σ : Binding) (ss : List Station) (xs : List Left) (e : End) → through P l c σ ss xs (ended e) ≡ ended e
  through_ended σ [] xs e = refl
  through_ended σ (s ∷ ss) [] e = refl
  through_ended σ (s ∷ ss) (x ∷ xs) e = ap (goes_on P l (drop s.at c) (take s.bound σ) x) (through_ended σ ss xs e)

  pub through_some : (σ : Binding) (ss : List Station) (xs : List Left) (τ : Binding) (r b : ℕ) → through P l c σ ss xs (done (Some τ) r b) ≡ done (Some τ) (total ss xs r) b
  through_some σ [] xs τ r b = refl
  through_some σ (s ∷ ss) [] τ r b = refl
  through_some σ (s ∷ ss) (x ∷ xs) τ r b = ap (goes_on P l (drop s.at c) (take s.bound σ) x) (through_some σ ss xs τ r b)

  pub through_push : (σ : Binding) (ss : List Station) (xs : List Left) (s : Station) (x : Left) (o : Outcome (Option Binding)) → length xs ≡ length ss →
      through P l c σ (ss ++ s ∷ []) (xs ++ x ∷ []) o ≡ through P l c σ ss xs (goes_on P l (drop s.at c) (take s.bound σ) x o)
  through_push σ [] [] s x o h = refl
  through_push σ [] (y ∷ xs) s x o h = absurd (omega (arith, h))
  through_push σ (z ∷ ss) [] s x o h = absurd (omega (arith, h))
  through_push σ (z ∷ ss) (y ∷ xs) s x o h = ap (goes_on P l (drop z.at c) (take z.bound σ) y) (through_push σ ss xs s x o (omega (arith, h)))

  -- only what was bound before the last of them tells
  pub through_same : (low n : ℕ) (σ τ : Binding) (ss : List Station) (xs : List Left) (o : Outcome (Option Binding)) → AreNested low ss n → take n σ ≡ take n τ →
      through P l c σ ss xs o ≡ through P l c τ ss xs o
  through_same low n σ τ [] xs o h e = refl
  through_same low n σ τ (s ∷ ss) [] o h e = refl
  through_same low n σ τ (s ∷ ss) (x ∷ xs) o h e =
      ap₂ (λ u v. goes_on P l (drop s.at c) u x v) (take_less s.bound n σ τ (nested_low s.bound ss n h.1) e) (through_same s.bound n σ τ ss xs o h.1 e)

  -- a term is evaluated
  pub through_evaluated : (σ : Binding) (ss : List Station) (xs : List Left) (r : ℕ) (k : Tree → Run (Option Binding)) (o : Outcome Tree) →
      through P l c σ ss xs (counted_if r (try_on k o)) ≡ evaluated (λ v q b. through P l c σ ss xs (counted_if (r + q) (k v b))) o
  through_evaluated σ ss xs r k (done v q b) = ap (through P l c σ ss xs) (counted_twice r q (k v b))
  through_evaluated σ ss xs r k (ended e) = through_ended σ ss xs e

  -- ---- solutions

  -- a solution is tried, and then those behind it
  pub one_told : (p u : Tree) (rest : List Fragment) (σ : Binding) (n : ℕ) (xs : List Solution) (o : Outcome (Option Binding)) →
      counted_if n (or_go_on (first_of (tried P l None p rest σ) xs) o) ≡ goes_on P l (matches p u ∷ rest) σ (left_at n xs None) (counted_if 0 o)
  one_told p u rest σ n xs (done (Some τ) r b) = ap (λ m. done (Some τ) (n + m) b) (zero_more r)
    where
      zero_more : (r : ℕ) → r ≡ 0 + r
      zero_more r = omega arith
  one_told p u rest σ n [] (done None r b) = refl
  one_told p u rest σ n (x ∷ xs) (done None r b) = refl
  one_told p u rest σ n xs (ended e) = refl

tried_known : {A : Type 0} (o : Outcome (Option A)) (m : Run (Option A)) → or_go_on m (counted_if 0 o) ≡ or_go_on m o
tried_known (done (Some x) r b) m = ap (λ n. done (Some x) n b) (more r)
  where
    more : (r : ℕ) → 0 + r ≡ r
    more r = omega arith
tried_known (done None r b) m = refl
tried_known (ended e) m = refl

module _ (P : Program) (l : Level) (p : Tree) (c : List Fragment) (σ : Binding) where
  -- what is tried of each
  abbrev test : Option Binding → Solution → Run (Option Binding)
  test last x = and_try (have_sorts l.sorts (variables p) x.values) λ ok. where_true ok (solve_from P l last c (extend σ (variables p) x.values))

  test_has : (last : Option Binding) (x : Solution) (m : Run (Option Binding)) (b : ℕ) → AreKnownToHave l.sorts (variables p) x true → or_go_on m (test last x b) ≡ or_go_on m (tried P l last p c σ x b)
  test_has last x m b k =
      ap (λ o. or_go_on m (try_on (λ ok. where_true ok (solve_from P l last c (extend σ (variables p) x.values))) o)) (k b)
      ∙ tried_known (tried P l last p c σ x b) m

  test_lacks : (last : Option Binding) (x : Solution) (m : Run (Option Binding)) (b : ℕ) → AreKnownToHave l.sorts (variables p) x false → or_go_on m (test last x b) ≡ m b
  test_lacks last x m b k = ap (λ o. or_go_on m (try_on (λ ok. where_true ok (solve_from P l last c (extend σ (variables p) x.values))) o)) (k b)

  go_same : (o : Outcome (Option Binding)) (m n : Run (Option Binding)) → ((b : ℕ) → m b ≡ n b) → or_go_on m o ≡ or_go_on n o
  go_same (done (Some x) r b) m n h = refl
  go_same (done None r b) m n h = h b
  go_same (ended e) m n h = refl

  -- solutions without their sorts are passed over
  pub first_sorted : (ys zs : List Solution) → AreSorted l.sorts (variables p) ys zs → (b : ℕ) → first_of (test None) ys b ≡ first_of (tried P l None p c σ) zs b
  first_sorted _ _ no_more b = refl
  first_sorted _ _ (has x ys zs k h) b =
      test_has None x (first_of (test None) ys) b k ∙ go_same (tried P l None p c σ x b) (first_of (test None) ys) (first_of (tried P l None p c σ) zs) (first_sorted ys zs h)
  first_sorted _ _ (lacks x ys zs k h) b = test_lacks None x (first_of (test None) ys) b k ∙ first_sorted ys zs h b

  pub chosen_sorted : (ys zs : List Solution) → AreSorted l.sorts (variables p) ys zs → (b : ℕ) → first_of (test None) ys b ≡ chosen P l None p c σ zs b
  chosen_sorted ys [] h b = first_sorted ys [] h b
  chosen_sorted ys (z ∷ zs) h b = first_sorted ys (z ∷ zs) h b

  pub chosen_from : (last : Binding) (own : Solution → Bool) (ys zs : List Solution) → AreSortedFrom own l.sorts (variables p) ys zs → (b : ℕ) →
      own_and_after P l own (test (Some last)) (test None) ys b ≡ chosen P l (Some last) p c σ zs b
  chosen_from last own _ _ (before x ys zs k h) b =
      ap (λ w. choose w (or_else (test (Some last) x) (first_of (test None) ys)) (own_and_after P l own (test (Some last)) (test None) ys) b) k ∙ chosen_from last own ys zs h b
  chosen_from last own _ _ (here x ys zs k s h) b =
      ap (λ w. choose w (or_else (test (Some last) x) (first_of (test None) ys)) (own_and_after P l own (test (Some last)) (test None) ys) b) k
      ∙ (test_has (Some last) x (first_of (test None) ys) b s
      ∙ go_same (tried P l (Some last) p c σ x b) (first_of (test None) ys) (first_of (tried P l None p c σ) zs) (first_sorted ys zs h))
