-- What a strategy run asks of an evaluator, and what it cannot go on without.
use Rattle.std.specs.Prelude.{◌≡◌, ◌≤◌, ℕ, suc, List, [], ◌∷◌, map, Bool, true, false, ◌==◌, ◌&&◌, if◌then◌else◌}
use Rattle.mau_terms.specs.Tree.{Tree}
use Rattle.mau_terms.specs.Subst.{same_variable}
use Rattle.mau_evaluation.specs.Run.{End, stopped, too_deep, overflowed, ended, Run}
use Rattle.mau_evaluation.specs.Program.{Fragment, equals, matches, has_sort, reaches, Program}
use Rattle.mau_evaluation.specs.Listing.{same_tree}
use Rattle.mau_evaluation.specs.Evaluation.{Binding}
use Rattle.mau_evaluation.specs.Engine.{Engine, Engines}
use Rattle.mau_evaluation.specs.Strategy.{StratDef}
use Rattle.mau_evaluation.specs.Configs.{Todo, Frame, Config, on}
use Rattle.mau_evaluation.specs.Answers.{Answers, ends_by, before}
use Rattle.mau_evaluation.specs.OrderedLists.{results, bodies_for}
use Rattle.mau_evaluation.specs.Reach.{IsAsked}
use Rattle.mau_evaluation.specs.Entries.{IsFront}
use Rattle.mau_evaluation.specs.Eventually.{Eventually, Begins, NextAll}

-- each asked with the whole budget: the value of a term, or its sorts, which take nothing from it; the first solution of a condition under what is bound, or the
-- next one behind a solution
pub data Question : Type 0 where
  evaluates : Tree → Question
  takes_sorts : Tree → Question
  asks : List Fragment → Binding → Question
  asks_after : Binding → List Fragment → Binding → Question

abbrev pub same_list : {A : Type 0} → (A → A → Bool) → List A → List A → Bool
same_list same [] [] = true
same_list same [] (y ∷ ys) = false
same_list same (x ∷ xs) [] = false
same_list same (x ∷ xs) (y ∷ ys) = same x y && same_list same xs ys

abbrev pub same_fragment : Fragment → Fragment → Bool
same_fragment (equals t u) (equals v w) = same_tree t v && same_tree u w
same_fragment (matches t u) (matches v w) = same_tree t v && same_tree u w
same_fragment (has_sort t s) (has_sort v r) = same_tree t v && (s == r)
same_fragment (reaches t u) (reaches v w) = same_tree t v && same_tree u w
same_fragment _ _ = false

abbrev pub same_binding : Binding → Binding → Bool
same_binding σ τ = same_list (λ x y. same_variable x.0 y.0 && same_tree x.1 y.1) σ τ

abbrev pub same_condition : List Fragment → Binding → List Fragment → Binding → Bool
same_condition c σ d τ = same_list same_fragment c d && same_binding σ τ

-- m, but from this budget, and where the test holds, it ends by e
abbrev pub but_ends : {A : Type 0} → Bool → ℕ → End → Run A → Run A
but_ends t n e m = λ b. if t && (b == n) then ended e else m b

-- L, but this question ends by e
abbrev pub without : Engine → Question → End → Engine
without L (evaluates t) e = record L { level = record { eval = λ u. but_ends (same_tree u t) L.budget e (L.level.eval u); sorts = L.level.sorts } }
without L (takes_sorts t) e = record L { level = record { eval = L.level.eval; sorts = λ u. but_ends (same_tree u t) L.budget e (L.level.sorts u) } }
without L (asks c σ) e = record L { ask = λ d τ. but_ends (same_condition d τ c σ) L.budget e (L.ask d τ) }
without L (asks_after last c σ) e = record L { ask_after = λ m d τ. but_ends (same_binding m last && same_condition d τ c σ) L.budget e (L.ask_after m d τ) }

-- with the engine L the question ends by e
abbrev pub EndsBy : Engine → Question → End → Type 0
EndsBy L (evaluates t) e = L.level.eval t L.budget ≡ ended e
EndsBy L (takes_sorts t) e = L.level.sorts t L.budget ≡ ended e
EndsBy L (asks c σ) e = L.ask c σ L.budget ≡ ended e
EndsBy L (asks_after last c σ) e = L.ask_after last c σ L.budget ≡ ended e

-- p comes to the end e behind some of the first answers us
abbrev pub EndsWithin : {A : Type 0} → End → List A → Answers A → Type 0
EndsWithin {A = A} e us p = (vs : List A) × IsFront vs us × (p ≡ before vs (ends_by e))

module _ (P : Program) (E : Engines) (defs : List StratDef) where
  -- d on t has no results behind us without the question: whatever end the question comes to, the results come to just that end within us
  abbrev pub NeedsLeaf : Question → Todo → Tree → List Tree → Type 0
  NeedsLeaf q d t us = (e : End) → Eventually E (λ L. EndsWithin e us (results P (without L q e) d t))

  -- and a call d, whose bodies have k calls left, has no bodies behind bs
  abbrev pub NeedsBody : Question → ℕ → Todo → List Todo → Type 0
  NeedsBody q k d bs = (e : End) → Eventually E (λ L. EndsWithin e bs (bodies_for P (without L q e) defs k d.values d.form))

  -- A run that has reached `seen` cannot go on without the question: it is at an entry whose first results, or bodies, are listed, and which has no further one
  -- without it.
  pub data IsDue (seen : List Config) (q : Question) : Type 0 where
    at_leaf : (j : ℕ) (t : Tree) (d : Todo) (ds : List Todo) (xs : List Frame) (us : List Tree) →
        IsAsked (Begins P E defs) (NextAll P E defs) seen j (on t (d ∷ ds) xs) (map (λ u. on u ds xs) us) → NeedsLeaf q d t us → IsDue seen q
    at_call : (j : ℕ) (t : Tree) (d : Todo) (k : ℕ) (ds : List Todo) (xs : List Frame) (bs : List Todo) → d.calls ≡ suc k →
        IsAsked (Begins P E defs) (NextAll P E defs) seen j (on t (d ∷ ds) xs) (map (λ b. on t (b ∷ ds) xs) bs) → NeedsBody q k d bs → IsDue seen q

  -- The limits with which an end may come, k being the levels and b the budget of the item: of Stopped just this budget, of Too deep just these levels, and of
  -- Overflow any from both on.
  abbrev pub EndsUnder : ℕ → ℕ → Question → End → Type 0
  EndsUnder k b q stopped = (k' : ℕ) × (k ≤ k') × EndsBy (E k' b b) q stopped
  EndsUnder k b q too_deep = (b' : ℕ) × (b ≤ b') × EndsBy (E k b' b') q too_deep
  EndsUnder k b q overflowed = (k' : ℕ) × (b' : ℕ) × (k ≤ k') × (b ≤ b') × EndsBy (E k' b' b') q overflowed
