-- The places at which rules apply, what an application of a rule gives, and where one of its evaluations or conditions ends.
use Rattle.std.specs.Prelude.{◌≡◌, ℕ, suc, List, [], ◌∷◌, ◌++◌, Bool, true, false, if◌then◌else◌, ◌⊎◌}
use Rattle.mau_terms.specs.Tree.{Tree, variable, numeral, apply, Trees, no_trees, tree, node, list_of}
use Rattle.mau_terms.specs.Subst.{Variable, variables, instance}
use Rattle.mau_terms.specs.Finite.{IsIn}
use Rattle.mau_evaluation.specs.Run.{End, done, ended}
use Rattle.mau_evaluation.specs.Program.{Fragment, equals, matches, has_sort, reaches, Rule, Program}
use Rattle.mau_evaluation.specs.Listing.{Solution, solutions, solutions_within}
use Rattle.mau_evaluation.specs.Evaluation.{Binding, look_up, extend, agree, has_number, have_sorts, in_context}
use Rattle.mau_evaluation.specs.Engine.{Engine}

-- ---- places

-- a subterm, and what stands around it: the whole term, once something is put in its place
pub record Place : Type 0 where
  pub term : Tree
  pub around : Tree → Tree

-- the places of a term in pre-order, not below the arguments for which z says so: a term comes before its arguments, these from left to right
abbrev mutual
  pub places : (ℕ → ℕ → Bool) → (Tree → Tree) → Tree → List Place
  places z around (variable i s) = record { term = variable i s; around = around } ∷ []
  places z around (numeral n) = record { term = numeral n; around = around } ∷ []
  places z around (apply f ts) = record { term = apply f ts; around = around } ∷ places_in z around f [] 0 ts

  -- those below the arguments of f from the n-th on, `before` being the ones to the left
  pub places_in : (ℕ → ℕ → Bool) → (Tree → Tree) → ℕ → List Tree → ℕ → Trees → List Place
  places_in z around f before n no_trees = []
  places_in z around f before n (tree t ts) =
      (if z f n then [] else places z (λ v. around (node f (before ++ v ∷ list_of ts))) t) ++ places_in z around f (before ++ t ∷ []) (suc n) ts

-- outside frozen arguments
abbrev pub places_of : Program → Tree → List Place
places_of P t = places P.frozen (λ v. v) t

-- the root alone
abbrev pub root_of : Tree → List Place
root_of t = record { term = t; around = λ v. v } ∷ []

-- ---- evaluations and conditions with one engine

module _ (P : Program) (L : Engine) where
  -- v is the value of t
  abbrev pub Evaluates : Tree → Tree → Type 0
  Evaluates t v = (r : ℕ) × (b : ℕ) × (L.level.eval t L.budget ≡ done v r b)

  -- the evaluation of t ends by Stopped, Too deep or Overflow
  abbrev pub EvaluationEnds : Tree → Type 0
  EvaluationEnds t = (e : End) × (L.level.eval t L.budget ≡ ended e)

  -- each value has the sort of its variable
  abbrev pub HaveSorts : List Variable → List Tree → Type 0
  HaveSorts xs vs = (r : ℕ) × (b : ℕ) × (have_sorts L.level.sorts xs vs L.budget ≡ done true r b)

  -- the same inside a condition
  abbrev pub HaveSortsBelow : List Variable → List Tree → Type 0
  HaveSortsBelow xs vs = (r : ℕ) × (b : ℕ) × (have_sorts L.below.sorts xs vs L.budget ≡ done true r b)

  -- The condition is shown under σ, with σ' bound at its end: some choice of a solution at each matching fragment makes every fragment true. `t = u`: both
  -- instances have one value. `t : s`: the instance's value has the sort s. `p := u`: a solution of p in the instance's value agrees with what is bound and has
  -- values of their variables' sorts. A rewriting fragment is never shown.
  abbrev pub Shows : List Fragment → Binding → Binding → Type 0
  Shows [] σ σ' = σ' ≡ σ
  Shows (equals t u ∷ c) σ σ' =
      (v : Tree) × (r : ℕ) × (b : ℕ) × (r' : ℕ) × (b' : ℕ) × (L.below.eval (instance (look_up σ) t) L.budget ≡ done v r b) ×
      (L.below.eval (instance (look_up σ) u) L.budget ≡ done v r' b') × Shows c σ σ'
  Shows (has_sort t s ∷ c) σ σ' =
      (v : Tree) × (ss : List ℕ) × (r : ℕ) × (b : ℕ) × (r' : ℕ) × (b' : ℕ) × (L.below.eval (instance (look_up σ) t) L.budget ≡ done v r b) ×
      (L.below.sorts v L.budget ≡ done ss r' b') × (has_number ss s ≡ true) × Shows c σ σ'
  Shows (matches p u ∷ c) σ σ' =
      (v : Tree) × (x : Solution) × (r : ℕ) × (b : ℕ) × (L.below.eval (instance (look_up σ) u) L.budget ≡ done v r b) × IsIn x (solutions P.sign p v) ×
      (agree P.sign.theory σ (variables p) x.values ≡ true) × HaveSortsBelow (variables p) x.values × Shows c (extend σ (variables p) x.values) σ'
  Shows (reaches t u ∷ c) σ σ' = ⊥

  -- asked for its first solution, or for the next one behind a solution, the condition ends by Stopped, Too deep or Overflow
  abbrev pub AskingEnds : List Fragment → Binding → Type 0
  AskingEnds c σ =
      ((e : End) × (L.ask c σ L.budget ≡ ended e)) ⊎
      ((last : Binding) × (e : End) × Shows c σ last × (L.ask_after last c σ L.budget ≡ ended e))

  -- ---- applications of a rule

  -- a solution of the rule's left side at a place, with extension, that agrees with what is bound and has values of their variables' sorts
  pub record Applies (q : Rule) (σ : Binding) (s : Place) (x : Solution) : Type 0 where
    pub listed : IsIn x (solutions_within P.sign q.left s.term)
    pub agrees : agree P.sign.theory σ (variables q.left) x.values ≡ true
    pub sorts : HaveSorts (variables q.left) x.values

  abbrev pub bound_by : Rule → Binding → Solution → Binding
  bound_by q σ x = extend σ (variables q.left) x.values

  -- the whole term, with the instance of the right side in the place of the matched part
  abbrev pub rewritten : Rule → Place → Solution → Binding → Tree
  rewritten q s x σ = s.around (in_context P.sign.theory s.term x.left x.right (instance (look_up σ) q.right))

  -- u is the value of the whole term with an instance of q replaced at s, where the condition is shown
  pub record Rewrites (q : Rule) (σ : Binding) (s : Place) (u : Tree) : Type 0 where
    pub solution : Solution
    pub result : Binding
    pub applies : Applies q σ s solution
    pub shown : Shows q.cond (bound_by q σ solution) result
    pub evaluates : Evaluates (rewritten q s solution result) u

  -- an evaluation, or an asking of the condition, that q calls for at s ends
  abbrev pub RewritingEnds : Rule → Binding → Place → Type 0
  RewritingEnds q σ s =
      (x : Solution) × Applies q σ s x ×
      (AskingEnds q.cond (bound_by q σ x) ⊎ ((σ' : Binding) × Shows q.cond (bound_by q σ x) σ' × EvaluationEnds (rewritten q s x σ')))

-- the condition has a rewriting fragment
abbrev pub has_reach : List Fragment → Bool
has_reach [] = false
has_reach (reaches t u ∷ c) = true
has_reach (equals t u ∷ c) = has_reach c
has_reach (has_sort t s ∷ c) = has_reach c
has_reach (matches p u ∷ c) = has_reach c
