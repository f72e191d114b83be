-- What a run still has to compute: computations over what a level gives, which is the value of a term and the sorts of a value.
use Rattle.std.specs.Prelude.{◌≡◌, ℕ, ◌+◌, List, [], ◌∷◌, ◌++◌, map, take, drop, length, Bool, true, false, Option, Some, None}
use Rattle.mau_terms.specs.Tree.{Tree}
use Rattle.mau_terms.specs.Subst.{Variable, variables, instance}
use Rattle.mau_terms.specs.View.{variable_of}
use Rattle.mau_terms.specs.declared.ids.VarId.{VarId}
use Rattle.mau_terms.specs.declared.ids.TermId.{TermId}
use Rattle.mau_store.specs.Node.{Node}
use Rattle.mau_store.specs.Trees.{tree_at}
use Rattle.mau_canon.specs.declared.fault.BuildFault.{BuildFault}
use Rattle.mau_canon.specs.declared.fault.BuildFault.TheVariants as Fault
use Rattle.mau_evaluation.specs.Run.{Outcome, done, ended, Run, too_deep, overflowed, gives, and_try, or_else, first_of, where_true, counted_if}
use Rattle.mau_evaluation.specs.Program.{Fragment, equals, matches, has_sort, reaches, Program}
use Rattle.mau_evaluation.specs.Listing.{Solution, same_tree, keep, solutions}
use Rattle.mau_evaluation.specs.Evaluation.{Binding, look_up, extend, agree, has_number, have_sorts, Level, solve, solve_after, own_and_after}
use Rattle.mau_api.specs.Programs.{fragment_of}
use Rattle.mau_api.specs.Answers.{binding_in}
use Rattle.mau_cond.specs.declared.stage.Station.{Station}
use Rattle.mau_cond.specs.declared.stage.Stage.{Stage}
use Rattle.mau_cond.specs.declared.stage.Stage.TheVariants.{Open, First, Both, Due, Failed}
use Rattle.mau_cond.specs.declared.stage.Ask.{Ask}
use Rattle.mau_cond.specs.declared.stage.Ask.TheVariants.{Evaluate, Match, Holds, Fails}
use Rattle.mau_signature.specs.Signature.{SignatureOf}
use Rattle.mau_sorts.specs.Table.{Table}
use Rattle.mau_cond.specs.Path.{Path, all_stations}
use Rattle.mau_cond.specs.Known.{IsLevelOf}

-- what a driver keeps of a matching fragment
pub record Left : Type 0 where
  -- how many applications were counted before it
  pub before : ℕ
  -- its solutions that were not told yet, in order
  pub solutions : List Solution
  -- where the first of them is the own one of a solution of the condition that was found earlier: that solution
  pub last : Option Binding

-- ---- solutions of a fragment p := u, by their sorts

-- it is known whether the values have the sorts of the variables
abbrev pub AreKnownToHave : (Tree → Run (List ℕ)) → List Variable → Solution → Bool → Type 0
AreKnownToHave f xs x ok = (b : ℕ) → have_sorts f xs x.values b ≡ done ok 0 b

-- of the first list the second has those whose values have the sorts of the variables
pub data AreSorted (f : Tree → Run (List ℕ)) (xs : List Variable) : List Solution → List Solution → Type 0 where
  no_more : AreSorted f xs [] []
  has : (x : Solution) (ys zs : List Solution) → AreKnownToHave f xs x true → AreSorted f xs ys zs → AreSorted f xs (x ∷ ys) (x ∷ zs)
  lacks : (x : Solution) (ys zs : List Solution) → AreKnownToHave f xs x false → AreSorted f xs ys zs → AreSorted f xs (x ∷ ys) zs

-- the same from the first one on that is `own`, which has the sorts
pub data AreSortedFrom (own : Solution → Bool) (f : Tree → Run (List ℕ)) (xs : List Variable) : List Solution → List Solution → Type 0 where
  before : (x : Solution) (ys zs : List Solution) → own x ≡ false → AreSortedFrom own f xs ys zs → AreSortedFrom own f xs (x ∷ ys) zs
  here : (x : Solution) (ys zs : List Solution) → own x ≡ true → AreKnownToHave f xs x true → AreSorted f xs ys zs → AreSortedFrom own f xs (x ∷ ys) (x ∷ zs)

-- ---- counts

-- all that was counted
abbrev pub total : List Station → List Left → ℕ → ℕ
total [] xs r = r
total (s ∷ ss) [] r = r
total (s ∷ ss) (x ∷ xs) r = x.before + total ss xs r

-- a term is evaluated, and then k goes on with its value and its count
abbrev pub evaluated : (Tree → ℕ → Run (Option Binding)) → Outcome Tree → Outcome (Option Binding)
evaluated k (done v q b) = k v q b
evaluated k (ended e) = ended e

module _ (P : Program) (l : Level) where
  -- the solutions of p in v that agree with σ and have their sorts; behind a solution of the condition, from its own one on
  abbrev pub AreTaken : Option Binding → Binding → Tree → Tree → List Solution → Type 0
  AreTaken None σ p v xs = AreSorted l.sorts (variables p) (keep (λ x. agree P.sign.theory σ (variables p) x.values) (solutions P.sign p v)) xs
  AreTaken (Some last) σ p v xs =
      AreSortedFrom (λ x. agree P.sign.theory last (variables p) x.values) l.sorts (variables p)
      (keep (λ x. agree P.sign.theory σ (variables p) x.values) (solutions P.sign p v)) xs

  -- ---- the first undecided fragment, and those behind it

  -- the first solution, or the first one behind the last one
  abbrev pub solve_from : Option Binding → List Fragment → Binding → Run (Option Binding)
  solve_from None c σ = solve P l c σ
  solve_from (Some last) c σ = solve_after P l last c σ

  -- both terms of the first fragment have values
  abbrev pub with_both : Option Binding → List Fragment → Binding → Tree → Tree → Run (Option Binding)
  with_both last (equals t u ∷ c) σ v w = where_true (same_tree v w) (solve_from last c σ)
  with_both last c σ v w = gives None

  -- p := u, where u has the value v
  abbrev pub matched : Option Binding → Tree → List Fragment → Binding → Tree → Run (Option Binding)
  matched None p c σ v =
      first_of (λ x. and_try (have_sorts l.sorts (variables p) x.values) λ ok. where_true ok (solve P l c (extend σ (variables p) x.values)))
      (keep (λ x. agree P.sign.theory σ (variables p) x.values) (solutions P.sign p v))
  matched (Some last) p c σ v =
      own_and_after P l (λ x. agree P.sign.theory last (variables p) x.values)
      (λ x. and_try (have_sorts l.sorts (variables p) x.values) λ ok. where_true ok (solve_after P l last c (extend σ (variables p) x.values)))
      (λ x. and_try (have_sorts l.sorts (variables p) x.values) λ ok. where_true ok (solve P l c (extend σ (variables p) x.values)))
      (keep (λ x. agree P.sign.theory σ (variables p) x.values) (solutions P.sign p v))

  -- the term of the first fragment that is evaluated first has the value v
  abbrev pub with_first : Option Binding → List Fragment → Binding → Tree → Run (Option Binding)
  with_first last [] σ v = gives None
  with_first last (equals t u ∷ c) σ v = and_try (l.eval (instance (look_up σ) u)) (with_both last (equals t u ∷ c) σ v)
  with_first last (has_sort t s ∷ c) σ v = and_try (l.sorts v) λ ss. where_true (has_number ss s) (solve_from last c σ)
  with_first last (matches p u ∷ c) σ v = matched last p c σ v
  with_first last (reaches t u ∷ c) σ v = gives None

  -- what the fragments give from the first undecided one on; nothing, where the path has to go back
  abbrev pub at_stage : Option Binding → List Fragment → Binding → (ℕ → Tree) → Stage → Run (Option Binding)
  at_stage last c σ tree Open = solve_from last c σ
  at_stage last c σ tree (First v) = with_first last c σ (tree v.0)
  at_stage last c σ tree (Both v w) = with_both last c σ (tree v.0) (tree w.0)
  at_stage last c σ tree (Due s) = gives None
  at_stage last c σ tree Failed = gives None

  -- the same, where the term that was asked has the value w
  abbrev pub at_value : Option Binding → List Fragment → Binding → (ℕ → Tree) → Stage → Tree → Run (Option Binding)
  at_value last c σ tree Open w = with_first last c σ w
  at_value last c σ tree (First v) w = with_both last c σ (tree v.0) w
  at_value last c σ tree k w = gives None

  -- ---- the matching fragments before it

  -- the fragments c behind p := u, for one of its solutions
  abbrev pub tried : Option Binding → Tree → List Fragment → Binding → Solution → Run (Option Binding)
  tried last p c σ x = solve_from last c (extend σ (variables p) x.values)

  -- the first solution of c for one of these
  abbrev pub chosen : Option Binding → Tree → List Fragment → Binding → List Solution → Run (Option Binding)
  chosen last p c σ [] = gives None
  chosen last p c σ (x ∷ xs) = or_else (tried last p c σ x) (first_of (tried None p c σ) xs)

  -- what the solutions give that are left, from the fragments c on
  abbrev pub left_gives : List Fragment → Binding → Left → Run (Option Binding)
  left_gives (matches p u ∷ c) σ x = chosen x.last p c σ x.solutions
  left_gives c σ x = gives None

  -- how it goes on with what the fragments behind it gave
  abbrev pub goes_on : List Fragment → Binding → Left → Outcome (Option Binding) → Outcome (Option Binding)
  goes_on c σ x (done (Some τ) r b) = done (Some τ) (x.before + r) b
  goes_on c σ x (done None r b) = counted_if x.before (left_gives c σ x b)
  goes_on c σ x (ended e) = ended e

  -- through these matching fragments of the condition c, of which the first one stands farthest to the left
  abbrev pub through : List Fragment → Binding → List Station → List Left → Outcome (Option Binding) → Outcome (Option Binding)
  through c σ [] xs o = o
  through c σ (s ∷ ss) [] o = o
  through c σ (s ∷ ss) (x ∷ xs) o = goes_on (drop s.at c) (take s.bound σ) x (through c σ ss xs o)

  module _ (nodes : List Node) where
    -- What a run still has to compute. `last` says which solutions it looks for from the first undecided fragment on; `lefts` are what is left at the
    -- matching fragments, and r is what was counted since the last of them
    abbrev pub whole : Path → Option Binding → List Left → ℕ → Run (Option Binding)
    whole p last lefts r = λ b.
        let c = map fragment_of p.cond in let σ = binding_in nodes p.bound in
        through c σ (all_stations p) lefts (counted_if r (at_stage last (drop p.at c) σ (tree_at nodes) p.stage b))

    -- the same, where the term that was asked has the value w
    abbrev pub whole_with : Path → Option Binding → List Left → ℕ → Tree → Run (Option Binding)
    whole_with p last lefts r w = λ b.
        let c = map fragment_of p.cond in let σ = binding_in nodes p.bound in
        through c σ (all_stations p) lefts (counted_if r (at_value last (drop p.at c) σ (tree_at nodes) p.stage w b))

    -- ---- what comes of an answer

    -- a solution was found; where one behind the last one is looked for, it is that one, and what is left goes on
    abbrev pub found : Path → Path → Option Binding → List Left → ℕ → Binding → Run (Option Binding)
    found old new None lefts r σ = λ b. done (Some σ) (total (all_stations old) lefts r) b
    found old new (Some last) lefts r σ = whole new None lefts r

    -- what comes of an answer, by the path before and the path after
    abbrev pub answered : Path → Path → Ask → Option Binding → List Left → ℕ → Run (Option Binding)
    answered old new (Evaluate t) last lefts r = λ b. evaluated (λ v q. whole_with new last lefts (r + q) v) (l.eval (tree_at nodes t.0) b)
    answered old new (Match i v) last lefts r = whole new None lefts r
    answered old new (Holds values) last lefts r = found old new last lefts r (binding_in nodes values.items)
    answered old new Fails last lefts r = gives None

-- ---- what is told

-- what is left at a matching fragment
abbrev pub left_at : ℕ → List Solution → Option Binding → Left
left_at r xs last = record { before = r; solutions = xs; last = last }

-- what is left at the matching fragments, once the value v was told of the first fragment of c; a matching one comes to the n that there are
abbrev pub LeftAfter : Program → Level → Option Binding → List Fragment → Binding → Tree → ℕ → ℕ → List Left → List Left → Type 0
LeftAfter P l last (matches p u ∷ c) σ v n r xs ys =
    (zs : List Solution) × AreTaken P l last σ p v zs × (length xs ≡ n) × (ys ≡ xs ++ left_at r zs last ∷ [])
LeftAfter P l last c σ v n r xs ys = ys ≡ xs

-- the fragments from the one on whose next solution is due
abbrev pub from_due : Path → List Fragment
from_due p = elim p.stage [ Due s ↦ drop s.at (map fragment_of p.cond) | _ ↦ [] ]

-- these are the variables of the first fragment's pattern with their values in x
abbrev pub IsTold : List Node → List Fragment → List (VarId × TermId) → Solution → Type 0
IsTold nodes (matches p u ∷ c) told x = (map (λ b. variable_of b.0) told ≡ variables p) × (map (λ b. tree_at nodes b.1.0) told ≡ x.values)
IsTold nodes c told x = ⊥

-- a term has no normal form within the limits
abbrev pub IsEndBy : {A : Type 0} → Outcome A → BuildFault → Type 0
IsEndBy o Fault.TooDeep = o ≡ ended too_deep
IsEndBy o Fault.Overflow = o ≡ ended overflowed
IsEndBy o Fault.NoMemory = Unit {0}

-- ---- over each level

-- what the run had to compute comes of its answer
abbrev pub Goes : SignatureOf → List Node → Table → Path → Path → Ask → Type 0
Goes s nodes table old new answer =
    (P : Program) (l : Level) → IsLevelOf s nodes table l → (last : Option Binding) (lefts : List Left) (r b : ℕ) →
    whole P l nodes old last lefts r b ≡ answered P l nodes old new answer last lefts r b

-- it ends, since the term that would be evaluated next has no normal form within the limits
abbrev pub Ends : SignatureOf → List Node → Table → Path → BuildFault → Type 0
Ends s nodes table old fault =
    (P : Program) (l : Level) → IsLevelOf s nodes table l → (last : Option Binding) (lefts : List Left) (r b : ℕ) →
    IsEndBy (whole P l nodes old last lefts r b) fault

-- the paths have the same to compute
abbrev pub SameWhole : List Node → Path → Path → Type 0
SameWhole nodes old new =
    (P : Program) (l : Level) (last : Option Binding) (lefts : List Left) (r b : ℕ) →
    whole P l nodes old last lefts r b ≡ whole P l nodes new None lefts r b

-- what it has to compute with the value of the term that was asked, it has to compute once it was told the value
abbrev pub TakesValue : List Node → Path → Path → Tree → Type 0
TakesValue nodes old new v =
    (P : Program) (l : Level) (last : Option Binding) (lefts more : List Left) (r b : ℕ) →
    LeftAfter P l last (drop old.at (map fragment_of old.cond)) (binding_in nodes old.bound) v (length old.stations) r lefts more →
    whole_with P l nodes old last lefts r v b ≡ whole P l nodes new last more r b

-- the same for the next solution of the fragment that was asked: it is the first of what is left there
abbrev pub TakesSolution : List Node → Path → Path → List (VarId × TermId) → Type 0
TakesSolution nodes old new told =
    (P : Program) (l : Level) (x : Solution) (xs : List Solution) (any last : Option Binding) (lefts : List Left) (before r b : ℕ) →
    IsTold nodes (from_due old) told x → length lefts ≡ length old.stations →
    whole P l nodes old any (lefts ++ left_at before (x ∷ xs) last ∷ []) r b ≡ whole P l nodes new last (lefts ++ left_at before xs None ∷ []) 0 b

-- and where nothing is left
abbrev pub TakesNone : List Node → Path → Path → Type 0
TakesNone nodes old new =
    (P : Program) (l : Level) (any last : Option Binding) (lefts : List Left) (before r b : ℕ) → length lefts ≡ length old.stations →
    whole P l nodes old any (lefts ++ left_at before [] last ∷ []) r b ≡ whole P l nodes new None lefts r b
