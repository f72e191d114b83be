-- Evaluation, conditions and sorts. Values are normal forms. A level gives evaluations and sorts to the level above it: the terms of a condition and
-- the arguments of a term are evaluated one level deeper. (Reduction strategies of arguments: S. Eker, "Term rewriting with operator evaluation
-- strategies", WRLA 1998; equations, memberships and their conditions: M. Clavel and others, "All about Maude", LNCS 4350, 2007.)
use Rattle.std.specs.Prelude.{ℕ, zero, suc, ◌+◌, List, [], ◌∷◌, ◌++◌, length, Bool, true, false, ◌==◌, ◌&&◌, ◌||◌, not, if◌then◌else◌, Option, Some, None, nat_lt, is_some}
use Rattle.mau_terms.specs.Tree.{Tree, variable, numeral, apply, Trees, no_trees, tree, node, list_of}
use Rattle.mau_terms.specs.Norm.{build, norm, all_pieces, arrange, holds_overflow}
use Rattle.mau_terms.specs.Depth.{depth}
use Rattle.mau_terms.specs.Subst.{Variable, same_variable, variables, instance}
use Rattle.mau_terms.specs.declared.theory.Theory.{Theory}
use Rattle.mau_evaluation.specs.Run.{stopped, too_deep, overflowed, Run, gives, ends, and_then, and_try, spending, or_else, apart, first_of, each_in_turn, choose, where_true}
use Rattle.mau_evaluation.specs.Program.{Fragment, equals, matches, has_sort, reaches, Equation, Membership, Answer, no_value, value, too_large, BuiltIn, on_numerals, choice, equality, Program}
use Rattle.mau_evaluation.specs.Listing.{same_tree, keep, Solution, solutions, solutions_within}

-- ---- substitutions

-- variables with their values
abbrev pub Binding : Type 0
Binding = List (Variable × Tree)

-- the value of a variable; one without a value stands for itself
abbrev pub look_up : Binding → Variable → Tree
look_up [] x = variable x.0 x.1
look_up (e ∷ es) x = if same_variable e.0 x then e.1 else look_up es x

abbrev pub binds : Binding → Variable → Bool
binds [] x = false
binds (e ∷ es) x = same_variable e.0 x || binds es x

-- σ and the values of those of the variables that it doesn't bind
abbrev pub extend : Binding → List Variable → List Tree → Binding
extend σ [] vs = σ
extend σ (x ∷ xs) [] = σ
extend σ (x ∷ xs) (v ∷ vs) = extend (if binds σ x then σ else σ ++ (x, v) ∷ []) xs vs

-- the values of the variables that σ binds are equal to those in σ
abbrev pub agree : (ℕ → Theory) → Binding → List Variable → List Tree → Bool
agree th σ [] vs = true
agree th σ (x ∷ xs) [] = false
agree th σ (x ∷ xs) (v ∷ vs) = (not (binds σ x) || same_tree (norm th (look_up σ x)) v) && agree th σ xs vs

abbrev pub has_number : List ℕ → ℕ → Bool
has_number [] n = false
has_number (m ∷ ms) n = (m == n) || has_number ms n

-- ---- levels

-- what a level gives to the one above it: the value of a term, and the sorts of a normal form
pub record Level : Type 0 where
  pub eval : Tree → Run Tree
  pub sorts : Tree → Run (List ℕ)

-- each value has its variable's sort, by what f gives as its sorts
abbrev pub have_sorts : (Tree → Run (List ℕ)) → List Variable → List Tree → Run Bool
have_sorts f [] vs = gives true
have_sorts f (x ∷ xs) [] = gives false
have_sorts f (x ∷ xs) (v ∷ vs) = and_then (f v) λ ss. choose (has_number ss x.1) (have_sorts f xs vs) (gives false)

-- ---- conditions, fragment by fragment: the bindings of the first solution for which all later fragments hold, or none

module _ (P : Program) (l : Level) where
  abbrev pub th : ℕ → Theory
  th = P.sign.theory

  abbrev pub solve : List Fragment → Binding → Run (Option Binding)
  solve [] σ = gives (Some σ)
  solve (equals t u ∷ c) σ =
      and_try (l.eval (instance (look_up σ) t)) λ v. and_try (l.eval (instance (look_up σ) u)) λ w. where_true (same_tree v w) (solve c σ)
  solve (has_sort t s ∷ c) σ =
      and_try (l.eval (instance (look_up σ) t)) λ v. and_try (l.sorts v) λ ss. where_true (has_number ss s) (solve c σ)
  solve (matches p u ∷ c) σ =
      and_try (l.eval (instance (look_up σ) u)) λ v.
      first_of (λ x. and_try (have_sorts l.sorts (variables p) x.values) λ ok. where_true ok (solve c (extend σ (variables p) x.values)))
      (keep (λ x. agree th σ (variables p) x.values) (solutions P.sign p v))
  solve (reaches t u ∷ c) σ = gives None

  -- the first value that f gives on the first element that is `own`, or else g on those behind it; what stands before it is passed over
  abbrev pub own_and_after : {A B : Type 0} → (A → Bool) → (A → Run (Option B)) → (A → Run (Option B)) → List A → Run (Option B)
  own_and_after own f g [] = gives None
  own_and_after own f g (x ∷ xs) = choose (own x) (or_else (f x) (first_of g xs)) (own_and_after own f g xs)

  -- the first solution behind `last`, which is a solution of this condition
  abbrev pub solve_after : Binding → List Fragment → Binding → Run (Option Binding)
  solve_after last [] σ = gives None
  solve_after last (equals t u ∷ c) σ =
      and_try (l.eval (instance (look_up σ) t)) λ v. and_try (l.eval (instance (look_up σ) u)) λ w. where_true (same_tree v w) (solve_after last c σ)
  solve_after last (has_sort t s ∷ c) σ =
      and_try (l.eval (instance (look_up σ) t)) λ v. and_try (l.sorts v) λ ss. where_true (has_number ss s) (solve_after last c σ)
  solve_after last (matches p u ∷ c) σ =
      and_try (l.eval (instance (look_up σ) u)) λ v.
      own_and_after (λ x. agree th last (variables p) x.values)
      (λ x. and_try (have_sorts l.sorts (variables p) x.values) λ ok. where_true ok (solve_after last c (extend σ (variables p) x.values)))
      (λ x. and_try (have_sorts l.sorts (variables p) x.values) λ ok. where_true ok (solve c (extend σ (variables p) x.values)))
      (keep (λ x. agree th σ (variables p) x.values) (solutions P.sign p v))
  solve_after last (reaches t u ∷ c) σ = gives None

-- ---- sorts, by declarations and memberships; `HasSort` says the same as finite derivations

-- how many variables, numerals and operators a tree has
abbrev mutual
  pub size : Tree → ℕ
  size (variable i s) = 1
  size (numeral n) = 1
  size (apply f ts) = suc (sizes ts)

  pub sizes : Trees → ℕ
  sizes no_trees = 0
  sizes (tree t ts) = size t + sizes ts

-- one of them is true
abbrev pub any : List Bool → Bool
any [] = false
any (b ∷ bs) = b || any bs

abbrev pub joined : List (List ℕ) → List ℕ
joined [] = []
joined (xs ∷ xss) = xs ++ joined xss

-- B is the budget of each condition of a membership, and `ask` solves one
module _ (P : Program) (B : ℕ) (ask : List Fragment → Binding → Run (Option Binding)) where
  -- the values of a solution of m's head have their sorts, and the condition holds for them
  abbrev pub holds_for : (Tree → Run (List ℕ)) → Membership → Solution → Run Bool
  holds_for f m x =
      and_then (and_try (have_sorts f (variables m.left) x.values) λ ok. where_true ok (apart B (ask m.cond (extend [] (variables m.left) x.values))))
      λ o. gives (is_some o)

  -- the sorts that m gives to t. All solutions of the head are tried
  abbrev pub by_membership : (Tree → Run (List ℕ)) → Tree → Membership → Run (List ℕ)
  by_membership f t m =
      choose m.exec
      (and_then (each_in_turn (holds_for f m) (solutions P.sign m.left t)) λ bs. gives (if any bs then P.above m.sort else []))
      (gives [])

  -- the sorts of a normal form, by at most n terms, each smaller than the one before; n = size t is enough
  abbrev pub sorts_in : ℕ → Tree → Run (List ℕ)
  sorts_in zero t = gives []
  sorts_in (suc n) (variable i s) = gives (P.above s)
  sorts_in (suc n) (numeral m) = gives (P.numeral_sorts m)
  sorts_in (suc n) (apply f ts) =
      and_then (each_in_turn (sorts_in n) (list_of ts)) λ args.
      and_then (each_in_turn (by_membership (sorts_in n) (apply f ts)) P.memberships) λ more. gives (P.declared f args ++ joined more)

  -- the sorts of a normal form
  abbrev pub sorts_of : Tree → Run (List ℕ)
  sorts_of t = sorts_in (size t) t

-- ---- evaluation

-- the element with the number n, from 0
abbrev pub at : List Tree → ℕ → Option Tree
at [] n = None
at (t ∷ ts) zero = Some t
at (t ∷ ts) (suc n) = at ts n

-- v in the place of that element
abbrev pub put : List Tree → ℕ → Tree → List Tree
put [] n v = []
put (t ∷ ts) zero v = v ∷ ts
put (t ∷ ts) (suc n) v = t ∷ put ts n v

-- n, n + 1, .. , one for each element
abbrev pub count_up : ℕ → List Tree → List ℕ
count_up n [] = []
count_up n (t ∷ ts) = n ∷ count_up (suc n) ts

-- t, where it is not too deep and, else, holds no overflow
abbrev pub admitted : Bool → Bool → Tree → Run Tree
admitted true o t = ends too_deep
admitted false true t = ends overflowed
admitted false false t = gives t

-- a term may be that deep
abbrev pub depth_limit : ℕ
depth_limit = 1000

-- a normal form, where it is within the limits
abbrev pub within_limits : (ℕ → Theory) → Tree → Run Tree
within_limits th u = admitted (nat_lt depth_limit (depth u)) (holds_overflow th u) u

-- the normal form of a term, where it is within the limits
abbrev pub admit : (ℕ → Theory) → Tree → Run Tree
admit th t = within_limits th (norm th t)

-- each of these numbers is among those
abbrev pub names_all : List ℕ → List ℕ → Bool
names_all [] order = true
names_all (i ∷ is) order = has_number order i && names_all is order

abbrev pub is_none : List ℕ → Bool
is_none [] = true
is_none (i ∷ is) = false

-- t, which is built by f over the values ts, has changed its top: the list of an associative f has fewer than two elements left; or an identity was
-- dropped or a successor folded, so that t isn't f over these arguments; or arguments have changed places of which the strategy names some and not all
abbrev pub top_changed_by : Bool → Theory → List ℕ → ℕ → List Tree → Tree → Bool
top_changed_by true h order f ts t = nat_lt (length (all_pieces true h.id f ts)) 2
top_changed_by false h order f ts t =
    not (same_tree t (node f (arrange h.comm ts))) || (not (is_none order) && (not (names_all (count_up 0 ts) order) && not (same_tree t (node f ts))))

abbrev pub top_changed : Theory → List ℕ → ℕ → List Tree → Tree → Bool
top_changed h order f ts t = top_changed_by h.assoc h order f ts t

-- the value in the place of the first two of a list
abbrev pub before_rest : Theory → ℕ → List Tree → Answer → Answer
before_rest h f ts (value v) = value (build h f (v ∷ ts))
before_rest h f ts no_value = no_value
before_rest h f ts too_large = too_large

-- what an operator answers for its two arguments, or for the first two of the list of a commutative one
abbrev pub over_rest : Theory → ℕ → List Tree → Answer → Answer
over_rest h f [] a = a
over_rest h f (t ∷ ts) a = if h.comm then before_rest h f (t ∷ ts) a else no_value

-- the answer of a built-in for the operator f over these arguments
abbrev pub native_on : BuiltIn → Theory → ℕ → List Tree → Answer
native_on (on_numerals op) h f (numeral m ∷ numeral n ∷ ts) = over_rest h f ts (op m n)
native_on (on_numerals op) h f ts = no_value
native_on (choice a b) h f (c ∷ t ∷ u ∷ []) = if same_tree c a then value t else if same_tree c b then value u else no_value
native_on (choice a b) h f ts = no_value
native_on (equality a b) h f (t ∷ u ∷ []) = value (if same_tree t u then a else b)
native_on (equality a b) h f ts = no_value

-- the same, if there is one
abbrev pub native_by : Option BuiltIn → Theory → ℕ → List Tree → Answer
native_by None h f ts = no_value
native_by (Some n) h f ts = native_on n h f ts

-- what the built-in at the top of a normal form answers
abbrev pub native : Program → Tree → Answer
native P (apply f ts) = native_by (P.built_in f) (P.sign.theory f) f (list_of ts)
native P t = no_value

-- t with u in the place of the part that was matched between two contexts
abbrev pub in_context : (ℕ → Theory) → Tree → List Tree → List Tree → Tree → Tree
in_context th t [] [] u = u
in_context th (apply f ts) left right u = build (th f) f (left ++ norm th u ∷ right)
in_context th t left right u = u

-- the variables of p with their values in a solution
abbrev pub binding_of : Tree → Solution → Binding
binding_of p x = extend [] (variables p) x.values

-- the numbers of the arguments that are evaluated, in order: those that the strategy names, and of an associative operator all or none
abbrev pub order_by : Bool → List ℕ → List Tree → List ℕ
order_by true [] ts = []
order_by true (i ∷ is) ts = count_up 0 ts
order_by false is ts = is

abbrev pub order_of : Program → ℕ → List Tree → List ℕ
order_of P f ts = order_by (P.sign.theory f).assoc (P.strat f) ts

-- what an equation makes of t, where its condition gave a binding
abbrev pub replaced : (ℕ → Theory) → Equation → Tree → Solution → Option Binding → Option Tree
replaced th e t x (Some σ) = Some (in_context th t x.left x.right (instance (look_up σ) e.right))
replaced th e t x None = None

-- an evaluation, where l is the level below, and `sorts` gives the sorts on this level
module _ (P : Program) (l : Level) (sorts : Tree → Run (List ℕ)) where
  -- what e makes of t by a solution x, where the values have their sorts and the condition holds
  abbrev pub apply_for : Equation → Tree → Solution → Run (Option Tree)
  apply_for e t x =
      and_try (have_sorts sorts (variables e.left) x.values) λ ok.
      where_true ok (and_try (solve P l e.cond (binding_of e.left x)) λ o.
      gives (replaced P.sign.theory e t x o))

  -- what e makes of t by its first solution for which that is so. Only an executable equation is tried, and one with owise only where o holds
  abbrev pub try_equation : Tree → Bool → Equation → Run (Option Tree)
  try_equation t o e =
      where_true (e.exec && (if o then e.owise else not e.owise)) (first_of (apply_for e t) (solutions_within P.sign e.left t))

  -- the first equation in module order that makes something of t: those with owise only where no other does
  abbrev pub by_equations : Tree → Run (Option Tree)
  by_equations t = or_else (first_of (try_equation t false) P.equations) (first_of (try_equation t true) P.equations)

  -- the built-in's answer, or else m
  abbrev pub by_answer : Answer → Run (Option Tree) → Run (Option Tree)
  by_answer no_value m = m
  by_answer (value v) m = gives (Some v)
  by_answer too_large m = ends overflowed

  -- the term that an application makes of the normal form t at its top, or none: by a built-in, or else by equations
  abbrev pub applied : Tree → Run (Option Tree)
  applied t = by_answer (native P t) (by_equations t)

  -- the sorts of t, once those of the identities are known
  abbrev pub settle : Tree → Run (List ℕ)
  settle t = and_then (each_in_turn sorts P.units) λ us. sorts t

  -- the list ts with the value of its element t, which has the number i
  abbrev pub put_value : (Tree → Run Tree) → List Tree → ℕ → Option Tree → Run (List Tree)
  put_value f ts i None = gives ts
  put_value f ts i (Some t) = and_then (f t) λ v. gives (put ts i v)

  -- the list ts with the values of the elements with these numbers, one after the other
  abbrev pub in_places : List ℕ → List Tree → Run (List Tree)
  in_places [] ts = gives ts
  in_places (i ∷ is) ts = and_then (put_value l.eval ts i (at ts i)) λ us. in_places is us

  -- t is the value where no application was found; else one is spent, and `next` goes on
  abbrev pub go_from : (Tree → Run Tree) → Tree → Option Tree → Run Tree
  go_from next t None = gives t
  go_from next t (Some u) = spending (next u)

  -- a term whose arguments are values: its sorts are taken, and then an application at its top is looked for
  abbrev pub at_top : (Tree → Run Tree) → Tree → Run Tree
  at_top next t = and_then (settle t) λ ss. and_then (applied t) λ o. go_from next t o

  -- a normal form: its arguments are evaluated and the term is rebuilt over the values; where the top has changed it is evaluated anew on the level
  -- below
  abbrev pub on_normal : (Tree → Run Tree) → Tree → Run Tree
  on_normal next (apply f ts) =
      and_then (in_places (order_of P f (list_of ts)) (list_of ts)) λ us.
      and_then (within_limits P.sign.theory (build (P.sign.theory f) f us)) λ t.
      choose (top_changed (P.sign.theory f) (order_of P f (list_of ts)) f us t) (l.eval t) (at_top next t)
  on_normal next t = at_top next t

  -- the same with at most n applications at the top; n is the budget, so that the last case spends nothing. `EvaluationGoesOn` says it without n
  abbrev pub rounds : ℕ → Tree → Run Tree
  rounds zero t = and_then (admit P.sign.theory t) (on_normal (λ u. ends stopped))
  rounds (suc n) t = and_then (admit P.sign.theory t) (on_normal (rounds n))

-- below the last level everything is too deep
abbrev pub no_level : Level
no_level = record { eval = λ t. ends too_deep; sorts = λ t. ends too_deep }

-- the level above l
abbrev pub level_on : Program → ℕ → Level → Level
level_on P B l =
    let f = sorts_of P B (solve P l) in
    record { eval = λ t. λ b. rounds P l f b t b; sorts = f }

-- what is given by k levels, where each condition of a membership has the budget B
abbrev pub levels : Program → ℕ → ℕ → Level
levels P B zero = record { eval = λ t. ends too_deep; sorts = sorts_of P B (solve P no_level) }
levels P B (suc k) = level_on P B (levels P B k)

-- ---- under limits: k levels, the budget B of each condition of a membership, and a budget b

-- the value of a term
abbrev pub eval : Program → ℕ → ℕ → Tree → Run Tree
eval P k B t = (levels P B k).eval t

-- the sorts of a term
abbrev pub sorts_at : Program → ℕ → ℕ → Tree → Run (List ℕ)
sorts_at P k B t = (levels P B k).sorts (norm P.sign.theory t)

-- the first solution of a condition
abbrev pub solve_at : Program → ℕ → ℕ → List Fragment → Binding → Run (Option Binding)
solve_at P k B c σ = solve P (levels P B k) c σ

-- the first solution of a condition behind `last`
abbrev pub solve_after_at : Program → ℕ → ℕ → Binding → List Fragment → Binding → Run (Option Binding)
solve_after_at P k B last c σ = solve_after P (levels P B k) last c σ
