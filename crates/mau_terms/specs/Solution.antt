-- Solutions of a pattern and a subject, with and without context, and their order. (Matching a part of a list with what stands
-- around it: G. Peterson and M. Stickel, "Complete sets of reductions for some equational theories", J. ACM 28, 1981.)
use Rattle.std.specs.Prelude.{◌≡◌, ℕ, ◌≤◌, List, [], ◌∷◌, ◌++◌, length, map, true, ◌⊎◌, Option, Some, None, if◌then◌else◌}
use Rattle.std.specs.declared.cmp.Ordering.{Ordering}
use Rattle.std.specs.Cmp.Lexicographic.{slice_cmp}
use Rattle.mau_terms.specs.Tree.{Tree, variable, numeral, apply, Trees, no_trees, tree}
use Rattle.mau_terms.specs.Order.{tree_cmp}
use Rattle.mau_terms.specs.Norm.{pieces, arrange, finish, norm}
use Rattle.mau_terms.specs.Bare.{TermSignature, IsBare, EqualModulo}
use Rattle.mau_terms.specs.Subst.{Variable, variables, with_values, has_variable}
use Rattle.mau_terms.specs.declared.theory.Theory.{Theory}

-- ---- without context

-- vs has one value for each variable of p, by first occurrence, and the instance is equal to t
pub record Fits (s : TermSignature) (p t : Tree) (vs : List Tree) : Type 0 where
  pub one_each : length vs ≡ length (variables p)
  pub equal : EqualModulo s (with_values p vs) t

-- each value has its variable's sort, where P r v says that v has the sort r
abbrev pub HaveSorts : (ℕ → Tree → Type 0) → List Variable → List Tree → Type 0
HaveSorts P [] vs = Unit {0}
HaveSorts P (x ∷ xs) [] = ⊥
HaveSorts P (x ∷ xs) (v ∷ vs) = P x.1 v × HaveSorts P xs vs

-- vs is a solution of the pattern p and the subject t
abbrev pub Solves : TermSignature → (ℕ → Tree → Type 0) → Tree → Tree → List Tree → Type 0
Solves s P p t vs = Fits s p t vs × HaveSorts P (variables p) vs

-- ---- lists of an associative operator

-- the list of a normal form t under f
abbrev pub list_under : Theory → ℕ → Tree → List Tree
list_under h f t = pieces h.assoc h.id f t

-- the normal form of f over a list
abbrev pub over_list : Theory → ℕ → List Tree → Tree
over_list h f ts = finish h.assoc h.id h.succ f (arrange h.comm ts)

-- each is a normal form that is neither the identity of f nor headed by f
abbrev pub ArePieces : (ℕ → Theory) → ℕ → List Tree → Type 0
ArePieces th f [] = Unit {0}
ArePieces th f (t ∷ ts) = (norm th t ≡ t) × (list_under (th f) f t ≡ t ∷ []) × ArePieces th f ts

-- ts is a list of f, which stands in order where f is commutative
pub record IsListOf (th : ℕ → Theory) (f : ℕ) (ts : List Tree) : Type 0 where
  pub pieces : ArePieces th f ts
  pub ordered : arrange (th f).comm ts ≡ ts

-- ---- with context

-- the instance of p by vs is a part of t under the associative operator f: t is f over the list left, the list of the instance,
-- and the list right; that part has two elements or more, or is the whole. Where f is commutative, right is all the rest.
pub record FitsUnder (s : TermSignature) (f : ℕ) (p t : Tree) (vs left right : List Tree) : Type 0 where
  pub one_each : length vs ≡ length (variables p)
  pub bare : IsBare s (with_values p vs)
  pub left_list : IsListOf s.theory f left
  pub right_list : IsListOf s.theory f right
  pub rest_alone : (s.theory f).comm ≡ true → left ≡ []
  pub whole : norm s.theory t ≡
      over_list (s.theory f) f (left ++ (list_under (s.theory f) f (norm s.theory (with_values p vs)) ++ right))
  pub part : (2 ≤ length (list_under (s.theory f) f (norm s.theory (with_values p vs)))) ⊎ ((left ≡ []) × (right ≡ []))

-- the top of a normal form, where it is associative
abbrev pub assoc_top : (ℕ → Theory) → Tree → Option ℕ
assoc_top th (apply f ts) = if (th f).assoc then Some f else None
assoc_top th t = None

-- under an associative operator a part may do, and otherwise it is the whole
abbrev pub FitsAt : TermSignature → Option ℕ → Tree → Tree → List Tree → List Tree → List Tree → Type 0
FitsAt s (Some f) p t vs left right = FitsUnder s f p t vs left right
FitsAt s None p t vs left right = Fits s p t vs × (left ≡ []) × (right ≡ [])

-- the top of p is the top of its normal form
abbrev pub FitsWithin : TermSignature → Tree → Tree → List Tree → List Tree → List Tree → Type 0
FitsWithin s p t vs left right = FitsAt s (assoc_top s.theory (norm s.theory p)) p t vs left right

-- vs, left and right are a solution with context of the pattern p and the subject t
abbrev pub SolvesWithin : TermSignature → (ℕ → Tree → Type 0) → Tree → Tree → List Tree → List Tree → List Tree → Type 0
SolvesWithin s P p t vs left right = FitsWithin s p t vs left right × HaveSorts P (variables p) vs

-- ---- the order of solutions

-- xs, and then the variables of a tree that are not among them, by first occurrence, each with the operator that it is an
-- argument of there, if that is associative; o is that operator for the tree itself
abbrev mutual
  pub add_places : (ℕ → Theory) → Option ℕ → List (Variable × Option ℕ) → Tree → List (Variable × Option ℕ)
  add_places th o xs (variable i s) = if has_variable (map (λ e. e.0) xs) (i, s) then xs else xs ++ ((i, s), o) ∷ []
  add_places th o xs (numeral n) = xs
  add_places th o xs (apply f ts) = add_all_places th (if (th f).assoc then Some f else None) xs ts

  pub add_all_places : (ℕ → Theory) → Option ℕ → List (Variable × Option ℕ) → Trees → List (Variable × Option ℕ)
  add_all_places th o xs no_trees = xs
  add_all_places th o xs (tree t ts) = add_all_places th o (add_places th o xs t) ts

-- for each variable of p, by first occurrence, the associative operator of which it is an argument there, if it is
abbrev pub places : (ℕ → Theory) → Tree → List (Option ℕ)
places th p = map (λ e. e.1) (add_places th None [] p)

-- how a value is compared: as its list under that operator, and else as its normal form alone
abbrev pub value_key : (ℕ → Theory) → Option ℕ → Tree → List Tree
value_key th None v = norm th v ∷ []
value_key th (Some f) v = list_under (th f) f (norm th v)

abbrev pub value_keys : (ℕ → Theory) → List (Option ℕ) → List Tree → List (List Tree)
value_keys th [] vs = []
value_keys th (o ∷ os) [] = []
value_keys th (o ∷ os) (v ∷ vs) = value_key th o v ∷ value_keys th os vs

-- a solution is its left context and its values: the left context comes first
abbrev pub solution_key : (ℕ → Theory) → Tree → List Tree × List Tree → List (List Tree)
solution_key th p x = x.0 ∷ value_keys th (places th p) x.1

abbrev pub list_cmp : List Tree → List Tree → Ordering
list_cmp = slice_cmp tree_cmp

-- the order of the solutions of p: by the first place where their keys differ
abbrev pub solution_cmp : (ℕ → Theory) → Tree → List Tree × List Tree → List Tree × List Tree → Ordering
solution_cmp th p x y = slice_cmp list_cmp (solution_key th p x) (solution_key th p y)
