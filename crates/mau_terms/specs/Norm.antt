-- The normal form of a tree: nested uses of an associative operator are one list, identities are dropped, the arguments of a
-- commutative operator stand in order, and successors of numerals are numerals. (Flattened and sorted terms: S. Eker,
-- "Associative-commutative rewriting on large terms", RTA 2003.)
use Rattle.std.specs.Prelude.{ℕ, ◌+◌, ◌-◌, ◌^◌, List, [], ◌∷◌, ◌++◌, Bool, true, false, ◌==◌, ◌||◌, ◌&&◌, if◌then◌else◌, nat_lt, Option, Some, None}
use Rattle.mau_terms.specs.Tree.{Tree, variable, numeral, apply, Trees, no_trees, tree, node, list_of}
use Rattle.mau_terms.specs.Order.{sort_trees}
use Rattle.mau_terms.specs.declared.theory.Identity.{Identity}
use Rattle.mau_terms.specs.declared.theory.Identity.TheVariants.{Const, Num}
use Rattle.mau_terms.specs.declared.theory.Theory.{Theory}

-- no numeral is greater
abbrev pub greatest_numeral : ℕ
greatest_numeral = 2 ^ 128 - 1

-- ---- the identity of an operator

-- an identity as a tree: a constant, or a numeral
abbrev pub unit_tree : Identity → Tree
unit_tree (Const c) = apply c.0 no_trees
unit_tree (Num n) = numeral n

-- whether t is the identity, if there is one
abbrev pub is_unit : Option Identity → Tree → Bool
is_unit (Some (Const c)) (apply g no_trees) = c.0 == g
is_unit (Some (Num n)) (numeral m) = n == m
is_unit _ _ = false

-- ---- the list of a normal form under an operator f: assoc says whether f is associative, id is its identity

-- the arguments of t, if f is associative and the top of t, and else t alone
abbrev pub elements : Bool → ℕ → Tree → List Tree
elements assoc f (apply g ts) = if assoc && (g == f) then list_of ts else apply g ts ∷ []
elements assoc f t = t ∷ []

-- the same, where the identity has the empty list
abbrev pub pieces : Bool → Option Identity → ℕ → Tree → List Tree
pieces assoc id f t = if is_unit id t then [] else elements assoc f t

-- the lists of several, joined
abbrev pub all_pieces : Bool → Option Identity → ℕ → List Tree → List Tree
all_pieces assoc id f [] = []
all_pieces assoc id f (t ∷ ts) = pieces assoc id f t ++ all_pieces assoc id f ts

-- in order, under a commutative operator
abbrev pub arrange : Bool → List Tree → List Tree
arrange comm ts = if comm then sort_trees ts else ts

-- ---- the normal form of a list under an operator f: succ says whether f is the successor

-- f over one argument: the successor of a numeral is the next numeral, but for the greatest
abbrev pub over_one : Bool → ℕ → Tree → Tree
over_one succ f (numeral n) = if succ && nat_lt n greatest_numeral then numeral (n + 1) else node f (numeral n ∷ [])
over_one succ f t = node f (t ∷ [])

-- no element is the identity, and one element is itself, where f is associative or has an identity
abbrev pub finish : Bool → Option Identity → Bool → ℕ → List Tree → Tree
finish assoc None succ f [] = node f []
finish assoc (Some i) succ f [] = unit_tree i
finish true id succ f (t ∷ []) = t
finish false (Some i) succ f (t ∷ []) = t
finish false None succ f (t ∷ []) = over_one succ f t
finish assoc id succ f (t ∷ u ∷ ts) = node f (t ∷ u ∷ ts)

-- ---- normal forms

-- the normal form of f over normal forms, by the axioms of f
abbrev pub made : Bool → Bool → Option Identity → Bool → ℕ → List Tree → Tree
made assoc comm id succ f ts = finish assoc id succ f (arrange comm (all_pieces assoc id f ts))

abbrev pub build : Theory → ℕ → List Tree → Tree
build h f ts = made h.assoc h.comm h.id h.succ f ts

-- the normal form of a tree, where th gives the axioms of each operator
abbrev mutual
  pub norm : (ℕ → Theory) → Tree → Tree
  norm th (variable i s) = variable i s
  norm th (numeral n) = numeral n
  norm th (apply f ts) = build (th f) f (norms th ts)

  pub norms : (ℕ → Theory) → Trees → List Tree
  norms th no_trees = []
  norms th (tree t ts) = norm th t ∷ norms th ts

-- ---- the successor of the greatest numeral, which is no numeral

abbrev pub is_greatest_numeral : Trees → Bool
is_greatest_numeral (tree (numeral n) no_trees) = n == greatest_numeral
is_greatest_numeral _ = false

-- t holds the successor of the greatest numeral
abbrev mutual
  pub holds_overflow : (ℕ → Theory) → Tree → Bool
  holds_overflow th (variable i s) = false
  holds_overflow th (numeral n) = false
  holds_overflow th (apply f ts) = ((th f).succ && is_greatest_numeral ts) || hold_overflow th ts

  pub hold_overflow : (ℕ → Theory) → Trees → Bool
  hold_overflow th no_trees = false
  hold_overflow th (tree t ts) = holds_overflow th t || hold_overflow th ts
