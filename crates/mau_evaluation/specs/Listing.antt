-- The solutions of a pattern and a normal form, as a list in their order: all candidates that finiteness allows are tried. At the end stands the
-- law that the list holds just the solutions of mau_terms, each class once.
use Rattle.std.specs.Prelude.{◌≡◌, ℕ, zero, suc, List, [], ◌∷◌, ◌++◌, length, map, Bool, true, false, ◌&&◌, ◌||◌, not, if◌then◌else◌, Some, None, nat_le, ◌==◌, ◌^◌, nat_lt, Option}
use Rattle.std.specs.Ordering.{is_eq}
use Rattle.std.specs.declared.cmp.Ordering.{Ordering}
use Rattle.std.specs.declared.cmp.Ordering.TheVariants.{Less, Equal, Greater}
use Rattle.mau_terms.specs.Tree.{Tree, variable, numeral, apply, Trees, no_trees, tree}
use Rattle.mau_terms.specs.Reading.{reading}
use Rattle.mau_terms.specs.Order.{tree_cmp}
use Rattle.mau_terms.specs.Norm.{greatest_numeral, arrange, norm}
use Rattle.mau_terms.specs.Bare.{TermSignature, IsBare, IsLawful}
use Rattle.mau_terms.specs.Laws.{AreNorms}
use Rattle.mau_terms.specs.Subst.{variables, with_values}
use Rattle.mau_terms.specs.Solution.{Fits, list_under, over_list, assoc_top, FitsWithin, solution_cmp}
use Rattle.mau_terms.specs.Finite.{IsIn, each_of, words, candidates}
use Rattle.mau_terms.specs.declared.theory.Theory.{Theory}

-- two trees are the same
abbrev pub same_tree : Tree → Tree → Bool
same_tree t u = is_eq (tree_cmp t u)

abbrev pub same_trees : List Tree → List Tree → Bool
same_trees [] [] = true
same_trees [] (u ∷ us) = false
same_trees (t ∷ ts) [] = false
same_trees (t ∷ ts) (u ∷ us) = same_tree t u && same_trees ts us

-- what stands to the left and to the right of the matched part, and the values of the pattern's variables by first occurrence; all are normal forms
pub record Solution : Type 0 where
  pub left : List Tree
  pub right : List Tree
  pub values : List Tree

-- the elements for which the test holds
abbrev pub keep : {A : Type 0} → (A → Bool) → List A → List A
keep f [] = []
keep f (x ∷ xs) = if f x then x ∷ keep f xs else keep f xs

-- all lists of n elements of xs
abbrev pub tuples : ℕ → List Tree → List (List Tree)
tuples zero xs = [] ∷ []
tuples (suc n) xs = each_of (λ x. map (λ w. x ∷ w) (tuples n xs)) xs

-- ---- lists in order

-- x put before y, in the place of y's equal, or behind y, as they compare
abbrev pub place : Ordering → Solution → Solution → List Solution → List Solution → List Solution
place Less x y ys more = x ∷ y ∷ ys
place Equal x y ys more = y ∷ ys
place Greater x y ys more = y ∷ more

-- an ascending list with x in its place; where an equal of x is there, the list stays
abbrev pub put_in : (Solution → Solution → Ordering) → Solution → List Solution → List Solution
put_in c x [] = x ∷ []
put_in c x (y ∷ ys) = place (c x y) x y ys (put_in c x ys)

-- the elements of a list in ascending order, one of each class
abbrev pub in_order : (Solution → Solution → Ordering) → List Solution → List Solution
in_order c [] = []
in_order c (x ∷ xs) = put_in c x (in_order c xs)

-- the order of the solutions of p
abbrev pub compare : (ℕ → Theory) → Tree → Solution → Solution → Ordering
compare th p x y = solution_cmp th p (x.left, x.values) (y.left, y.values)

-- ---- the lists

-- values without context
abbrev pub plain : List Tree → Solution
plain vs = record { left = []; right = []; values = vs }

-- the values that make p equal to the normal form t
abbrev pub fitting : (ℕ → Theory) → Tree → Tree → List Solution
fitting th p t =
    in_order (compare th p) (map plain
    (keep (λ vs. same_tree (norm th (with_values p vs)) t) (tuples (length (variables p)) (map (norm th) (candidates th p t)))))

-- x makes of p a part of t under the associative f: with the contexts around it that part is t; it has two elements or more, or is the whole; and
-- where f is commutative the right context is all the rest, in order
abbrev pub fits_under : (ℕ → Theory) → ℕ → Tree → Tree → Solution → Bool
fits_under th f p t x =
    let l = list_under (th f) f (norm th (with_values p x.values)) in
    same_trees (arrange (th f).comm x.right) x.right && ((not (th f).comm || same_trees x.left []) &&
    (same_tree t (over_list (th f) f (x.left ++ (l ++ x.right))) &&
    (nat_le 2 (length l) || (same_trees x.left [] && same_trees x.right []))))

-- the values and contexts that do so
abbrev pub within_under : (ℕ → Theory) → ℕ → Tree → Tree → List Solution
within_under th f p t =
    let parts = words (length (list_under (th f) f t)) (list_under (th f) f t) in
    in_order (compare th p) (keep (fits_under th f p t)
    (each_of (λ l. each_of (λ r. map (λ vs. record { left = l; right = r; values = vs })
    (tuples (length (variables p)) (map (norm th) (each_of (λ m. candidates th p (over_list (th f) f m)) parts)))) parts) parts))

-- with extension: where the top of p's normal form is associative a part of t may do, and otherwise it is the whole
abbrev pub fitting_within : (ℕ → Theory) → Tree → Tree → List Solution
fitting_within th p t = elim (assoc_top th (norm th p)) [ Some f ↦ within_under th f p t | None ↦ fitting th p t ]

-- ---- whether a tree is a bare term

-- the kind that there is is k
abbrev pub has_kind : Option ℕ → ℕ → Bool
has_kind None k = false
has_kind (Some j) k = j == k

-- t is a bare term of the kind k
abbrev mutual
  pub is_bare_in : TermSignature → Tree → ℕ → Bool
  is_bare_in s (variable i r) k = nat_lt i (2 ^ 32) && (s.has_sort r && (s.kind_of r == k))
  is_bare_in s (numeral n) k = nat_le n greatest_numeral && has_kind s.numerals k
  is_bare_in s (apply f ts) k = s.has_operator f && ((s.result f == k) && are_bare_in s ts (s.arguments f))

  pub are_bare_in : TermSignature → Trees → List ℕ → Bool
  are_bare_in s no_trees [] = true
  are_bare_in s no_trees (k ∷ ks) = false
  are_bare_in s (tree t ts) [] = false
  are_bare_in s (tree t ts) (k ∷ ks) = is_bare_in s t k && are_bare_in s ts ks

-- the kind that a tree has by its top
abbrev pub kind_at : TermSignature → Tree → Option ℕ
kind_at s (variable i r) = Some (s.kind_of r)
kind_at s (numeral n) = s.numerals
kind_at s (apply f ts) = Some (s.result f)

-- of that kind
abbrev pub is_bare_of : TermSignature → Tree → Option ℕ → Bool
is_bare_of s t None = false
is_bare_of s t (Some k) = is_bare_in s t k

-- of some kind
abbrev pub is_bare : TermSignature → Tree → Bool
is_bare s t = is_bare_of s t (kind_at s t)

-- ---- solutions by bare terms

-- the instance of p by the values, read as bare terms, is a bare term
abbrev pub makes_bare : TermSignature → Tree → Solution → Bool
makes_bare s p x = is_bare s (with_values p (map (reading s.theory) x.values))

-- the solutions of a pattern in a normal form t without extension, in order, each class once; the sorts of their values are not asked here
abbrev pub solutions : TermSignature → Tree → Tree → List Solution
solutions s p t = keep (makes_bare s p) (fitting s.theory p t)

-- the same with extension
abbrev pub solutions_within : TermSignature → Tree → Tree → List Solution
solutions_within s p t = keep (makes_bare s p) (fitting_within s.theory p t)

-- ---- the law of the lists

-- x stands before each
abbrev pub AllAfter : (Solution → Solution → Ordering) → Solution → List Solution → Type 0
AllAfter c x [] = Unit {0}
AllAfter c x (y ∷ ys) = (c x y ≡ Less) × AllAfter c x ys

-- each stands before all behind it, so that none is there twice
abbrev pub IsAscending : (Solution → Solution → Ordering) → List Solution → Type 0
IsAscending c [] = Unit {0}
IsAscending c (x ∷ xs) = AllAfter c x xs × IsAscending c xs

-- in a term t, `solutions` lists the solutions of p: each entry has normal forms as its values, and they fit when read as bare terms; the class of each
-- substitution that fits is there; and the list ascends
abbrev pub SolutionsAreListed : Type 0
SolutionsAreListed = (s : TermSignature) → IsLawful s → (p t : Tree) → IsBare s t →
    ((x : Solution) → IsIn x (solutions s p (norm s.theory t)) → (x.left ≡ []) × (x.right ≡ []) × AreNorms s.theory x.values × Fits s p t (map (reading s.theory) x.values)) ×
    ((vs : List Tree) → Fits s p t vs → IsIn (plain (map (norm s.theory) vs)) (solutions s p (norm s.theory t))) ×
    IsAscending (compare s.theory p) (solutions s p (norm s.theory t))

-- and `solutions_within` lists those with context
abbrev pub SolutionsWithinAreListed : Type 0
SolutionsWithinAreListed = (s : TermSignature) → IsLawful s → (p t : Tree) → IsBare s t →
    ((x : Solution) → IsIn x (solutions_within s p (norm s.theory t)) → AreNorms s.theory x.values × FitsWithin s p t (map (reading s.theory) x.values) x.left x.right) ×
    ((vs left right : List Tree) → FitsWithin s p t vs left right → IsIn (record { left = left; right = right; values = map (norm s.theory) vs }) (solutions_within s p (norm s.theory t))) ×
    IsAscending (compare s.theory p) (solutions_within s p (norm s.theory t))
