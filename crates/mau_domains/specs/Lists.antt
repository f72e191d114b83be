-- The lists of a part, and those of two elements or more.
use Rattle.std.specs.Prelude.{◌≡◌, ◌↔◌, ◌⊎◌, ◌==◌, ℕ, List, [], ◌∷◌, take, Bool, true, false, Option, Some, None}
use Rattle.std.specs.declared.cmp.Ordering.TheVariants.{Less}
use Rattle.mau_terms.specs.Tree.{Tree, node}
use Rattle.mau_terms.specs.Order.{sort_trees}
use Rattle.mau_terms.specs.Norm.{norm}
use Rattle.mau_terms.specs.Solution.{over_list}
use Rattle.mau_terms.specs.Finite.{units_of}
use Rattle.mau_terms.specs.declared.theory.Theory.{Theory}
use Rattle.mau_lists.specs.Lists.{IsSubList, IsFront, IsPart, IsBelow}
use Rattle.mau_lists.specs.Terms.{IsBefore}
use Rattle.mau_domains.specs.Parts.{Reach, whole, front, inside}
use Rattle.mau_domains.specs.Search.{IsValueBehind}
use Rattle.mau_domains.specs.Values.{by_key}

-- xs is so much of the items ys; c says whether the operator is commutative, so that their order does not matter and lists stand in order
abbrev pub IsListIn : Bool → Reach → List Tree → List Tree → Type 0
IsListIn true whole ys xs = xs ≡ sort_trees ys
IsListIn true front ys xs = IsSubList xs (sort_trees ys)
IsListIn true inside ys xs = IsSubList xs (sort_trees ys)
IsListIn false whole ys xs = xs ≡ ys
IsListIn false front ys xs = IsFront xs ys
IsListIn false inside ys xs = IsPart xs ys

-- two elements or more
abbrev pub is_long : List Tree → Bool
is_long [] = false
is_long (t ∷ []) = false
is_long (t ∷ u ∷ ts) = true

-- a list of a kind, of two elements or more
pub record IsLong (Is : List Tree → Type 0) (xs : List Tree) : Type 0 where
  pub lies : Is xs
  pub long : is_long xs ≡ true

abbrev pub IsLongIn : Bool → Reach → List Tree → List Tree → Type 0
IsLongIn c r ys = IsLong (IsListIn c r ys)

-- v is f over such a list of two elements or more
pub record IsNodeIn (c : Bool) (r : Reach) (f : ℕ) (ys : List Tree) (v : Tree) : Type 0 where
  pub list : List Tree
  pub one : IsLongIn c r ys list
  pub node_of : v ≡ node f list

-- ---- where the longer lists begin

-- values are compared as lists of f
abbrev pub is_own : Option ℕ → ℕ → Bool
is_own None f = false
is_own (Some g) f = g == f

-- the lists of two elements or more over which f stands behind the last value are those behind a start; with none there is no such list
abbrev pub StartsAt : (ℕ → Theory) → Option ℕ → ℕ → Option Tree → Option (List Tree) → Type 0
StartsAt th o f after None =
    (xs : List Tree) → is_long xs ≡ true → norm th (node f xs) ≡ node f xs → IsValueBehind (by_key th o) 0 after (node f xs) → ⊥
StartsAt th o f after (Some start) =
    (xs : List Tree) → is_long xs ≡ true → norm th (node f xs) ≡ node f xs →
    IsValueBehind (by_key th o) 0 after (node f xs) ↔ IsBelow IsBefore start xs

-- the same of a tree t, in the order of trees
abbrev pub StartsBehind : ℕ → Tree → Option (List Tree) → Type 0
StartsBehind f t None = (xs : List Tree) → is_long xs ≡ true → IsBefore t (node f xs) → ⊥
StartsBehind f t (Some start) = (xs : List Tree) → is_long xs ≡ true → IsBefore t (node f xs) ↔ IsBelow IsBefore start xs

-- the least of the longer lists of the items over which f stands behind the last value, or there is none
abbrev pub IsLeastLong : (ℕ → Theory) → Option ℕ → ℕ → Bool → Reach → List Tree → Option Tree → Option (List Tree) → Type 0
IsLeastLong th o f c r ys after None = (xs : List Tree) → IsLongIn c r ys xs → IsValueBehind (by_key th o) 0 after (node f xs) → ⊥
IsLeastLong th o f c r ys after (Some list) =
    IsLongIn c r ys list × IsValueBehind (by_key th o) 0 after (node f list)
    × ((xs : List Tree) → IsLongIn c r ys xs → IsValueBehind (by_key th o) 0 after (node f xs) →
    (by_key th o 0 (node f list) (node f xs) ≡ Less) ⊎ (list ≡ xs))

-- ---- the other lists

-- the items that are alone such a list, where not the whole is meant
abbrev pub alone_of : {A : Type 0} → Bool → Reach → List A → List A
alone_of true r xs = xs
alone_of false whole xs = take 1 xs
alone_of false front xs = take 1 xs
alone_of false inside xs = xs

-- the value over all items, if there is one
abbrev pub whole_of : Theory → ℕ → List Tree → List Tree
whole_of h f [] = units_of h.id
whole_of h f (t ∷ ts) = over_list h f (t ∷ ts) ∷ []
