-- Values that are too short, and how far they are passed over.
use Rattle.std.specs.Prelude.{◌≡◌, ◌⊎◌, ℕ, ◌≤◌, List, [], ◌∷◌, length, take, Option, Some, None, if◌then◌else◌}
use Rattle.mau_terms.specs.Tree.{Tree}
use Rattle.mau_terms.specs.Solution.{value_key}
use Rattle.mau_terms.specs.declared.theory.Theory.{Theory}
use Rattle.mau_domains.specs.Search.{IsValueBehind}
use Rattle.mau_domains.specs.Values.{by_key}
use Rattle.mau_lists.specs.Lists.{IsSubList, IsBelow}
use Rattle.mau_lists.specs.Terms.{IsBefore}
use Rattle.mau_match.specs.Parts.{same_tree}

-- what follows the elements of xs in ys, each at the first place where it may stand
abbrev pub rest_of : List Tree → List Tree → Option (List Tree)
rest_of [] ys = Some ys
rest_of (x ∷ xs) [] = None
rest_of (x ∷ xs) (y ∷ ys) = if same_tree x y then rest_of xs ys else rest_of (x ∷ xs) ys

-- xs without its last element
abbrev pub without_last : List Tree → List Tree
without_last [] = []
without_last (x ∷ []) = []
without_last (x ∷ y ∷ xs) = x ∷ without_last (y ∷ xs)

-- t has a greater element than xs at the first place where they differ, and xs goes on to there
abbrev pub IsPast : List Tree → List Tree → Type 0
IsPast [] t = ⊥
IsPast (x ∷ xs) [] = ⊥
IsPast (x ∷ xs) (c ∷ cs) = IsBefore x c ⊎ ((x ≡ c) × IsPast xs cs)

-- each sub-list of the items that is so long and stands behind the list is greater within the first k elements of the list
abbrev pub IsCut : List Tree → List Tree → ℕ → ℕ → Type 0
IsCut items list least k = (t : List Tree) → IsSubList t items → least ≤ length t → IsBelow IsBefore list t → IsPast (take k list) t

-- no sub-list of the items that is so long stands behind the list and not behind the far one
abbrev pub IsFar : List Tree → List Tree → ℕ → List Tree → Type 0
IsFar items list least far = (t : List Tree) → IsSubList t items → least ≤ length t → IsBelow IsBefore list t → IsBelow IsBefore far t

-- v is compared as a list of so many elements at least
abbrev pub IsAsLong : (ℕ → Theory) → Option ℕ → ℕ → Tree → Type 0
IsAsLong th o n v = n ≤ length (value_key th o v)

-- each value of Q that is so long and stands behind `after` stands behind `passed`, which stands behind `after` or is it
pub record IsPassed (th : ℕ → Theory) (o : Option ℕ) (Q : Tree → Type 0) (n : ℕ) (after passed : Tree) : Type 0 where
  pub onward : (u : Tree) → Q u → IsAsLong th o n u → IsValueBehind (by_key th o) 0 (Some after) u → IsValueBehind (by_key th o) 0 (Some passed) u
  pub back : (u : Tree) → IsValueBehind (by_key th o) 0 (Some passed) u → IsValueBehind (by_key th o) 0 (Some after) u

-- w is compared as this list, and stands behind v
pub record IsFurther (th : ℕ → Theory) (f : ℕ) (v : Tree) (list : List Tree) (w : Tree) : Type 0 where
  pub key : value_key th (Some f) w ≡ list
  pub behind : IsValueBehind (by_key th (Some f)) 0 (Some v) w

-- no sub-list of these items that is so long is behind v and not behind w; w is v or behind it
pub record IsPassedBy (th : ℕ → Theory) (f : ℕ) (items : List Tree) (least : ℕ) (v w : Tree) : Type 0 where
  pub far : IsFar items (value_key th (Some f) v) least (value_key th (Some f) w)
  pub back : (u : Tree) → IsValueBehind (by_key th (Some f)) 0 (Some w) u → IsValueBehind (by_key th (Some f)) 0 (Some v) u
