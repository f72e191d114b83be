-- The solutions of a pattern and a subject over a module, with their contexts or without, and the first of them.
use Rattle.std.specs.Prelude.{◌≡◌, ◌⊎◌, ℕ, suc, ◌<◌, Bool, true, false, List, [], ◌∷◌, length, map, All, AllPairs, Contains, Option, None, Some}
use Rattle.std.specs.declared.cmp.Ordering.TheVariants.{Less}
use Rattle.mau_terms.specs.Tree.{Tree}
use Rattle.mau_terms.specs.Norm.{norm}
use Rattle.mau_terms.specs.Subst.{Variable}
use Rattle.mau_terms.specs.Solution.{Solves, SolvesWithin}
use Rattle.mau_listing.specs.Matcher.{Matcher}
use Rattle.mau_listing.specs.Next
use Rattle.mau_listing.specs.Next.{matcher_cmp}
use Rattle.mau_api.specs.Meanings.{Meanings}
use Rattle.mau_module.specs.Modules.{ModuleOf}
use Rattle.mau_session.specs.Terms.{Pairs, terms_in, HasSort}

-- the values vs of p's variables, by first occurrence, have their variables' sorts by the meanings e, and make p equal to t, or, with
-- contexts, to the part of t that stands between the lists left and right
abbrev pub SolvesIn : ModuleOf → Meanings → Bool → Tree → Tree → List Tree → List Tree → List Tree → Type 0
SolvesIn m e false p t vs left right = Solves (terms_in m) (HasSort m e) p t vs × (left ≡ []) × (right ≡ [])
SolvesIn m e true p t vs left right = SolvesWithin (terms_in m) (HasSort m e) p t vs left right

-- the variables of a command, numbered by first occurrence, with their sorts
abbrev pub numbered_from : ℕ → Pairs → List Variable
numbered_from k [] = []
numbered_from k (p ∷ ps) = (k, p.1) ∷ numbered_from (suc k) ps

-- ---- solutions by their classes

-- the contexts of a solution, and the normal forms of its values; equal values have one normal form, so they tell its class
abbrev pub class_of : ModuleOf → List Tree → List Tree → List Tree → Matcher
class_of m left right vs = record { left = left; right = right; values = map (norm (terms_in m).theory) vs }

-- x is the class of a solution, where w says whether it has contexts
pub record IsSolution (m : ModuleOf) (e : Meanings) (w : Bool) (p t : Tree) (x : Matcher) : Type 0 where
  pub values : List Tree
  pub normal : map (norm (terms_in m).theory) values ≡ x.values
  pub solves : SolvesIn m e w p t values x.left x.right

-- x comes before y, in the order of solutions: by their left contexts first, and then by their values
abbrev pub IsBefore : ModuleOf → Tree → Matcher → Matcher → Type 0
IsBefore m p x y = matcher_cmp (terms_in m).theory p x y ≡ Less

-- x comes behind the last one shown, if one was shown
abbrev pub IsBehind : ModuleOf → Tree → Option Matcher → Matcher → Type 0
IsBehind m p last x = Next.IsBehind (matcher_cmp (terms_in m).theory p) last x

-- ---- listings

-- the first solutions behind the last one shown, each class once and in ascending order: any other one comes behind them
pub record AreFirst (m : ModuleOf) (e : Meanings) (w : Bool) (p t : Tree) (last : Option Matcher) (found : List Matcher) : Type 0 where
  pub solutions : All (IsSolution m e w p t) found
  pub behind : All (IsBehind m p last) found
  pub ascending : AllPairs (IsBefore m p) found
  pub others : (x : Matcher) → IsSolution m e w p t x → IsBehind m p last x → Contains found x ⊎ All (λ y. IsBefore m p y x) found

-- these are all of them: whatever bare values make p equal to t, or to the part of it between two contexts, their class is there
pub record AreAll (m : ModuleOf) (e : Meanings) (w : Bool) (p t : Tree) (last : Option Matcher) (found : List Matcher) : Type 0 where
  pub first : AreFirst m e w p t last found
  pub complete : (vs left right : List Tree) → SolvesIn m e w p t vs left right → IsBehind m p last (class_of m left right vs) → Contains found (class_of m left right vs)

-- there are fewer than were asked for, if a number was
abbrev pub AreFewer : List Matcher → Option ℕ → Type 0
AreFewer found None = Unit {0}
AreFewer found (Some most) = length found < most

-- What a listing shows behind the last one shown, where at most so many solutions are asked for: all that are left, and then it has ended,
-- or as many as are asked for.
pub data Shows (m : ModuleOf) (e : Meanings) (w : Bool) (p t : Tree) (last : Option Matcher) : Option ℕ → List Matcher → Bool → Type 0 where
  shows_all : (most : Option ℕ) (found : List Matcher) → AreAll m e w p t last found → AreFewer found most → Shows m e w p t last most found true
  shows_first : (most : ℕ) (found : List Matcher) → AreFirst m e w p t last found → length found ≡ most → Shows m e w p t last (Some most) found false

-- the last one shown, after some more
abbrev pub last_shown : Option Matcher → List Matcher → Option Matcher
last_shown last [] = last
last_shown last (x ∷ found) = last_shown (Some x) found
