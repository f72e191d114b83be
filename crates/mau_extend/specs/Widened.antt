-- A pattern with variables for its contexts. (Extension variables: G. Peterson and M. Stickel, "Complete sets of reductions for some
-- equational theories", J. ACM 28, 1981.)
use Rattle.std.specs.Prelude.{◌≡◌, ◌⊎◌, ℕ, ◌<◌, ◌≤◌, ◌+◌, ◌^◌, List, [], ◌∷◌, ◌++◌, length, Bool, true, false, Contains, Option, None, Some}
use Rattle.std.specs.declared.cmp.Ordering.{Ordering}
use Rattle.std.specs.declared.cmp.Ordering.TheVariants.{Less}
use Rattle.mau_terms.specs.Tree.{Tree, variable}
use Rattle.mau_terms.specs.Axioms.{binary}
use Rattle.mau_terms.specs.Norm.{norm}
use Rattle.mau_terms.specs.Bare.{IsBare}
use Rattle.mau_terms.specs.Subst.{Variable, same_variable, has_variable, variables}
use Rattle.mau_terms.specs.Solution.{assoc_top, list_under, over_list}
use Rattle.mau_terms.specs.declared.theory.Identity.{Identity}
use Rattle.mau_terms.specs.declared.theory.Theory.{Theory}
use Rattle.mau_signature.specs.Signature.{SignatureOf, theory_at, terms_over}
use Rattle.mau_listing.specs.Question.{Question}
use Rattle.mau_listing.specs.Matcher.{Matcher}
use Rattle.mau_listing.specs.Next.{IsBehind}

-- ---- terms and lists

-- f over l and t where there is a left context, and else t alone
abbrev pub behind_left : Bool → ℕ → Tree → Tree → Tree
behind_left true f l t = binary f l t
behind_left false f l t = t

-- f over t and r where there is a right context, and else t alone
abbrev pub before_right : Bool → ℕ → Tree → Tree → Tree
before_right true f t r = binary f t r
before_right false f t r = t

-- t between l and r under f, where h says whether there is a left context, and k whether there is a right one
abbrev pub widened : Bool → Bool → ℕ → Tree → Tree → Tree → Tree
widened h k f l t r = behind_left h f l (before_right k f t r)

-- the same of lists
abbrev pub behind_first : {A : Type 0} → Bool → A → List A → List A
behind_first true a xs = a ∷ xs
behind_first false a xs = xs

abbrev pub before_last : {A : Type 0} → Bool → List A → A → List A
before_last true xs b = xs ++ b ∷ []
before_last false xs b = xs

abbrev pub around : {A : Type 0} → Bool → Bool → A → List A → A → List A
around h k a xs b = behind_first h a (before_last k xs b)

-- the list of a context, if there is one
abbrev pub context_list : Bool → Theory → ℕ → Tree → List Tree
context_list true h f t = list_under h f t
context_list false h f t = []

-- ---- questions

abbrev pub as_term : Variable → Tree
as_term x = variable x.0 x.1

-- the question whose pattern is widened by the variables a and b
abbrev pub widened_question : Bool → Bool → ℕ → Variable → Variable → Question → Question
widened_question h k f a b q = record q { pattern = widened h k f (as_term a) q.pattern (as_term b) }

-- a variable of the kind n that neither the pattern nor the values beforehand have
pub record IsFresh (s : SignatureOf) (q : Question) (n : ℕ) (x : Variable) : Type 0 where
  pub small : x.0 < 2 ^ 32
  pub sort : (terms_over s).has_sort x.1 ≡ true
  pub kind : (terms_over s).kind_of x.1 ≡ n
  pub free : has_variable (variables q.pattern) x ≡ false
  pub unbound : (b : Variable × Tree) → Contains q.bound b → same_variable x b.0 ≡ false

-- the pattern has the associative top f, and a and b are variables for its contexts; a commutative operator has no left context
pub record CanBeWidened (s : SignatureOf) (q : Question) (h : Bool) (f : ℕ) (a b : Variable) : Type 0 where
  pub pattern : IsBare (terms_over s) q.pattern
  pub top : assoc_top (theory_at s) (norm (theory_at s) q.pattern) ≡ Some f
  pub first : IsFresh s q ((terms_over s).result f) a
  pub last : IsFresh s q ((terms_over s).result f) b
  pub apart : same_variable a b ≡ false
  pub rest_alone : (theory_at s f).comm ≡ true → h ≡ false

-- ---- solutions

-- a context that can be an argument: it has elements, or f has an identity; and where there is no argument, it is empty
pub record CanBeArgument (h : Bool) (t : Theory) (ts : List Tree) : Type 0 where
  pub there : h ≡ true → ts ≡ [] → (i : Identity) × (t.id ≡ Some i)
  pub none : h ≡ false → ts ≡ []

pub record HasShape (h k : Bool) (t : Theory) (x : Matcher) : Type 0 where
  pub left : CanBeArgument h t x.left
  pub right : CanBeArgument k t x.right

-- the solution of the widened pattern that x is
abbrev pub widened_found : Bool → Bool → Theory → ℕ → Matcher → Matcher
widened_found h k t f x = record { left = []; right = []; values = around h k (over_list t f x.left) x.values (over_list t f x.right) }

-- the solution with the values vs between the contexts l and r
abbrev pub narrowed : Bool → Bool → Theory → ℕ → Tree → List Tree → Tree → Matcher
narrowed h k t f l vs r = record { left = context_list h t f l; right = context_list k t f r; values = vs }

-- x is what the solution y of the widened pattern is
pub record IsNarrowed (h k : Bool) (t : Theory) (f : ℕ) (y x : Matcher) : Type 0 where
  pub left : Tree
  pub right : Tree
  pub values : y.values ≡ around h k left x.values right
  pub same : x ≡ narrowed h k t f left x.values right

-- the contexts leave two elements of the subject at least, or there are none
abbrev pub IsWide : Theory → ℕ → Tree → Matcher → Type 0
IsWide t f subject x = (length x.left + length x.right ≡ 0) ⊎ (length x.left + length x.right + 2 ≤ length (list_under t f subject))

-- ---- the next solution of a shape

-- x is one that `Is` holds of, behind the last one, and none that `Other` holds of stands between
pub record IsLeastAmong (Is Other : Matcher → Type 0) (cmp : Matcher → Matcher → Ordering) (last : Option Matcher) (x : Matcher) : Type 0 where
  pub is_one : Is x
  pub behind : IsBehind cmp last x
  pub least : (y : Matcher) → Other y → IsBehind cmp last y → (cmp x y ≡ Less) ⊎ (x ≡ y)

-- the answer is such a one, or no other stands behind the last one
abbrev pub IsNextAmong : (Is Other : Matcher → Type 0) → (Matcher → Matcher → Ordering) → Option Matcher → Option Matcher → Type 0
IsNextAmong Is Other cmp last None = (x : Matcher) → Other x → IsBehind cmp last x → ⊥
IsNextAmong Is Other cmp last (Some x) = IsLeastAmong Is Other cmp last x
