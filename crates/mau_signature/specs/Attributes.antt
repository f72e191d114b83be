-- The attributes of an operator: those of all its declarations.
use Rattle.std.specs.Prelude.{ℕ, zero, suc, ◌==◌, nat_eq, nat_lt, nat_le, not, List, [], ◌∷◌, ◌++◌, Bool, true, false, ◌&&◌, ◌||◌, Option, Some, None, map, length, bytes_eq, if◌then◌else◌}
use Rattle.std.specs.List.{list_any}
use Rattle.std.specs.Cmp.Lexicographic.{pointwise}
use Rattle.mau_signature.specs.declared.attributes.Attrs.{Attrs}
use Rattle.mau_signature.specs.declared.attributes.Gather.{Gather}
use Rattle.mau_signature.specs.declared.attributes.Gather.TheVariants.{Upto, Below, Any}
use Rattle.mau_signature.specs.declared.attributes.IdSpec.{IdSpec}
use Rattle.mau_signature.specs.declared.attributes.IdSpec.TheVariants.{Const, Num}
use Rattle.mau_signature.specs.declared.decl.Decl.{Decl}
use Rattle.mau_signature.specs.Form.{same_form}

-- ---- united attributes

abbrev pub no_attributes : Attrs
no_attributes = record { assoc = false; comm = false; id = None; prec = None; gather = None; strat = None; frozen = None; builtin = None }

-- the first value that is given
abbrev pub first_given : {A : Type 0} → Option A → Option A → Option A
first_given (Some x) y = Some x
first_given None y = y

-- what is given by a or b, the values of a before those of b
abbrev pub unite : Attrs → Attrs → Attrs
unite a b = record {
  assoc = a.assoc || b.assoc;
  comm = a.comm || b.comm;
  id = first_given a.id b.id;
  prec = first_given a.prec b.prec;
  gather = first_given a.gather b.gather;
  strat = first_given a.strat b.strat;
  frozen = first_given a.frozen b.frozen;
  builtin = first_given a.builtin b.builtin;
}

-- the attributes that some declarations have together
abbrev pub united : List Decl → Attrs
united [] = no_attributes
united (d ∷ ds) = unite d.attrs (united ds)

-- a declaration with the attributes a in place of its own
abbrev pub with_attributes : Attrs → Decl → Decl
with_attributes a d = record d { attrs = a }

-- each declaration with the united attributes of all
abbrev pub with_united : List Decl → List Decl
with_united ds = map (with_attributes (united ds)) ds

-- ---- two values of one attribute

-- both values are given, and they are not the same
abbrev pub differ : {A : Type 0} → (A → A → Bool) → Option A → Option A → Bool
differ same (Some x) (Some y) = not (same x y)
differ same (Some x) None = false
differ same None y = false

abbrev pub same_identity : IdSpec → IdSpec → Bool
same_identity (Const f) (Const g) = same_form f g
same_identity (Num m) (Num n) = m == n
same_identity (Const f) (Num n) = false
same_identity (Num m) (Const g) = false

abbrev pub same_gather : Gather → Gather → Bool
same_gather Upto Upto = true
same_gather Below Below = true
same_gather Any Any = true
same_gather _ _ = false

-- some attribute has another value in a than in b
abbrev pub has_two_values : Attrs → Attrs → Bool
has_two_values a b =
    differ same_identity a.id b.id || (differ nat_eq a.prec b.prec || (differ (pointwise same_gather) a.gather b.gather
    || (differ (pointwise nat_eq) a.strat b.strat || (differ (pointwise nat_eq) a.frozen b.frozen || differ bytes_eq a.builtin b.builtin))))

-- ---- attributes and arguments

-- x is one of n arguments, counted from 1
abbrev pub names_argument : ℕ → ℕ → Bool
names_argument n x = nat_lt 0 x && nat_le x n

-- x is in the list
abbrev pub has_number : List ℕ → ℕ → Bool
has_number xs x = list_any (λ y. y == x) xs

-- distinct ones of n arguments, and then 0
abbrev pub is_strategy : ℕ → List ℕ → Bool
is_strategy n [] = false
is_strategy n (x ∷ xs) = if x == 0 then length xs == 0 else names_argument n x && (not (has_number xs x) && is_strategy n xs)

-- of the first two arguments both are named, or neither
abbrev pub names_both_or_none : List ℕ → Bool
names_both_or_none xs = (if has_number xs 1 then has_number xs 2 else not (has_number xs 2))

-- the numbers from 1 to n
abbrev pub numbers_to : ℕ → List ℕ
numbers_to zero = []
numbers_to (suc n) = numbers_to n ++ suc n ∷ []

-- the strategy of an operator with n arguments: the one that is given, or all arguments from left to right
abbrev pub strategy_or_all : ℕ → Option (List ℕ) → List ℕ
strategy_or_all n (Some xs) = xs
strategy_or_all n None = numbers_to n ++ 0 ∷ []

-- x is in the list, if one is given
abbrev pub is_given_number : Option (List ℕ) → ℕ → Bool
is_given_number (Some xs) x = has_number xs x
is_given_number None x = false
