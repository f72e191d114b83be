-- When declarations make no signature: the faults of a declaration, and the first declaration at fault.
use Rattle.std.specs.Prelude.{◌≡◌, ℕ, ◌+◌, ◌<◌, ◌==◌, nat_eq, nat_lt, not, List, [], ◌∷◌, ◌++◌, Bool, true, false, ◌&&◌, ◌||◌, Option, Some, None, is_some, map, length, All, bytes_eq, if◌then◌else◌}
use Rattle.std.specs.List.{list_any, list_all}
use Rattle.std.specs.Cmp.Lexicographic.{pointwise}
use Rattle.mau_poset.specs.Order.{Hierarchy, kind_of, kinds}
use Rattle.mau_signature.specs.declared.attributes.Attrs.{Attrs}
use Rattle.mau_signature.specs.declared.attributes.IdSpec.{IdSpec}
use Rattle.mau_signature.specs.declared.attributes.IdSpec.TheVariants.{Const, Num}
use Rattle.mau_signature.specs.declared.decl.Decl.{Decl}
use Rattle.mau_signature.specs.declared.fault.SigFault.{SigFault}
use Rattle.mau_signature.specs.declared.fault.SigFault.TheVariants.{KindMismatch, AttrConflict, BadStrat, IdNotConstant, Arity}
use Rattle.mau_signature.specs.declared.TheConstants.{MAX_ARITY}
use Rattle.mau_signature.specs.Form.{holes}
use Rattle.mau_signature.specs.Names.{Operator, operator_of, constant_of, same_operator, operators_of, declarations_of}
use Rattle.mau_signature.specs.Attributes.{unite, united, has_two_values, names_argument, is_strategy, names_both_or_none}

-- ---- what a signature is made from

pub record Given : Type 0 where
  pub hierarchy : Hierarchy
  pub declarations : List Decl
  -- the sort of 0 and the sort of all other numerals
  pub numerals : Option (ℕ × ℕ)

abbrev pub given : Hierarchy → List Decl → Option (ℕ × ℕ) → Given
given h ds numerals = record { hierarchy = h; declarations = ds; numerals = numerals }

-- a is the number of a sort or of a kind
abbrev pub IsSort : Hierarchy → ℕ → Type 0
IsSort h a = a < h.sorts + kinds h

-- a declaration names only sorts and kinds that are there
pub record HasSorts (h : Hierarchy) (d : Decl) : Type 0 where
  pub arguments : All (IsSort h) d.args
  pub result : IsSort h d.result

-- the text of the attribute that makes an operator the successor of the numerals
abbrev pub successor : List ℕ
successor = 115 ∷ 117 ∷ 99 ∷ 99 ∷ []

abbrev pub is_text : Option (List ℕ) → List ℕ → Bool
is_text (Some text) wanted = bytes_eq text wanted
is_text None wanted = false

abbrev pub is_successor : Attrs → Bool
is_successor a = is_text a.builtin successor

-- a declaration of the successor has one argument, and its argument and its result are in the kind k
abbrev pub IsSuccessorIn : Hierarchy → ℕ → Decl → Type 0
IsSuccessorIn h k d = is_successor d.attrs ≡ true → (map (kind_of h) d.args ≡ k ∷ []) × (kind_of h d.result ≡ k)

-- there are numerals, with their two sorts in one kind, exactly where the successor is declared
abbrev pub AreNumerals : Hierarchy → List Decl → Option (ℕ × ℕ) → Type 0
AreNumerals h ds None = All (λ d. is_successor d.attrs ≡ false) ds
AreNumerals h ds (Some (zero_sort, other_sort)) =
    IsSort h zero_sort × IsSort h other_sort × (kind_of h zero_sort ≡ kind_of h other_sort)
    × (list_any (λ d. is_successor d.attrs) ds ≡ true) × All (IsSuccessorIn h (kind_of h zero_sort)) ds

-- ---- the faults of a declaration

-- over 16 arguments, or holes that are neither 0 nor the arguments
abbrev pub has_wrong_arity : Decl → Bool
has_wrong_arity d = nat_lt MAX_ARITY (length d.args) || (not (holes d.form == 0) && not (holes d.form == length d.args))

-- one of these declarations has its result in another kind than k
abbrev pub has_other_kind : Hierarchy → List Decl → ℕ → Bool
has_other_kind h ds k = list_any (λ e. not (kind_of h e.result == k)) ds

-- there are two kinds, and they are one
abbrev pub is_pair_of_one : List ℕ → Bool
is_pair_of_one (k ∷ l ∷ []) = k == l
is_pair_of_one _ = false

-- there are two arguments, and they and the result are in one kind
abbrev pub is_in_one_kind : Hierarchy → Decl → Bool
is_in_one_kind h d = pointwise nat_eq (map (kind_of h) d.args) (kind_of h d.result ∷ kind_of h d.result ∷ [])

-- the kinds suit the axioms: an associative operator, and one with an identity, has two arguments in the kind of its result, and
-- a commutative one has two arguments in one kind
abbrev pub kinds_suit : Hierarchy → Attrs → Decl → Bool
kinds_suit h a d =
    (if a.assoc then is_in_one_kind h d else true)
    && ((if a.comm then is_pair_of_one (map (kind_of h) d.args) else true)
    && (if is_some a.id then is_in_one_kind h d else true))

-- the list names arguments alone, and both or none of an associative operator
abbrev pub frozen_suits : Bool → ℕ → Option (List ℕ) → Bool
frozen_suits assoc n None = true
frozen_suits assoc n (Some xs) = list_all (names_argument n) xs && (if assoc then names_both_or_none xs else true)

-- there are as many as arguments
abbrev pub gather_suits : {A : Type 0} → ℕ → Option (List A) → Bool
gather_suits n None = true
gather_suits n (Some gs) = length gs == n

-- the united attributes a suit the declaration d
abbrev pub attributes_suit : Hierarchy → Attrs → Decl → Bool
attributes_suit h a d =
    kinds_suit h a d && (gather_suits (length d.args) a.gather && frozen_suits a.assoc (length d.args) a.frozen)

-- a strategy is a list of distinct arguments and a last 0, and names both or none of an associative operator's
abbrev pub strategy_suits : Bool → ℕ → Option (List ℕ) → Bool
strategy_suits assoc n None = true
strategy_suits assoc n (Some xs) = is_strategy n xs && (if assoc then names_both_or_none xs else true)

-- k is the kind of the numerals
abbrev pub is_kind_of_numerals : Hierarchy → Option (ℕ × ℕ) → ℕ → Bool
is_kind_of_numerals h None k = false
is_kind_of_numerals h (Some p) k = kind_of h p.0 == k

-- an identity is a constant that is declared in the kind k, before or after, or a numeral where k is the kind of the numerals
abbrev pub is_identity_in : Hierarchy → List Operator → Option (ℕ × ℕ) → ℕ → Option IdSpec → Bool
is_identity_in h fs numerals k None = true
is_identity_in h fs numerals k (Some (Const form)) = list_any (same_operator (constant_of form k)) fs
is_identity_in h fs numerals k (Some (Num n)) = is_kind_of_numerals h numerals k

-- ---- the faults of a declaration d, where `earlier` are the declarations of its operator before it

-- the attributes that are united up to d; it is judged with these
abbrev pub attributes_up_to : List Decl → Decl → Attrs
attributes_up_to earlier d = unite (united earlier) d.attrs

-- an earlier declaration of the operator has its result in another kind
abbrev pub mismatches_kind : Given → List Decl → Decl → Bool
mismatches_kind g earlier d = has_other_kind g.hierarchy earlier (kind_of g.hierarchy d.result)

-- two values of one attribute, or one that does not suit the declaration
abbrev pub conflicts : Given → List Decl → Decl → Bool
conflicts g earlier d = has_two_values (united earlier) d.attrs || not (attributes_suit g.hierarchy (attributes_up_to earlier d) d)

abbrev pub has_bad_strategy : List Decl → Decl → Bool
has_bad_strategy earlier d = let a = attributes_up_to earlier d in not (strategy_suits a.assoc (length d.args) a.strat)

abbrev pub lacks_identity : Given → List Decl → Decl → Bool
lacks_identity g earlier d = not (is_identity_in g.hierarchy (operators_of g.hierarchy g.declarations) g.numerals (kind_of g.hierarchy d.result) (attributes_up_to earlier d).id)

abbrev pub is_at_fault : Given → List Decl → Decl → Bool
is_at_fault g earlier d =
    has_wrong_arity d || (mismatches_kind g earlier d || (conflicts g earlier d || (has_bad_strategy earlier d || lacks_identity g earlier d)))

-- ---- the cause of each fault, in the order in which they are tried

abbrev pub HasWrongArity : List Decl → Decl → Type 0
HasWrongArity earlier d = has_wrong_arity d ≡ true

abbrev pub MismatchesKind : Given → List Decl → Decl → Type 0
MismatchesKind g earlier d = (has_wrong_arity d ≡ false) × (mismatches_kind g earlier d ≡ true)

abbrev pub Conflicts : Given → List Decl → Decl → Type 0
Conflicts g earlier d = (has_wrong_arity d ≡ false) × (mismatches_kind g earlier d ≡ false) × (conflicts g earlier d ≡ true)

abbrev pub HasBadStrategy : Given → List Decl → Decl → Type 0
HasBadStrategy g earlier d =
    (has_wrong_arity d ≡ false) × (mismatches_kind g earlier d ≡ false) × (conflicts g earlier d ≡ false) × (has_bad_strategy earlier d ≡ true)

abbrev pub LacksIdentity : Given → List Decl → Decl → Type 0
LacksIdentity g earlier d =
    (has_wrong_arity d ≡ false) × (mismatches_kind g earlier d ≡ false) × (conflicts g earlier d ≡ false) × (has_bad_strategy earlier d ≡ false)
    × (lacks_identity g earlier d ≡ true)

-- ---- the first declaration at fault

-- no declaration of a list is at fault: it is empty, or one without a fault stands after such a list
pub data IsFaultless (g : Given) : List Decl → Type 0 where
  no_declaration : IsFaultless g []
  one_more : {ds : List Decl} (d : Decl) → IsFaultless g ds → is_at_fault g (declarations_of g.hierarchy ds (operator_of g.hierarchy d)) d ≡ false → IsFaultless g (ds ++ d ∷ [])

-- the declaration with the number i, counted from 0, is the first one at fault, and has this cause
pub record IsFirstAtFault (g : Given) (Cause : List Decl → Decl → Type 0) (i : ℕ) : Type 0 where
  pub before : List Decl
  pub declaration : Decl
  pub after : List Decl
  pub declared : g.declarations ≡ before ++ declaration ∷ after
  pub number : length before ≡ i
  pub faultless : IsFaultless g before
  pub cause : Cause (declarations_of g.hierarchy before (operator_of g.hierarchy declaration)) declaration

-- ---- a fact for the declaration that a refusal names

abbrev pub IfArity : (ℕ → Type 0) → SigFault → Type 0
IfArity P (Arity i) = P i
IfArity P _ = Unit {0}

abbrev pub IfKindMismatch : (ℕ → Type 0) → SigFault → Type 0
IfKindMismatch P (KindMismatch i) = P i
IfKindMismatch P _ = Unit {0}

abbrev pub IfAttrConflict : (ℕ → Type 0) → SigFault → Type 0
IfAttrConflict P (AttrConflict i) = P i
IfAttrConflict P _ = Unit {0}

abbrev pub IfBadStrat : (ℕ → Type 0) → SigFault → Type 0
IfBadStrat P (BadStrat i) = P i
IfBadStrat P _ = Unit {0}

abbrev pub IfIdNotConstant : (ℕ → Type 0) → SigFault → Type 0
IfIdNotConstant P (IdNotConstant i) = P i
IfIdNotConstant P _ = Unit {0}
