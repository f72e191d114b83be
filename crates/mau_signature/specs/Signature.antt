-- Signatures: what is known of each operator, and how terms see it.
use Rattle.std.specs.Prelude.{◌≡◌, ℕ, ◌+◌, ◌-◌, ◌<◌, ◌≤◌, nat_lt, nat_le, List, [], ◌∷◌, ◌⊎◌, true, ◌&&◌, Option, Some, None, map, length, get_or, Contains}
use Rattle.std.specs.Option.{option_map}
use Rattle.mau_poset.specs.Order.{Hierarchy, kind_of, kinds, IsAtOrBelow}
use Rattle.mau_terms.specs.declared.ids.OpId.{OpId}
use Rattle.mau_terms.specs.declared.theory.Identity.{Identity}
use Rattle.mau_terms.specs.declared.theory.Identity.TheVariants.{Const as Constant, Num as Numeral}
use Rattle.mau_terms.specs.declared.theory.Theory.{Theory}
use Rattle.mau_terms.specs.Bare.{TermSignature}
use Rattle.mau_signature.specs.declared.form.Piece.{Piece}
use Rattle.mau_signature.specs.declared.attributes.Attrs.{Attrs}
use Rattle.mau_signature.specs.declared.attributes.IdSpec.{IdSpec}
use Rattle.mau_signature.specs.declared.attributes.IdSpec.TheVariants.{Const, Num}
use Rattle.mau_signature.specs.declared.decl.Decl.{Decl}
use Rattle.mau_signature.specs.Names.{Operator, operators_of, constant_of, place_of, declarations_of}
use Rattle.mau_signature.specs.Attributes.{no_attributes, with_united, strategy_or_all}
use Rattle.mau_signature.specs.Faults.{is_successor}

-- What a signature holds. Its operators are counted from 1, in the order of these lists: what tells each apart, and its
-- declarations in order, each with the united attributes.
pub record SignatureOf : Type 0 where
  pub hierarchy : Hierarchy
  pub names : List Operator
  pub declarations : List (List Decl)
  pub numerals : Option (ℕ × ℕ)

-- the signature of some declarations
abbrev pub signature_of : Hierarchy → List Decl → Option (ℕ × ℕ) → SignatureOf
signature_of h ds numerals = record {
  hierarchy = h;
  names = operators_of h ds;
  declarations = map (λ f. with_united (declarations_of h ds f)) (operators_of h ds);
  numerals = numerals;
}

-- ---- an operator by its declarations, which share their form, their attributes, and the kinds of arguments and results

abbrev pub form_of : List Decl → List Piece
form_of [] = []
form_of (d ∷ ds) = d.form

abbrev pub arguments_of : List Decl → List ℕ
arguments_of [] = []
arguments_of (d ∷ ds) = d.args

abbrev pub result_of : List Decl → ℕ
result_of [] = 0
result_of (d ∷ ds) = d.result

abbrev pub attributes_of : List Decl → Attrs
attributes_of [] = no_attributes
attributes_of (d ∷ ds) = d.attrs

-- d has the form, the attributes, and the kinds of arguments and result that the first of these declarations has
pub record IsAlike (h : Hierarchy) (ds : List Decl) (d : Decl) : Type 0 where
  pub form : d.form ≡ form_of ds
  pub arguments : map (kind_of h) d.args ≡ map (kind_of h) (arguments_of ds)
  pub result : kind_of h d.result ≡ kind_of h (result_of ds)
  pub attributes : d.attrs ≡ attributes_of ds

-- the number of an operator, if it is one of these
abbrev pub number_of : List Operator → Operator → Option OpId
number_of fs f = option_map (λ i. record { 0 = i + 1 }) (place_of fs f)

-- the operator at a place that is counted from 0, as an identity
abbrev pub constant_at : ℕ → Identity
constant_at i = Constant (record { 0 = i + 1 })

-- the identity in the kind k: the constant of that form, or a numeral
abbrev pub identity_in : List Operator → ℕ → Option IdSpec → Option Identity
identity_in fs k None = None
identity_in fs k (Some (Const form)) = option_map constant_at (place_of fs (constant_of form k))
identity_in fs k (Some (Num n)) = Some (Numeral n)

-- the axioms of an operator
abbrev pub theory_of : Hierarchy → List Operator → List Decl → Theory
theory_of h fs ds = record {
  assoc = (attributes_of ds).assoc;
  comm = (attributes_of ds).comm;
  id = identity_in fs (kind_of h (result_of ds)) (attributes_of ds).id;
  succ = is_successor (attributes_of ds);
}

-- the order in which the arguments of an operator are evaluated, and then 0
abbrev pub strategy_of : List Decl → List ℕ
strategy_of ds = strategy_or_all (length (arguments_of ds)) (attributes_of ds).strat

-- ---- operators by their numbers

-- n is the number of an operator
abbrev pub IsOperator : SignatureOf → ℕ → Type 0
IsOperator s n = (0 < n) × (n ≤ length s.declarations)

-- the declarations of the operator n
abbrev pub declarations_at : SignatureOf → ℕ → List Decl
declarations_at s n = get_or s.declarations (n - 1) []

abbrev pub theory_at : SignatureOf → ℕ → Theory
theory_at s n = theory_of s.hierarchy s.names (declarations_at s n)

-- ---- terms over a signature

-- what terms and their equality need to know of a signature
abbrev pub terms_over : SignatureOf → TermSignature
terms_over s = record {
  theory = theory_at s;
  has_operator = λ n. nat_lt 0 n && nat_le n (length s.declarations);
  arguments = λ n. map (kind_of s.hierarchy) (arguments_of (declarations_at s n));
  result = λ n. kind_of s.hierarchy (result_of (declarations_at s n));
  has_sort = λ a. nat_lt a (s.hierarchy.sorts + kinds s.hierarchy);
  kind_of = kind_of s.hierarchy;
  numerals = option_map (λ p. kind_of s.hierarchy p.0) s.numerals;
}

-- ---- declared results

-- as many as the arguments, each at or below the one of its place
abbrev pub AreAtOrBelow : Hierarchy → List ℕ → List ℕ → Type 0
AreAtOrBelow h [] [] = Unit {0}
AreAtOrBelow h [] (b ∷ ys) = ⊥
AreAtOrBelow h (a ∷ xs) [] = ⊥
AreAtOrBelow h (a ∷ xs) (b ∷ ys) = IsAtOrBelow h a b × AreAtOrBelow h xs ys

-- two in the other order
abbrev pub swapped : List ℕ → List ℕ
swapped (a ∷ b ∷ []) = b ∷ a ∷ []
swapped xs = xs

-- a declaration applies to a tuple of sorts: they are at or below its arguments, under comm also with the arguments swapped
abbrev pub Applies : Hierarchy → List ℕ → Decl → Type 0
Applies h sorts d = AreAtOrBelow h sorts d.args ⊎ ((d.attrs.comm ≡ true) × AreAtOrBelow h sorts (swapped d.args))

-- r is the result of a declaration that applies
pub record IsResult (h : Hierarchy) (ds : List Decl) (sorts : List ℕ) (r : ℕ) : Type 0 where
  pub declaration : Decl
  pub declared : Contains ds declaration
  pub applies : Applies h sorts declaration
  pub result : declaration.result ≡ r

-- r is the least result of the declarations that apply
pub record IsLeastResult (h : Hierarchy) (ds : List Decl) (sorts : List ℕ) (r : ℕ) : Type 0 where
  pub one : IsResult h ds sorts r
  pub least : (q : ℕ) → IsResult h ds sorts q → IsAtOrBelow h r q

-- no declaration applies
abbrev pub AppliesNone : Hierarchy → List Decl → List ℕ → Type 0
AppliesNone h ds sorts = (d : Decl) → Contains ds d → ¬ Applies h sorts d

-- the declarations that apply have a least result, or none applies
abbrev pub HasLeastResult : Hierarchy → List Decl → List ℕ → Type 0
HasLeastResult h ds sorts = ((r : ℕ) × IsLeastResult h ds sorts r) ⊎ AppliesNone h ds sorts

-- r is the declared result: the least one, or the kind of the result where no declaration applies
abbrev pub IsDeclaredResult : Hierarchy → List Decl → List ℕ → ℕ → Type 0
IsDeclaredResult h ds sorts r = IsLeastResult h ds sorts r ⊎ (AppliesNone h ds sorts × (kind_of h (result_of ds) ≡ r))
