-- Which declarations are of one operator, and in which order the operators stand.
use Rattle.std.specs.Prelude.{ℕ, List, [], ◌∷◌, ◌++◌, Bool, ◌&&◌, Option, Some, None, nat_eq, if◌then◌else◌, map, filter, fold, position}
use Rattle.std.specs.List.{list_any}
use Rattle.std.specs.Option.{option_eq}
use Rattle.std.specs.Cmp.Lexicographic.{pointwise}
use Rattle.mau_poset.specs.Order.{Hierarchy, kind_of}
use Rattle.mau_signature.specs.declared.form.Piece.{Piece}
use Rattle.mau_signature.specs.declared.decl.Decl.{Decl}
use Rattle.mau_signature.specs.Form.{same_form}

-- What tells operators apart: the form with the kinds of the arguments. Constants of one form are told apart by their kinds.
pub record Operator : Type 0 where
  pub form : List Piece
  pub arguments : List ℕ
  -- the kind of a constant; an operator with arguments has none here
  pub constant : Option ℕ

-- the kind k where there are no arguments
abbrev pub if_constant : List ℕ → ℕ → Option ℕ
if_constant [] k = Some k
if_constant (a ∷ args) k = None

-- the operator of a declaration
abbrev pub operator_of : Hierarchy → Decl → Operator
operator_of h d = record { form = d.form; arguments = map (kind_of h) d.args; constant = if_constant d.args (kind_of h d.result) }

-- the constant with a form in the kind k
abbrev pub constant_of : List Piece → ℕ → Operator
constant_of form k = record { form = form; arguments = []; constant = Some k }

-- the two are one operator
abbrev pub same_operator : Operator → Operator → Bool
same_operator f g = same_form f.form g.form && (pointwise nat_eq f.arguments g.arguments && option_eq nat_eq f.constant g.constant)

-- the operators with f among them: at the end, unless it is there
abbrev pub with_operator : List Operator → Operator → List Operator
with_operator fs f = if list_any (same_operator f) fs then fs else fs ++ f ∷ []

-- the operators of some declarations, in the order of their first declarations
abbrev pub operators_of : Hierarchy → List Decl → List Operator
operators_of h ds = fold (λ fs d. with_operator fs (operator_of h d)) [] ds

-- the place of f among operators, counted from 0
abbrev pub place_of : List Operator → Operator → Option ℕ
place_of fs f = position (same_operator f) fs

-- the declarations of the operator f, in their order
abbrev pub declarations_of : Hierarchy → List Decl → Operator → List Decl
declarations_of h ds f = filter (λ d. same_operator f (operator_of h d)) ds
