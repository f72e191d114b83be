-- The variables of a pattern with their places, as the code has them.
use Rattle.std.specs.Prelude.{ℕ, List, All, Option, None, Some, IfSome, map, if◌then◌else◌}
use Rattle.std.specs.Option.{option_map}
use Rattle.mau_terms.specs.Subst.{Variable}
use Rattle.mau_terms.specs.View.{variable_of}
use Rattle.mau_terms.specs.declared.ids.VarId.{VarId}
use Rattle.mau_terms.specs.declared.ids.OpId.{OpId}
use Rattle.mau_signature.specs.Signature.{SignatureOf, IsOperator, theory_at}
use Rattle.mau_listing.specs.declared.places.Place.{Place}

-- an operator as a number
abbrev pub operator_number : Option OpId → Option ℕ
operator_number o = option_map (λ op. op.0) o

-- the operators of some places
abbrev pub under_all : List Place → List (Option ℕ)
under_all ps = map (λ p. operator_number p.under) ps

-- the variables of some places
abbrev pub variables_in : List Place → List VarId
variables_in ps = map (λ p. p.variable) ps

-- both
abbrev pub places_in : List Place → List (Variable × Option ℕ)
places_in ps = map {B = Variable × Option ℕ} (λ p. (variable_of p.variable, operator_number p.under)) ps

-- the number of an operator, if it is associative
abbrev pub assoc_or_none : SignatureOf → ℕ → Option ℕ
assoc_or_none s f = if (theory_at s f).assoc then Some f else None

-- each is under an operator of the signature, or under none
abbrev pub AreUnderOperators : SignatureOf → List Place → Type 0
AreUnderOperators s ps = All (λ p. IfSome p.under (λ op. IsOperator s op.0)) ps
