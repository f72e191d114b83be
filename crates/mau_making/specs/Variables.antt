-- Variables of statements.
use Rattle.std.specs.Prelude.{List, All, map}
use Rattle.mau_terms.specs.Subst.{Variable}
use Rattle.mau_terms.specs.View.{variable_of}
use Rattle.mau_terms.specs.declared.ids.VarId.{VarId}
use Rattle.mau_signature.specs.Faults.{IsSort}
use Rattle.mau_signature.specs.Signature.{SignatureOf}

abbrev pub variables_in : List VarId → List Variable
variables_in vs = map variable_of vs

-- each has a sort or a kind
abbrev pub AreOfSorts : SignatureOf → List VarId → Type 0
AreOfSorts s vs = All (λ v. IsSort s.hierarchy v.sort) vs
