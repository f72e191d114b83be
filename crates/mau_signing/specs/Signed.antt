-- The signature of declarations over names of sorts, or what is at fault in the sorts, declarations or operators, with the text of the
-- refusal.
use Rattle.std.specs.Prelude.{◌≡◌, ℕ, ◌==◌, nat_lt, List, [], ◌∷◌, ◌++◌, Bool, true, false, ◌||◌, Option, Some, None, Result, Ok, Err, codes, decimal, if◌then◌else◌, slice_get}
use Rattle.std.specs.Option.{option_map_or}
use Rattle.mau_poset.specs.Order.{Hierarchy, IsPoset, IsLeastCycle}
use Rattle.mau_signature.specs.declared.form.Piece.{Piece}
use Rattle.mau_signature.specs.declared.decl.Decl.{Decl}
use Rattle.mau_signature.specs.declared.fault.SigFault.{SigFault}
use Rattle.mau_signature.specs.declared.fault.SigFault.TheVariants.{KindMismatch, AttrConflict, BadStrat, IdNotConstant, Arity, NoMemory as NoMemoryOfBuild}
use Rattle.mau_signature.specs.Faults.{Given, IsFaultless}
use Rattle.mau_signature.specs.FaultOf.{IsFaultOf}
use Rattle.mau_signature.specs.Signature.{SignatureOf, signature_of, form_of, declarations_at, terms_over}
use Rattle.mau_sigcheck.specs.declared.fault.CheckFault.{CheckFault}
use Rattle.mau_sigcheck.specs.declared.fault.CheckFault.TheVariants.{TooManyTuples, NotPreregular, NotAssociativeSorts, IdentityLowersSort, NoMemory as NoMemoryOfCheck}
use Rattle.mau_sigcheck.specs.Accepted.{IsAccepted, IsWithinLimit}
use Rattle.mau_sigcheck.specs.Faults.{IsFirstFaultOf}
use Rattle.mau_declare.specs.Flattened.{name_at, sort_name}
use Rattle.mau_declare.specs.Forms.{form_text}

-- ---- texts of refusals

-- the form of the operator with a number; a number that is none has none
abbrev pub operator_form : SignatureOf → ℕ → List Piece
operator_form s n = if (terms_over s).has_operator n then form_of (declarations_at s n) else []

abbrev pub operator_text : SignatureOf → ℕ → List ℕ
operator_text s n = form_text (operator_form s n)

abbrev pub cycle_text : List (List ℕ) → ℕ → ℕ → List ℕ
cycle_text names a b = codes "Cycle " ++ name_at names a ++ codes " " ++ name_at names b

-- the operator that the declaration with the number i declares, counted from 0
abbrev pub declared_text : List Decl → ℕ → List ℕ
declared_text ds i = option_map_or (λ d. form_text d.form) (slice_get ds i) []

-- a fault of a declaration: its name, and the operator
abbrev pub declaration_text : List Decl → SigFault → List ℕ
declaration_text ds (KindMismatch i) = codes "KindMismatch " ++ declared_text ds i
declaration_text ds (AttrConflict i) = codes "AttrConflict " ++ declared_text ds i
declaration_text ds (BadStrat i) = codes "BadStrat " ++ declared_text ds i
declaration_text ds (IdNotConstant i) = codes "IdNotConstant " ++ declared_text ds i
declaration_text ds (Arity i) = codes "Arity " ++ declared_text ds i
declaration_text ds NoMemoryOfBuild = []

-- sorts and kinds, each behind a space
abbrev pub sorts_text : List (List ℕ) → Hierarchy → List ℕ → List ℕ
sorts_text names h [] = []
sorts_text names h (a ∷ sorts) = codes " " ++ sort_name names h a ++ sorts_text names h sorts

-- a fault of an operator: its name, the operator, and the sorts at which it comes
abbrev pub operator_fault_text : List (List ℕ) → SignatureOf → CheckFault → List ℕ
operator_fault_text names s (TooManyTuples op n) = codes "TooManyTuples " ++ operator_text s op.0 ++ codes " " ++ decimal n
operator_fault_text names s (NotPreregular op tuple) = codes "NotPreregular " ++ operator_text s op.0 ++ sorts_text names s.hierarchy tuple
operator_fault_text names s (NotAssociativeSorts op triple) = codes "NotAssociativeSorts " ++ operator_text s op.0 ++ sorts_text names s.hierarchy triple
operator_fault_text names s (IdentityLowersSort op sort) = codes "IdentityLowersSort " ++ operator_text s op.0 ++ sorts_text names s.hierarchy (sort ∷ [])
operator_fault_text names s NoMemoryOfCheck = []

-- ---- the fault of declarations, where the one with the number c, if there is one, is the first whose list of attributes gives one
-- attribute two values

-- the fault stands before such a list, or comes before it in the same declaration; want of memory comes before all
abbrev pub stands_before : ℕ → SigFault → Bool
stands_before c (Arity i) = nat_lt i c || i == c
stands_before c (KindMismatch i) = nat_lt i c || i == c
stands_before c (AttrConflict i) = nat_lt i c || i == c
stands_before c (BadStrat i) = nat_lt i c
stands_before c (IdNotConstant i) = nat_lt i c
stands_before c NoMemoryOfBuild = true

abbrev pub comes_first : Option ℕ → SigFault → Bool
comes_first None f = true
comes_first (Some c) f = stands_before c f

-- the first fault of the first declaration at fault
pub data IsDeclarationFault (g : Given) (c : Option ℕ) : SigFault → Type 0 where
  declared_wrong : (f : SigFault) → IsFaultOf g f → comes_first c f ≡ true → IsDeclarationFault g c f
  two_values_before : (i : ℕ) (f : SigFault) → c ≡ Some i → IsFaultOf g f → comes_first c f ≡ false → IsDeclarationFault g c (AttrConflict i)
  two_values_alone : (i : ℕ) → c ≡ Some i → IsFaultless g g.declarations → IsDeclarationFault g c (AttrConflict i)

-- ---- signatures

abbrev pub signature_over : Given → SignatureOf
signature_over g = signature_of g.hierarchy g.declarations g.numerals

-- the signature, or the first fault in this order: sorts on a cycle, a declaration at fault, an operator that is not accepted
pub data SignatureRead (names : List (List ℕ)) (g : Given) (c : Option ℕ) : Result SignatureOf (List ℕ) → Type 0 where
  on_cycle : (a b : ℕ) → IsLeastCycle g.hierarchy.pairs a b → SignatureRead names g c (Err (cycle_text names a b))
  declaration_at_fault : (f : SigFault) → IsPoset g.hierarchy → IsDeclarationFault g c f
      → SignatureRead names g c (Err (declaration_text g.declarations f))
  operator_at_fault : (f : CheckFault) → IsPoset g.hierarchy → IsFaultless g g.declarations → c ≡ None → IsFirstFaultOf (signature_over g) f
      → SignatureRead names g c (Err (operator_fault_text names (signature_over g) f))
  signature_read : IsPoset g.hierarchy → IsFaultless g g.declarations → c ≡ None → IsAccepted (signature_over g) → IsWithinLimit (signature_over g)
      → SignatureRead names g c (Ok (signature_over g))
