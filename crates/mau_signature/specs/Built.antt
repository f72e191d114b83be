-- What a signature keeps with the declarations of its operators.
use Rattle.std.specs.Prelude.{◌≡◌, ◌≢◌, ℕ, ◌≤◌, List, [], Option, Some, All, length, map}
use Rattle.mau_poset.specs.Order.{Hierarchy, kind_of}
use Rattle.mau_terms.specs.Norm.{greatest_numeral}
use Rattle.mau_terms.specs.Bare.{IsLawful}
use Rattle.mau_terms.specs.declared.theory.Identity.{Identity}
use Rattle.mau_terms.specs.declared.theory.Identity.TheVariants.{Num as Numeral}
use Rattle.mau_signature.specs.declared.TheConstants.{MAX_ARITY, MAX_DECLARATIONS}
use Rattle.mau_signature.specs.declared.decl.Decl.{Decl}
use Rattle.mau_signature.specs.declared.operator.Entry.{Entry}
use Rattle.mau_signature.specs.Names.{Operator}
use Rattle.mau_signature.specs.Faults.{HasSorts, IsSort}
use Rattle.mau_signature.specs.Signature.{theory_of, strategy_of, IsAlike, terms_over}
use Rattle.mau_signature.specs.Made.{IsSignature}

-- the declarations of an entry
abbrev pub declarations_in : Entry → List Decl
declarations_in e = e.decls.items

-- an identity that is a numeral has at most 128 bits
abbrev pub IsWithinNumerals : Option Identity → Type 0
IsWithinNumerals id = (n : ℕ) → id ≡ Some (Numeral n) → n ≤ greatest_numeral

-- the entry has the axioms and the strategy of its declarations, and there is one at least
pub record IsEntry (h : Hierarchy) (fs : List Operator) (e : Entry) : Type 0 where
  pub theory : e.theory ≡ theory_of h fs e.decls.items
  pub strategy : e.strategy.items ≡ strategy_of e.decls.items
  pub some : e.decls.items ≢ []
  pub sorts : All (HasSorts h) e.decls.items
  pub numeral : IsWithinNumerals e.theory.id

-- the sort of 0, and with it the kind of the numerals, is there
abbrev pub HasZero : Hierarchy → Option (ℕ × ℕ) → Type 0
HasZero h numerals = (p : ℕ × ℕ) → numerals ≡ Some p → IsSort h p.0

-- the sort of all numerals but 0 is there, in the same kind
abbrev pub HasOthers : Hierarchy → Option (ℕ × ℕ) → Type 0
HasOthers h numerals = (p : ℕ × ℕ) → numerals ≡ Some p → IsSort h p.1 × (kind_of h p.0 ≡ kind_of h p.1)

-- the declarations of an entry are alike, and have 16 arguments at most
pub record AreAlike (h : Hierarchy) (e : Entry) : Type 0 where
  pub alike : All (IsAlike h e.decls.items) e.decls.items
  pub arity : All (λ d. length d.args ≤ MAX_ARITY) e.decls.items

pub record IsBuilt (h : Hierarchy) (fs : List Operator) (zeros : Option (ℕ × ℕ)) (es : List Entry) : Type 0 where
  pub few : length es ≤ MAX_DECLARATIONS
  pub entries : All (IsEntry h fs) es
  pub alike : All (AreAlike h) es
  pub numerals : HasZero h zeros
  pub others : HasOthers h zeros
  pub made : IsSignature (record { hierarchy = h; names = fs; declarations = map declarations_in es; numerals = zeros })
  pub lawful : IsLawful (terms_over (record { hierarchy = h; names = fs; declarations = map declarations_in es; numerals = zeros }))
