-- Signatures that were built and then accepted.
use Rattle.std.specs.Prelude.{◌≡◌, ◌≢◌, ℕ, [], All, Option, Some}
use Rattle.mau_poset.specs.Order.{Hierarchy, IsPoset, kind_of}
use Rattle.mau_signature.specs.Faults.{HasSorts, IsSort}
use Rattle.mau_signature.specs.Signature.{SignatureOf, IsOperator, IsAlike, declarations_at}
use Rattle.mau_sigcheck.specs.Accepted.{IsAccepted}

-- the numerals have two sorts in one kind
abbrev pub AreInOneKind : Hierarchy → Option (ℕ × ℕ) → Type 0
AreInOneKind h numerals = (p : ℕ × ℕ) → numerals ≡ Some p → IsSort h p.0 × IsSort h p.1 × (kind_of h p.0 ≡ kind_of h p.1)

-- the operator f has declarations, over the sorts that are there, and all are alike
pub record IsWellDeclared (s : SignatureOf) (f : ℕ) : Type 0 where
  pub some : declarations_at s f ≢ []
  pub sorts : All (HasSorts s.hierarchy) (declarations_at s f)
  pub alike : All (IsAlike s.hierarchy (declarations_at s f)) (declarations_at s f)

-- what holds of each signature that was built and then accepted
pub record IsBuiltAndAccepted (s : SignatureOf) : Type 0 where
  pub poset : IsPoset s.hierarchy
  pub accepted : IsAccepted s
  pub declared : (f : ℕ) → IsOperator s f → IsWellDeclared s f
  pub numerals : AreInOneKind s.hierarchy s.numerals
