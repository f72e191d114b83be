-- What evaluation over a store asks of a program: its signature is accepted, the sides of its equations are bare terms of one kind, and the heads of its
-- memberships are bare terms of the kinds of their sorts, with operators that may be those of heads.
use Rattle.std.specs.Prelude.{ℕ, map}
use Rattle.mau_terms.specs.Norm.{norm}
use Rattle.mau_terms.specs.Bare.{TermSignature, IsBareIn, IsLawful}
use Rattle.mau_terms.specs.Finite.{IsIn}
use Rattle.mau_poset.specs.Order.{kind_of}
use Rattle.mau_signature.specs.Signature.{SignatureOf, theory_at, terms_over}
use Rattle.mau_sigcheck.specs.Built.{IsBuiltAndAccepted}
use Rattle.mau_program.specs.declared.program.Program as Typed
use Rattle.mau_evaluation.specs.Program.{Equation, Membership}
use Rattle.mau_evaluation.specs.HasSort.{IsHead}
use Rattle.mau_api.specs.Programs.{equation_of, membership_of}

-- both sides are bare terms of one kind
pub record HasBareSides (s : TermSignature) (e : Equation) : Type 0 where
  pub kind : ℕ
  pub left : IsBareIn s e.left kind
  pub right : IsBareIn s e.right kind

-- the head is a bare term of the sort's kind, and its normal form is an operator over arguments that may be that of a head
pub record HasBareHead (s : SignatureOf) (m : Membership) : Type 0 where
  pub bare : IsBareIn (terms_over s) m.left (kind_of s.hierarchy m.sort)
  pub head : IsHead (theory_at s) (norm (theory_at s) m.left)

pub record IsReducible (p : Typed.Program) : Type 0 where
  pub accepted : IsBuiltAndAccepted p.sig
  pub lawful : IsLawful (terms_over p.sig)
  pub sides : (e : Equation) → IsIn e (map equation_of p.equations) → HasBareSides (terms_over p.sig) e
  pub heads : (m : Membership) → IsIn m (map membership_of p.memberships) → HasBareHead p.sig m
