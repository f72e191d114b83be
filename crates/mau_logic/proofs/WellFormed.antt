-- What the proofs of told runs use of lawful programs.
use Rattle.std.specs.Prelude.{◌≡◌, ℕ, List, [], ◌∷◌, Some}
use Rattle.mau_poset.specs.Order.{kind_of}
use Rattle.mau_terms.specs.Tree.{Tree}
use Rattle.mau_terms.specs.Bare.{IsBare, IsBareIn, IsLawful}
use Rattle.mau_terms.specs.View.{tree_of}
use Rattle.mau_signature.specs.Signature.{SignatureOf, terms_over}
use Rattle.mau_sigcheck.specs.Built.{IsBuiltAndAccepted}
use Rattle.mau_program.specs.declared.statements.Fragment.{Fragment}
use Rattle.mau_program.specs.declared.statements.Fragment.TheVariants.{Equal, Match, Sort, Reach}
use Rattle.mau_program.specs.declared.statements.Equation.{Equation}
use Rattle.mau_program.specs.declared.statements.Rule.{Rule}
use Rattle.mau_program.specs.declared.statements.Membership.{Membership}
use Rattle.mau_program.specs.declared.program.Program.{Program}
use Rattle.mau_api.specs.Variables.{numbered}
use Rattle.mau_built_ins.specs.Declared.{AreDeclaredAsBuilt}

-- ---- statements

-- both are bare terms of one kind
abbrev pub AreOfOneKind : SignatureOf → Tree → Tree → Type 0
AreOfOneKind s t u = (k : ℕ) × IsBareIn (terms_over s) t k × IsBareIn (terms_over s) u k

-- the terms of some fragments are bare
abbrev pub AreBareFragments : SignatureOf → List Fragment → Type 0
AreBareFragments s [] = Unit {0}
AreBareFragments s (Equal t u ∷ cs) = IsBare (terms_over s) (tree_of t) × IsBare (terms_over s) (tree_of u) × AreBareFragments s cs
AreBareFragments s (Match q u ∷ cs) = IsBare (terms_over s) (tree_of q) × IsBare (terms_over s) (tree_of u) × AreBareFragments s cs
AreBareFragments s (Sort t r ∷ cs) = IsBare (terms_over s) (tree_of t) × AreBareFragments s cs
AreBareFragments s (Reach t u ∷ cs) = IsBare (terms_over s) (tree_of t) × IsBare (terms_over s) (tree_of u) × AreBareFragments s cs

-- The signature was built and accepted, and its operators have the kinds that their axioms and built-ins ask for. The two sides of each statement
-- are bare terms of one kind, the head of a membership is of the kind of its sort, and the terms of conditions are bare.
pub record IsWellFormed (p : Program) : Type 0 where
  pub signature : IsLawful (terms_over p.sig)
  pub accepted : IsBuiltAndAccepted p.sig
  pub built_ins : AreDeclaredAsBuilt p.sig
  pub equations : (n : ℕ) (e : Equation) → numbered p.equations n ≡ Some e → AreOfOneKind p.sig (tree_of e.left) (tree_of e.right) × AreBareFragments p.sig e.cond
  pub rules : (n : ℕ) (q : Rule) → numbered p.rules n ≡ Some q → AreOfOneKind p.sig (tree_of q.left) (tree_of q.right) × AreBareFragments p.sig q.cond
  pub memberships : (n : ℕ) (m : Membership) → numbered p.memberships n ≡ Some m → IsBareIn (terms_over p.sig) (tree_of m.left) (kind_of p.sig.hierarchy m.sort)
