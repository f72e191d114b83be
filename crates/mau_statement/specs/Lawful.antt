-- What holds of each statement that is read over a signature s.
use Rattle.std.specs.Prelude.{◌≡◌, ℕ, List, All, false, None}
use Rattle.mau_terms.specs.View.{tree_of}
use Rattle.mau_parse.specs.Terms.{AreGiven}
use Rattle.mau_signature.specs.Signature.{SignatureOf, theory_at}
use Rattle.mau_program.specs.declared.statements.Fragment.{Fragment}
use Rattle.mau_program.specs.declared.statements.Fragment.TheVariants.{Equal, Match, Sort, Reach}
use Rattle.mau_program.specs.LawfulStatements.{HasLawfulSides, HasLawfulHead, IsLawfulEquation, IsLawfulMembership, IsLawfulRule}
use Rattle.mau_statement.specs.declared.statement.Statement.{Statement}
use Rattle.mau_statement.specs.declared.statement.Statement.TheVariants.{Equation, Membership, Rule}
use Rattle.mau_statement.specs.Statements.{head_fault, has_unbound}

-- it is lawful as one of its kind
abbrev pub IsLawfulStatement : SignatureOf → Statement → Type 0
IsLawfulStatement s (Equation e) = IsLawfulEquation s e
IsLawfulStatement s (Membership m) = IsLawfulMembership s m
IsLawfulStatement s (Rule r) = IsLawfulRule s r

-- ---- what the code knows of a statement before it is judged, and of one that has no fault

abbrev pub HasLawfulParts : SignatureOf → Statement → Type 0
HasLawfulParts s (Equation e) = HasLawfulSides s e.left e.right e.cond
HasLawfulParts s (Membership m) = HasLawfulHead s m
HasLawfulParts s (Rule r) = HasLawfulSides s r.left r.right r.cond

-- the variables of the terms of a fragment are among these
abbrev pub HasVariablesOf : List (List ℕ × ℕ) → Fragment → Type 0
HasVariablesOf ns (Equal t u) = AreGiven ns (tree_of t) × AreGiven ns (tree_of u)
HasVariablesOf ns (Match p u) = AreGiven ns (tree_of p) × AreGiven ns (tree_of u)
HasVariablesOf ns (Sort t sort) = AreGiven ns (tree_of t)
HasVariablesOf ns (Reach t u) = AreGiven ns (tree_of t) × AreGiven ns (tree_of u)

-- those of all its terms are those that the statement lists
abbrev pub HasOwnVariables : Statement → Type 0
HasOwnVariables (Equation e) = AreGiven e.vars (tree_of e.left) × AreGiven e.vars (tree_of e.right) × All (HasVariablesOf e.vars) e.cond
HasOwnVariables (Membership m) = AreGiven m.vars (tree_of m.left) × All (HasVariablesOf m.vars) m.cond
HasOwnVariables (Rule r) = AreGiven r.vars (tree_of r.left) × AreGiven r.vars (tree_of r.right) × All (HasVariablesOf r.vars) r.cond

-- its left side or head may be one, and where it is executable, its variables are bound
pub record HasNoFault (s : SignatureOf) (statement : Statement) : Type 0 where
  pub parts : HasLawfulParts s statement
  pub own : HasOwnVariables statement
  pub head : head_fault (theory_at s) statement ≡ None
  pub bound : has_unbound statement ≡ false
