-- The statements of a module: those of its parts, which may have become unlawful in it, and its own.
use Rattle.std.specs.Prelude.{◌≡◌, ℕ, suc, List, [], ◌∷◌, ◌++◌, All, true, false, Option, Some, None, Result, Ok, Err}
use Rattle.mau_terms.specs.View.{tree_of}
use Rattle.mau_terms.specs.Bare.{IsBare}
use Rattle.mau_signature.specs.Signature.{SignatureOf, theory_at, terms_over}
use Rattle.mau_program.specs.declared.statements.Equation.{Equation as EquationType}
use Rattle.mau_program.specs.declared.statements.Membership.{Membership as MembershipType}
use Rattle.mau_modtext.specs.declared.raw.RawElement.{RawElement}
use Rattle.mau_modtext.specs.declared.raw.RawElement.TheVariants.{Statement as StatementElement}
use Rattle.mau_modtext.specs.declared.raw.RawStatement.{RawStatement}
use Rattle.mau_modtext.specs.Statements.{is_definition}
use Rattle.mau_program.specs.declared.definitions.StratDecl.{StratDecl}
use Rattle.mau_program.specs.declared.definitions.StratDef.{StratDef}
use Rattle.mau_statement.specs.Statements.{StatementRead}
use Rattle.mau_program.specs.Tops.{is_left_side, is_head}
use Rattle.mau_statement.specs.declared.fault.StatementFault.{StatementFault}
use Rattle.mau_statement.specs.declared.fault.StatementFault.TheVariants.{LhsVariable, MembershipHead}
use Rattle.mau_statement.specs.declared.statement.Statement.{Statement}
use Rattle.mau_statement.specs.declared.statement.Statement.TheVariants.{Equation, Membership, Rule}
use Rattle.mau_definition.specs.Definitions.{Around, DefinitionRead}
use Rattle.mau_definition.specs.declared.fault.DefinitionFault.{DefinitionFault}
use Rattle.mau_definition.specs.declared.fault.DefinitionFault.TheVariants.{Statement as OfStatement}
use Rattle.mau_module.specs.declared.statements.Stated.{Stated}
use Rattle.mau_module.specs.declared.statements.Stated.TheVariants.{Statement as AStatement, Definition as ADefinition}
use Rattle.mau_module.specs.Modules.{StatementsOf, no_statements}

-- ---- statements of the parts, by the operators and axioms of this module

-- the left side of an equation is one: a term whose normal form is no variable
pub record IsLeftSide (s : SignatureOf) (e : EquationType) : Type 0 where
  pub bare : IsBare (terms_over s) (tree_of e.left)
  pub no_variable : is_left_side (theory_at s) (tree_of e.left) ≡ true

-- the head of a membership is one: a term whose normal form may be a head
pub record IsHead (s : SignatureOf) (m : MembershipType) : Type 0 where
  pub bare : IsBare (terms_over s) (tree_of m.left)
  pub head : is_head (theory_at s) (tree_of m.left) ≡ true

-- so it is for all of them
pub record AreLawful (s : SignatureOf) (a : StatementsOf) : Type 0 where
  pub left_sides : All (IsLeftSide s) a.equations
  pub heads : All (IsHead s) a.memberships

-- equations are judged before memberships
pub data HasCarriedFault (s : SignatureOf) (a : StatementsOf) : StatementFault → Type 0 where
  no_left_side : ¬ All (IsLeftSide s) a.equations → HasCarriedFault s a LhsVariable
  no_head : All (IsLeftSide s) a.equations → ¬ All (IsHead s) a.memberships → HasCarriedFault s a MembershipHead

-- ---- its own, counted from 1 in the order of the text

-- the statements with one more
abbrev pub with_one : StatementsOf → Statement → StatementsOf
with_one a (Equation e) = record a { equations = a.equations ++ e ∷ [] }
with_one a (Membership m) = record a { memberships = a.memberships ++ m ∷ [] }
with_one a (Rule r) = record a { rules = a.rules ++ r ∷ [] }

-- the statements with an equation, a membership or a rule more, or with a definition of a strategy
abbrev pub with_statement : StatementsOf → Stated → StatementsOf
with_statement a (AStatement x) = with_one a x
with_statement a (ADefinition d) = record a { strategies = a.strategies ++ d ∷ [] }

-- no statements, and these declared strategies
abbrev pub only_strats : List StratDecl → StatementsOf
only_strats strats = record no_statements { strats = strats }

-- the statement that an element is
abbrev pub statement_in : RawElement → Option RawStatement
statement_in (StatementElement raw) = Some raw
statement_in _ = None

-- what a statement of a text says, or its first fault
pub data StatedRead (a : Around) (raw : RawStatement) : Result Stated DefinitionFault → Type 0 where
  statement_read : (x : Statement) → is_definition raw.kind ≡ false → StatementRead a.words a.context raw (Ok x) → StatedRead a raw (Ok (AStatement x))
  statement_unread : (f : StatementFault) → is_definition raw.kind ≡ false → StatementRead a.words a.context raw (Err f)
      → StatedRead a raw (Err (OfStatement f))
  definition_read : (d : StratDef) → is_definition raw.kind ≡ true → DefinitionRead a raw (Ok d) → StatedRead a raw (Ok (ADefinition d))
  definition_unread : (f : DefinitionFault) → is_definition raw.kind ≡ true → DefinitionRead a raw (Err f) → StatedRead a raw (Err f)

-- the statements that elements add to some, where the next one has the number i; or the first one at fault
pub data OwnRead (a : Around) : StatementsOf → ℕ → List RawElement → Result StatementsOf (ℕ × DefinitionFault) → Type 0 where
  none_left : (own : StatementsOf) (i : ℕ) → OwnRead a own i [] (Ok own)
  no_statement : (own : StatementsOf) (i : ℕ) (e : RawElement) (es : List RawElement) (r : Result StatementsOf (ℕ × DefinitionFault))
      → statement_in e ≡ None → OwnRead a own i es r → OwnRead a own i (e ∷ es) r
  at_fault : (own : StatementsOf) (i : ℕ) (e : RawElement) (es : List RawElement) (raw : RawStatement) (f : DefinitionFault)
      → statement_in e ≡ Some raw → StatedRead a raw (Err f) → OwnRead a own i (e ∷ es) (Err (i, f))
  one_more : (own : StatementsOf) (i : ℕ) (e : RawElement) (es : List RawElement) (raw : RawStatement) (x : Stated) (r : Result StatementsOf (ℕ × DefinitionFault))
      → statement_in e ≡ Some raw → StatedRead a raw (Ok x) → OwnRead a (with_statement own x) (suc i) es r → OwnRead a own i (e ∷ es) r
