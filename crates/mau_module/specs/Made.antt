-- Modules that are made over those before them: what every later module that includes one may rest on.
use Rattle.std.specs.Prelude.{◌≡◌, ◌≢◌, ◌<◌, ◌≤◌, ◌+◌, ℕ, List, [], ◌∷◌, All, true, Some, codes, length, slice_get, take}
use Rattle.std.specs.List.{list_any, position_or_len}
use Rattle.mau_poset.specs.Order.{IsPoset, kind_of}
use Rattle.mau_terms.specs.Finite.{IsIn}
use Rattle.mau_signature.specs.declared.decl.Decl.{Decl}
use Rattle.mau_signature.specs.declared.form.Piece.TheVariants.{Word}
use Rattle.mau_signature.specs.Faults.{is_successor, IsSuccessorIn}
use Rattle.mau_signature.specs.Made.{IsSignature}
use Rattle.mau_signature.specs.Names.{operator_of, same_operator}
use Rattle.mau_signature.specs.Signature.{SignatureOf}
use Rattle.mau_sigcheck.specs.Accepted.{IsAccepted}
use Rattle.mau_declare.specs.Names.{has_name}
use Rattle.mau_program.specs.declared.statements.Equation.{Equation}
use Rattle.mau_program.specs.declared.statements.Membership.{Membership}
use Rattle.mau_program.specs.declared.statements.Rule.{Rule}
use Rattle.mau_program.specs.declared.definitions.StratDef.{StratDef}
use Rattle.mau_statement.specs.declared.TheConstants.{MAX_VARIABLES}
use Rattle.mau_statement.specs.Lawful.{IsLawfulStatement}
use Rattle.mau_statement.specs.Statements.{variables_of}
use Rattle.mau_module.specs.declared.statements.Stated.{Stated}
use Rattle.mau_module.specs.declared.statements.Stated.TheVariants.{Statement as AStatement, Definition as ADefinition}
use Rattle.mau_program.specs.BuiltIns.{HasBuiltIn}
use Rattle.mau_program.specs.LawfulStatements.{IsLawfulEquation, IsLawfulMembership, IsLawfulRule}
use Rattle.mau_program.specs.LawfulStrategies.{IsLawfulDefinition}
use Rattle.mau_program.specs.LawfulPrograms.{IsLawfulProgram}
use Rattle.mau_signing.specs.Signed.{signature_over}
use Rattle.mau_module.specs.Modules.{ModuleOf, StatementsOf, and_more}
use Rattle.mau_module.specs.Numbering.{number_in}
use Rattle.mau_module.specs.Included.{of_module}
use Rattle.mau_module.specs.Known.{AreKnown}
use Rattle.mau_module.specs.Lawful.{program_of}
use Rattle.mau_module.specs.Kept.{IsOver}
use Rattle.mau_module.specs.Framed.{all_parts}
use Rattle.mau_module.specs.Declarations.{hierarchy_over, given_over}
use Rattle.mau_module.specs.Carried.{carried}
use Rattle.mau_module.specs.Stated.{AreLawful}

-- ---- statements

-- none of them has more variables than a statement may have
pub record HaveFewVariables (a : StatementsOf) : Type 0 where
  pub equations : All (λ (e : Equation). length e.vars ≤ MAX_VARIABLES) a.equations
  pub memberships : All (λ (m : Membership). length m.vars ≤ MAX_VARIABLES) a.memberships
  pub rules : All (λ (r : Rule). length r.vars ≤ MAX_VARIABLES) a.rules
  pub strategies : All (λ (d : StratDef). length d.vars ≤ MAX_VARIABLES) a.strategies

-- statements are lawful over a signature
pub record AreLawfulOver (s : SignatureOf) (a : StatementsOf) : Type 0 where
  pub equations : All (IsLawfulEquation s) a.equations
  pub memberships : All (IsLawfulMembership s) a.memberships
  pub rules : All (IsLawfulRule s) a.rules
  pub strategies : All (IsLawfulDefinition s) a.strategies
  pub few : HaveFewVariables a

-- what one statement of a text says is lawful
abbrev pub IsLawfulStated : SignatureOf → Stated → Type 0
IsLawfulStated s (AStatement x) = IsLawfulStatement s x × (length (variables_of x) ≤ MAX_VARIABLES)
IsLawfulStated s (ADefinition d) = IsLawfulDefinition s d × (length d.vars ≤ MAX_VARIABLES)

-- ---- the modules of the prelude on which the others rest

-- the module of truth values declares the sort Bool and, with its sort, the constants `true` and `false`
pub record DeclaresConstant (m : ModuleOf) (word : List ℕ) : Type 0 where
  pub declaration : Decl
  pub declared : IsIn declaration m.own.declarations
  pub form : declaration.form ≡ Word word ∷ []
  pub args : declaration.args ≡ []
  pub result : declaration.result ≡ number_in m.sorts (codes "Bool")

pub record DeclaresTruth (m : ModuleOf) : Type 0 where
  pub sort : has_name m.sorts (codes "Bool") ≡ true
  pub yes : DeclaresConstant m (codes "true")
  pub no : DeclaresConstant m (codes "false")

-- the module of numbers has the sorts of 0 and of all other numerals
pub record HasNumberSorts (m : ModuleOf) : Type 0 where
  pub zero : has_name m.sorts (codes "Zero") ≡ true
  pub others : has_name m.sorts (codes "NzNat") ≡ true

-- the kind of 0
abbrev pub kind_of_zero : ModuleOf → ℕ
kind_of_zero m = kind_of m.signature.hierarchy (number_in m.sorts (codes "Zero"))

-- they are in one kind there, and it declares the successor, in this kind alone
pub record DeclaresNumbers (m : ModuleOf) : Type 0 where
  pub sorts : HasNumberSorts m
  pub one_kind : kind_of_zero m ≡ kind_of m.signature.hierarchy (number_in m.sorts (codes "NzNat"))
  pub successor : list_any (λ d. is_successor d.attrs) m.own.declarations ≡ true
  pub in_kind : All (IsSuccessorIn m.signature.hierarchy (kind_of_zero m)) m.own.declarations

-- ---- a module over those before it

-- the number of the operator of a declaration
abbrev pub number_at : SignatureOf → Decl → ℕ
number_at s d = position_or_len (same_operator (operator_of s.hierarchy d)) s.names + 1

-- what something built in its own declarations give: it is what the prelude declares
abbrev pub AreOwnBuiltIns : ModuleOf → Type 0
AreOwnBuiltIns m = (d : Decl) (name : List ℕ) → IsIn d m.own.declarations → d.attrs.builtin ≡ Some name → HasBuiltIn m.sorts m.signature (number_at m.signature d) name

-- nothing is built in of its own declarations
abbrev pub DeclaresNothingBuiltIn : ModuleOf → Type 0
DeclaresNothingBuiltIn m = (d : Decl) (name : List ℕ) → IsIn d m.own.declarations → d.attrs.builtin ≡ Some name → ⊥

-- A module over the modules before it: what it includes has all that is included there; its sorts are theirs and its own, its signature is
-- that of all declarations, what it states itself is lawful, and so is its program.
pub record IsMadeOver (ms : List ModuleOf) (m : ModuleOf) : Type 0 where
  pub included : List ℕ
  pub parts : m.parts ≡ all_parts ms included
  pub within : All (λ p. p < length ms) included
  pub closed : (p q : ℕ) → IsIn p included → IsIn q (of_module ms (λ x. x.parts) p) → IsIn q included
  pub first : IsIn 0 m.parts
  pub known : AreKnown ms m.sorts included
  pub signature : m.signature ≡ signature_over (given_over ms included m.sorts (hierarchy_over ms included m.sorts m.own.pairs) m.own.declarations)
  pub over : IsOver m.signature m.own.pairs m.own.declarations
  pub own : AreLawfulOver m.signature m.own.statements
  pub built_ins : AreOwnBuiltIns m
  pub truth : length ms ≡ 0 → DeclaresTruth m
  pub numbers : length ms ≡ 3 → DeclaresNumbers m
  pub plain : length ms ≢ 3 → DeclaresNothingBuiltIn m
  pub lawful : IsLawfulProgram (program_of m)

-- each module of a library is one over those before it
abbrev pub AreMade : List ModuleOf → Type 0
AreMade ms = (i : ℕ) (m : ModuleOf) → slice_get ms i ≡ Some m → IsMadeOver (take i ms) m

-- ---- what is known of a module when it is made; what it states itself is judged apart

-- parts with all that they include, and names with those of their sorts
pub record IsClosed (ms : List ModuleOf) (names : List (List ℕ)) (parts : List ℕ) : Type 0 where
  pub within : All (λ p. p < length ms) parts
  pub closed : (p q : ℕ) → IsIn p parts → IsIn q (of_module ms (λ x. x.parts) p) → IsIn q parts
  pub known : AreKnown ms names parts

-- its signature was made and accepted, what it declares is over it, and so are left sides and heads of what it carries
pub record IsRightOver (ms : List ModuleOf) (m : ModuleOf) (included : List ℕ) : Type 0 where
  pub made : IsSignature m.signature
  pub poset : IsPoset m.signature.hierarchy
  pub accepted : IsAccepted m.signature
  pub over : IsOver m.signature m.own.pairs m.own.declarations
  pub tops : AreLawful m.signature (carried ms m.sorts m.signature included)

pub record IsSignedOver (ms : List ModuleOf) (m : ModuleOf) (included : List ℕ) : Type 0 where
  pub closed : IsClosed ms m.sorts included
  pub parts : m.parts ≡ all_parts ms included
  pub signature : m.signature ≡ signature_over (given_over ms included m.sorts (hierarchy_over ms included m.sorts m.own.pairs) m.own.declarations)
  pub made : IsSignature m.signature
  pub poset : IsPoset m.signature.hierarchy
  pub accepted : IsAccepted m.signature
  pub over : IsOver m.signature m.own.pairs m.own.declarations
  pub statements : m.statements ≡ and_more (carried ms m.sorts m.signature included) m.own.statements
  pub tops : AreLawful m.signature (carried ms m.sorts m.signature included)
