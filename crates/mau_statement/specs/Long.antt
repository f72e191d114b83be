-- Statements with too many fragments, which are refused: what is known of one while its parts are passed over. Only inner contracts and
-- proofs cite this.
use Rattle.std.specs.Prelude.{◌≡◌, ◌<◌, ◌≤◌, List, length, Bool, true, false}
use Rattle.mau_modtext.specs.Word.{Word}
use Rattle.mau_modtext.specs.declared.raw.RawFragment.{RawFragment}
use Rattle.mau_modtext.specs.declared.raw.RawStatement.{RawStatement}
use Rattle.mau_program.specs.declared.statements.Fragment.{Fragment}
use Rattle.mau_statement.specs.Context.{ContextOf}
use Rattle.mau_statement.specs.Parts.{Pairs}
use Rattle.mau_statement.specs.Conditions.{ConditionReads, FragmentUnread, ConditionUnread}
use Rattle.mau_statement.specs.Statements.{PartsRead, PartsUnread, variables_of}
use Rattle.mau_statement.specs.declared.TheConstants.{MAX_VARIABLES}
use Rattle.mau_statement.specs.declared.statement.Statement.{Statement}
use Rattle.mau_statement.specs.declared.fault.StatementFault.{StatementFault}
use Rattle.mau_statement.specs.declared.fault.StatementFault.TheVariants.{LimitExceeded, NoMemory}
use Rattle.mau_statement.specs.declared.fault.Limit.TheVariants.{Fragments}

-- a statement that is read, with these variables
pub record IsReadWith (ws : List Word) (c : ContextOf) (raw : RawStatement) (vars : Pairs) : Type 0 where
  pub statement : Statement
  pub reads : PartsRead ws c raw statement
  pub same : variables_of statement ≡ vars

-- what stands before the condition is read, and its variables are os: where the condition is read behind it, the statement is, and where
-- it isn't, neither is the statement
pub record FrontReads (ws : List Word) (c : ContextOf) (raw : RawStatement) (os : Pairs) : Type 0 where
  pub read : (vars : Pairs) (cond : List Fragment) → ConditionReads ws c os raw.cond vars cond → IsReadWith ws c raw vars
  pub unread : (f : StatementFault) → ConditionUnread ws c os raw.cond f → PartsUnread ws c raw f

-- Some fragments are read, behind the variables ns. Once there are too many variables, the code keeps this alone; till then, all of them.
pub record ArePassed (ws : List Word) (c : ContextOf) (ns : Pairs) (raws : List RawFragment) (many : Bool) (kept : Pairs) : Type 0 where
  pub vars : Pairs
  pub cond : List Fragment
  pub reads : ConditionReads ws c ns raws vars cond
  pub more : many ≡ true → MAX_VARIABLES < length vars
  pub same : many ≡ false → (kept ≡ vars) × (length vars ≤ MAX_VARIABLES)

-- a fragment is not read, whatever the variables before it
abbrev pub IsNeverRead : List Word → ContextOf → RawFragment → Type 0
IsNeverRead ws c raw = (ns : Pairs) → (f : StatementFault) × FragmentUnread ws c raw ns f

-- all parts of the statement are read, and whether it has too many variables
pub record IsPassed (ws : List Word) (c : ContextOf) (raw : RawStatement) (many : Bool) : Type 0 where
  pub statement : Statement
  pub reads : PartsRead ws c raw statement
  pub more : many ≡ true → MAX_VARIABLES < length (variables_of statement)
  pub few : many ≡ false → length (variables_of statement) ≤ MAX_VARIABLES

-- some part of it is not
abbrev pub IsUnreadSomewhere : List Word → ContextOf → RawStatement → Type 0
IsUnreadSomewhere ws c raw = (f : StatementFault) × PartsUnread ws c raw f

-- what is told of the fault of a part: that there are too many fragments, but of want of memory itself
abbrev pub told_of : StatementFault → StatementFault
told_of NoMemory = NoMemory
told_of f = LimitExceeded Fragments
