-- What a definition of a strategy in a text reads as, or its first fault. Its call is read first, then its condition, and then its strategy.
use Rattle.std.specs.Prelude.{◌≡◌, ℕ, ◌<◌, ◌≤◌, List, [], length, Bool, true, false, ◌&&◌, Result, Ok, Err}
use Rattle.mau_terms.specs.Tree.{Tree}
use Rattle.mau_tokens.specs.declared.token.Token.{Token}
use Rattle.mau_modtext.specs.Word.{Word}
use Rattle.mau_modtext.specs.declared.raw.RawStatement.{RawStatement}
use Rattle.mau_program.specs.Trees.{StrategyOf}
use Rattle.mau_program.specs.Binding.{are_bound}
use Rattle.mau_program.specs.LawfulStrategies.{variables_in}
use Rattle.mau_program.specs.declared.statements.Fragment.{Fragment}
use Rattle.mau_program.specs.declared.definitions.StratDecl.{StratDecl}
use Rattle.mau_program.specs.declared.definitions.StratDef.{StratDef}
use Rattle.mau_statement.specs.Context.{ContextOf}
use Rattle.mau_statement.specs.Parts.{Pairs, is_empty, begin_of}
use Rattle.mau_statement.specs.Conditions.{ConditionReads, ConditionUnread}
use Rattle.mau_statement.specs.declared.TheConstants.{MAX_VARIABLES, MAX_FRAGMENTS}
use Rattle.mau_statement.specs.declared.fault.Limit.TheVariants.{Variables, Fragments}
use Rattle.mau_statement.specs.declared.fault.StatementFault.{StatementFault}
use Rattle.mau_statement.specs.declared.fault.StatementFault.TheVariants.{LimitExceeded, UnboundVariable}
use Rattle.mau_strattext.specs.Setting.{setting_of}
use Rattle.mau_strattext.specs.Strategies.{StrategyRead}
use Rattle.mau_strattext.specs.declared.fault.StratFault.{StratFault}
use Rattle.mau_strattext.specs.declared.fault.StratFault.TheVariants.{Unexpected}
use Rattle.mau_definition.specs.Calls.{CallRead}
use Rattle.mau_definition.specs.Bound.{binds_condition, binds_body}
use Rattle.mau_definition.specs.declared.call.Call.{Call}
use Rattle.mau_definition.specs.declared.fault.DefinitionFault.{DefinitionFault}
use Rattle.mau_definition.specs.declared.fault.DefinitionFault.TheVariants.{Statement, Strategy}

-- The words of a text; what statements are read over; the labels of rules; and the strategies that are declared.
pub record Around : Type 0 where
  pub words : List Word
  pub context : ContextOf
  pub labels : List (List ℕ)
  pub names : List StratDecl

abbrev pub around : List Word → ContextOf → List (List ℕ) → List StratDecl → Around
around ws c labels names = record { words = ws; context = c; labels = labels; names = names }

-- the strategy of a definition; no tokens, which no right side of a text has, are none
pub data BodyRead (a : Around) (ts : List Token) (ns os : Pairs) : Result StrategyOf StratFault → Type 0 where
  nothing_right : is_empty a.words ts ≡ true → BodyRead a ts ns os (Err (Unexpected (begin_of a.words ts)))
  body_reads : (r : Result StrategyOf StratFault) → is_empty a.words ts ≡ false → StrategyRead (setting_of a.words ts a.context a.labels a.names) ns os r
      → BodyRead a ts ns os r

abbrev pub CallOf : Around → RawStatement → Pairs → Pairs → Result Call StratFault → Type 0
CallOf a raw ns os r = CallRead a.words a.context a.names raw.left ns os r

-- all parts are read
pub record DefinitionReads (a : Around) (raw : RawStatement) (d : StratDef) : Type 0 where
  pub middle : Pairs
  pub last : Pairs
  pub defined : CallOf a raw [] middle (Ok (record { name = d.name; args = d.args }))
  pub condition : ConditionReads a.words a.context middle raw.cond last d.cond
  pub body : BodyRead a raw.right last d.vars (Ok d.body)

-- Why they are not. A fault of the condition comes first, also where the call has one; then that of the call. Behind a call and a condition
-- that are read comes a variable of the condition that isn't bound, and then the fault of the strategy.
pub data DefinitionUnread (a : Around) (raw : RawStatement) : DefinitionFault → Type 0 where
  condition_unread : (x : Call) (middle : Pairs) (f : StatementFault) → CallOf a raw [] middle (Ok x)
      → ConditionUnread a.words a.context middle raw.cond f → DefinitionUnread a raw (Statement f)
  condition_unread_first : (g : StratFault) (f : StatementFault) → CallOf a raw [] [] (Err g) → ConditionUnread a.words a.context [] raw.cond f
      → DefinitionUnread a raw (Statement f)
  no_call_read : (g : StratFault) (os : Pairs) (c : List Fragment) → CallOf a raw [] [] (Err g) → ConditionReads a.words a.context [] raw.cond os c
      → DefinitionUnread a raw (Strategy g)
  condition_unbound : (x : Call) (middle last : Pairs) (c : List Fragment) (g : StratFault) → CallOf a raw [] middle (Ok x)
      → ConditionReads a.words a.context middle raw.cond last c → are_bound (variables_in x.args) c ≡ false
      → BodyRead a raw.right last last (Err g) → DefinitionUnread a raw (Statement UnboundVariable)
  body_unread : (x : Call) (middle last : Pairs) (c : List Fragment) (g : StratFault) → CallOf a raw [] middle (Ok x)
      → ConditionReads a.words a.context middle raw.cond last c → are_bound (variables_in x.args) c ≡ true
      → BodyRead a raw.right last last (Err g) → DefinitionUnread a raw (Strategy g)

-- a definition with n fragments whose parts are read is accepted, or refused for the first of these: too many variables; too many
-- fragments; a variable that isn't bound
pub data DefinitionJudged (n : ℕ) (d : StratDef) : Result StratDef DefinitionFault → Type 0 where
  too_many_variables : MAX_VARIABLES < length d.vars → DefinitionJudged n d (Err (Statement (LimitExceeded Variables)))
  too_many_fragments : length d.vars ≤ MAX_VARIABLES → MAX_FRAGMENTS < n → DefinitionJudged n d (Err (Statement (LimitExceeded Fragments)))
  variable_unbound : length d.vars ≤ MAX_VARIABLES → n ≤ MAX_FRAGMENTS → binds_condition d && binds_body d ≡ false
      → DefinitionJudged n d (Err (Statement UnboundVariable))
  accepted : length d.vars ≤ MAX_VARIABLES → n ≤ MAX_FRAGMENTS → binds_condition d && binds_body d ≡ true → DefinitionJudged n d (Ok d)

-- what a definition of a text says, or its first fault: where a part isn't read, that fault, but too many fragments come before it
pub data DefinitionRead (a : Around) (raw : RawStatement) : Result StratDef DefinitionFault → Type 0 where
  parts_read : (d : StratDef) (r : Result StratDef DefinitionFault) → DefinitionReads a raw d → DefinitionJudged (length raw.cond) d r → DefinitionRead a raw r
  too_many_unread : (f : DefinitionFault) → DefinitionUnread a raw f → MAX_FRAGMENTS < length raw.cond
      → DefinitionRead a raw (Err (Statement (LimitExceeded Fragments)))
  part_unread : (f : DefinitionFault) → DefinitionUnread a raw f → length raw.cond ≤ MAX_FRAGMENTS → DefinitionRead a raw (Err f)
