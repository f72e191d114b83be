-- What a statement of a text reads as, and the faults that it may have.
use Rattle.std.specs.Prelude.{◌≡◌, ℕ, ◌<◌, ◌≤◌, List, [], ◌∷◌, length, codes, bytes_eq, Bool, true, false, not, ◌&&◌, ◌||◌, if◌then◌else◌, Option, Some, None, Result, Ok, Err}
use Rattle.std.specs.List.{list_any}
use Rattle.std.specs.Option.{option_map}
use Rattle.mau_terms.specs.Subst.{variables}
use Rattle.mau_terms.specs.View.{tree_of}
use Rattle.mau_terms.specs.declared.theory.Theory.{Theory}
use Rattle.mau_terms.specs.declared.bare.Bare.{Bare}
use Rattle.mau_poset.specs.Order.{kind_of}
use Rattle.mau_signature.specs.Signature.{theory_at}
use Rattle.mau_tokens.specs.declared.token.Token.{Token}
use Rattle.mau_modtext.specs.Word.{Word}
use Rattle.mau_modtext.specs.declared.raw.RawAttr.{RawAttr}
use Rattle.mau_modtext.specs.declared.raw.RawStatement.{RawStatement}
use Rattle.mau_modtext.specs.declared.raw.StatementKind.TheVariants as Kind
use Rattle.mau_declare.specs.Words.{token_text}
use Rattle.mau_parse.specs.declared.goals.Goal.TheVariants.{Kind as InKind}
use Rattle.mau_program.specs.declared.statements.Equation.{Equation}
use Rattle.mau_program.specs.declared.statements.Membership.{Membership}
use Rattle.mau_program.specs.declared.statements.Rule.{Rule}
use Rattle.mau_statement.specs.Context.{ContextOf}
use Rattle.mau_statement.specs.Parts.{Pairs, TermReads, PartUnread, PairReads, PairUnread, begin_of, sort_named}
use Rattle.mau_statement.specs.Conditions.{ConditionReads, ConditionUnread}
use Rattle.mau_program.specs.Binding.{are_bound, binds}
use Rattle.mau_program.specs.Tops.{is_left_side, is_head}
use Rattle.mau_statement.specs.declared.TheConstants.{MAX_VARIABLES, MAX_FRAGMENTS}
use Rattle.mau_statement.specs.declared.statement.Statement.{Statement}
use Rattle.mau_statement.specs.declared.fault.Limit.TheVariants.{Variables, Fragments}
use Rattle.mau_statement.specs.declared.fault.StatementFault.{StatementFault}
use Rattle.mau_statement.specs.declared.fault.StatementFault.TheVariants.{LimitExceeded, UnknownSort, LhsVariable, MembershipHead, UnboundVariable}

-- ---- attributes

-- one token, which is this word
abbrev pub is_named : List Word → List ℕ → List Token → Bool
is_named ws word (t ∷ []) = bytes_eq (token_text ws t) word
is_named ws word _ = false

abbrev pub has_attribute : List Word → List ℕ → List RawAttr → Bool
has_attribute ws word attrs = list_any (λ a. is_named ws word a.name) attrs

abbrev pub is_owise : List Word → List RawAttr → Bool
is_owise ws attrs = has_attribute ws (codes "owise") attrs || has_attribute ws (codes "otherwise") attrs

abbrev pub is_exec : List Word → List RawAttr → Bool
is_exec ws attrs = not (has_attribute ws (codes "nonexec") attrs)

abbrev pub label_of : List Word → Option Token → Option (List ℕ)
label_of ws label = option_map (token_text ws) label

-- ---- what the parts of a statement read as

pub record EquationReads (ws : List Word) (c : ContextOf) (raw : RawStatement) (e : Equation) : Type 0 where
  pub middle : Pairs
  pub sides : PairReads ws c raw.left raw.right [] middle e.left e.right
  pub condition : ConditionReads ws c middle raw.cond e.vars e.cond
  pub owise : e.owise ≡ is_owise ws raw.attrs
  pub exec : e.exec ≡ is_exec ws raw.attrs

pub record RuleReads (ws : List Word) (c : ContextOf) (raw : RawStatement) (r : Rule) : Type 0 where
  pub middle : Pairs
  pub sides : PairReads ws c raw.left raw.right [] middle r.left r.right
  pub condition : ConditionReads ws c middle raw.cond r.vars r.cond
  pub label : r.label ≡ label_of ws raw.label
  pub exec : r.exec ≡ is_exec ws raw.attrs

-- the head is of the kind of the sort
pub record MembershipReads (ws : List Word) (c : ContextOf) (raw : RawStatement) (m : Membership) : Type 0 where
  pub middle : Pairs
  pub sort : sort_named ws c.sorts raw.right ≡ Some m.sort
  pub head : TermReads ws c.grammar raw.left (InKind (kind_of c.signature.hierarchy m.sort)) [] middle m.left
  pub condition : ConditionReads ws c middle raw.cond m.vars m.cond
  pub exec : m.exec ≡ is_exec ws raw.attrs

pub data PartsRead (ws : List Word) (c : ContextOf) (raw : RawStatement) : Statement → Type 0 where
  equation_reads : (e : Equation) → raw.kind ≡ Kind.Equation → EquationReads ws c raw e → PartsRead ws c raw (Statement.Equation e)
  membership_reads : (m : Membership) → raw.kind ≡ Kind.Membership → MembershipReads ws c raw m → PartsRead ws c raw (Statement.Membership m)
  rule_reads : (r : Rule) → raw.kind ≡ Kind.Rule → RuleReads ws c raw r → PartsRead ws c raw (Statement.Rule r)

-- ---- why they read as nothing

-- two sides are read, and then the condition
pub data SidesUnread (ws : List Word) (c : ContextOf) (raw : RawStatement) : StatementFault → Type 0 where
  sides_unread : (f : StatementFault) → PairUnread ws c raw.left raw.right [] f → SidesUnread ws c raw f
  condition_unread : (f : StatementFault) (middle : Pairs) (left right : Bare) → PairReads ws c raw.left raw.right [] middle left right
      → ConditionUnread ws c middle raw.cond f → SidesUnread ws c raw f

-- the sort is found, the head is read, and then the condition
pub data MembershipUnread (ws : List Word) (c : ContextOf) (raw : RawStatement) : StatementFault → Type 0 where
  no_sort : sort_named ws c.sorts raw.right ≡ None → MembershipUnread ws c raw (UnknownSort (begin_of ws raw.right))
  head_unread : (f : StatementFault) (sort : ℕ) → sort_named ws c.sorts raw.right ≡ Some sort
      → PartUnread ws c.grammar raw.left (InKind (kind_of c.signature.hierarchy sort)) [] f → MembershipUnread ws c raw f
  condition_unread_behind : (f : StatementFault) (sort : ℕ) (middle : Pairs) (head : Bare) → sort_named ws c.sorts raw.right ≡ Some sort
      → TermReads ws c.grammar raw.left (InKind (kind_of c.signature.hierarchy sort)) [] middle head
      → ConditionUnread ws c middle raw.cond f → MembershipUnread ws c raw f

pub data PartsUnread (ws : List Word) (c : ContextOf) (raw : RawStatement) : StatementFault → Type 0 where
  equation_unread : (f : StatementFault) → raw.kind ≡ Kind.Equation → SidesUnread ws c raw f → PartsUnread ws c raw f
  membership_unread : (f : StatementFault) → raw.kind ≡ Kind.Membership → MembershipUnread ws c raw f → PartsUnread ws c raw f
  rule_unread : (f : StatementFault) → raw.kind ≡ Kind.Rule → SidesUnread ws c raw f → PartsUnread ws c raw f

-- ---- what is judged of a statement whose parts are read

abbrev pub variables_of : Statement → Pairs
variables_of (Statement.Equation e) = e.vars
variables_of (Statement.Membership m) = m.vars
variables_of (Statement.Rule r) = r.vars

-- it may be used to evaluate
abbrev pub is_executable : Statement → Bool
is_executable (Statement.Equation e) = e.exec
is_executable (Statement.Membership m) = m.exec
is_executable (Statement.Rule r) = r.exec

-- it has no other variables than it may have
abbrev pub binds_variables : Statement → Bool
binds_variables (Statement.Equation e) = binds (tree_of e.left) e.cond (tree_of e.right)
binds_variables (Statement.Membership m) = are_bound (variables (tree_of m.left)) m.cond
binds_variables (Statement.Rule r) = binds (tree_of r.left) r.cond (tree_of r.right)

-- it may be used, and has a variable that isn't bound
abbrev pub has_unbound : Statement → Bool
has_unbound s = is_executable s && not (binds_variables s)

-- an equation whose left side is none, and a membership whose head is none
abbrev pub head_fault : (ℕ → Theory) → Statement → Option StatementFault
head_fault th (Statement.Equation e) = if is_left_side th (tree_of e.left) then None else Some LhsVariable
head_fault th (Statement.Membership m) = if is_head th (tree_of m.left) then None else Some MembershipHead
head_fault th (Statement.Rule r) = None

-- so many variables, and n fragments, are not too many
pub record IsWithinLimits (n : ℕ) (s : Statement) : Type 0 where
  pub variables : length (variables_of s) ≤ MAX_VARIABLES
  pub fragments : n ≤ MAX_FRAGMENTS

-- a statement with n fragments is accepted, or it is refused for the first of these: too many variables; too many fragments; a left
-- side or a head that is none; and in what is executable a variable that isn't bound
pub data Judged (th : ℕ → Theory) (n : ℕ) (s : Statement) : Result Statement StatementFault → Type 0 where
  too_many_variables : MAX_VARIABLES < length (variables_of s) → Judged th n s (Err (LimitExceeded Variables))
  too_many_fragments : length (variables_of s) ≤ MAX_VARIABLES → MAX_FRAGMENTS < n → Judged th n s (Err (LimitExceeded Fragments))
  head_at_fault : (f : StatementFault) → IsWithinLimits n s → head_fault th s ≡ Some f → Judged th n s (Err f)
  variable_unbound : IsWithinLimits n s → head_fault th s ≡ None → has_unbound s ≡ true → Judged th n s (Err UnboundVariable)
  accepted : IsWithinLimits n s → head_fault th s ≡ None → has_unbound s ≡ false → Judged th n s (Ok s)

-- ---- statements

-- what a statement of a text says over the words of its text, or its first fault: where a part isn't read, that fault, but too many
-- fragments come before it
pub data StatementRead (ws : List Word) (c : ContextOf) (raw : RawStatement) : Result Statement StatementFault → Type 0 where
  parts_read : (s : Statement) (r : Result Statement StatementFault) → PartsRead ws c raw s → Judged (theory_at c.signature) (length raw.cond) s r
      → StatementRead ws c raw r
  too_many_unread : (f : StatementFault) → PartsUnread ws c raw f → MAX_FRAGMENTS < length raw.cond → StatementRead ws c raw (Err (LimitExceeded Fragments))
  part_unread : (f : StatementFault) → PartsUnread ws c raw f → length raw.cond ≤ MAX_FRAGMENTS → StatementRead ws c raw (Err f)
