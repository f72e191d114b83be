-- Listings with a condition: the solutions under which it holds.
use Rattle.std.specs.Prelude.{◌≡◌, ◌≢◌, ℕ, ◌+◌, List, ◌++◌, length, true, false, Option, Some, None, codes, decimal}
use Rattle.mau_terms.specs.Tree.{Tree}
use Rattle.mau_terms.specs.Norm.{norm}
use Rattle.mau_terms.specs.Subst.{Variable, variables}
use Rattle.mau_canon.specs.declared.fault.BuildFault.TheVariants.{TooDeep, Overflow}
use Rattle.mau_canon.specs.Within.{IsWithin, IsCause}
use Rattle.mau_listing.specs.Matcher.{Matcher}
use Rattle.mau_listing.specs.Next.{matcher_cmp}
use Rattle.mau_evaluation.specs.Run.{End}
use Rattle.mau_program.specs.declared.statements.Fragment.{Fragment}
use Rattle.mau_api.specs.Meanings.{Meanings}
use Rattle.mau_conditional.specs.Where as Conditional
use Rattle.mau_conditional.specs.Where.{Ending, no_more, bound_reached, ends_by}
use Rattle.mau_conditional.specs.Meant.{Asks}
use Rattle.mau_modtext.specs.Word.{Word}
use Rattle.mau_modtext.specs.declared.raw.RawCommand.{RawCommand}
use Rattle.mau_modtext.specs.declared.raw.RawFragment.{RawFragment}
use Rattle.mau_statement.specs.Binding.{first_unbound}
use Rattle.mau_statement.specs.Conditions.{ConditionReads, ConditionUnread}
use Rattle.mau_statement.specs.declared.fault.StatementFault.{StatementFault}
use Rattle.mau_statement.specs.declared.fault.StatementFault.TheVariants.{LimitExceeded, Parse, UnknownSort, LhsVariable, MembershipHead, UnboundVariable, NoMemory}
use Rattle.mau_module.specs.Modules.{ModuleOf}
use Rattle.mau_module.specs.Conditions.{context_of}
use Rattle.mau_session.specs.Terms.{Pairs, terms_in}
use Rattle.mau_session.specs.Environment.{Environment, meanings_in}
use Rattle.mau_session.specs.Lines.{too_deep_line, overflow_line, end_line}
use Rattle.mau_session.specs.Matching.{IsSolution}
use Rattle.mau_session.specs.Settled.{AreSortsKnown, SortsEnd}
use Rattle.mau_session.specs.Shown.{shown_variable}
use Rattle.mau_session.specs.Answers.{faulty_line, shown_parse_fault, all_matchers, last_line, match_head}
use Rattle.mau_session.specs.Built.{has_context}
use Rattle.mau_session.specs.Query.{QueryOf, asked_first, shown_more}
use Rattle.mau_session.specs.State.{OutcomeOf, is_refused, has_ended, goes_on, a_listing_where}

-- ---- which solutions are shown

-- What a query shows behind the last solution shown, where at most so many are asked for: of its solutions, each class once and in ascending order, those
-- under which c holds. All are asked with one budget, that of the item.
abbrev pub ShowsWhere : ModuleOf → Meanings → List Fragment → QueryOf → Option ℕ → List Matcher → Ending → Type 0
ShowsWhere m e c q most found ending =
    Conditional.ShowsWhere (IsSolution m e q.with_context q.pattern q.subject) (matcher_cmp (terms_in m).theory q.pattern) (Asks e q.pattern c) q.last e.limit most found ending

-- what it leaves: where as many were shown as were asked for, the query and the condition
abbrev pub left_where : Ending → QueryOf → List Fragment → OutcomeOf
left_where no_more q c = has_ended
left_where bound_reached q c = goes_on (a_listing_where q c)
left_where (ends_by e) q c = has_ended

-- ---- the bytes

-- the last line, where so many solutions were shown in all: an end stands behind them
abbrev pub last_where : ℕ → Ending → ℕ → List ℕ
last_where budget no_more n = last_line true n
last_where budget bound_reached n = last_line false n
last_where budget (ends_by e) n = end_line budget e

abbrev pub where_lines : ModuleOf → ℕ → QueryOf → List Matcher → Ending → List ℕ
where_lines m budget q found ending =
    all_matchers m q.variables q.with_context q.pattern (q.shown + 1) found ++ last_where budget ending (q.shown + length found)

-- why the condition of a command is refused: a part that is no term, or a sort that there is not; what else may be at fault in a statement is not in a condition
abbrev pub shown_condition_fault : StatementFault → List ℕ
shown_condition_fault (Parse f) = shown_parse_fault f
shown_condition_fault (UnknownSort at) = codes "UnknownSort " ++ decimal at
shown_condition_fault (LimitExceeded limit) = codes ""
shown_condition_fault LhsVariable = codes ""
shown_condition_fault MembershipHead = codes ""
shown_condition_fault UnboundVariable = codes ""
shown_condition_fault NoMemory = codes ""

abbrev pub condition_fault_line : ℕ → StatementFault → List ℕ
condition_fault_line k f = faulty_line k (shown_condition_fault f)

-- or a variable that isn't bound by then
abbrev pub unbound_line : ModuleOf → ℕ → Pairs → Variable → List ℕ
unbound_line m k ns x = faulty_line k (codes "UnboundVariable " ++ shown_variable m ns x.0 x.1)

-- ---- the answer of a match command with a condition

-- Read behind the variables ns over the module, the condition is cond; each of its variables is one of the pattern p, or bound by then.
pub record IsConditionOf (ws : List Word) (m : ModuleOf) (raws : List RawFragment) (p : Tree) (ns os : Pairs) (cond : List Fragment) : Type 0 where
  pub reads : ConditionReads ws (context_of m) ns raws os cond
  pub bound : first_unbound (variables p) cond ≡ None

-- Its pattern p and its subject t are read, with the variables ns. The condition is read behind them. A subject whose normal form is beyond the limits
-- has an end in place of solutions, and so has one whose sorts end; otherwise those are listed under which the condition holds.
pub data WhereAnswer (e : Environment) (ws : List Word) (m : ModuleOf) (k : ℕ) (c : RawCommand) (most : Option ℕ) (p t : Tree) (ns : Pairs) : OutcomeOf → List ℕ → Type 0 where
  condition_refused : (f : StatementFault) → ConditionUnread ws (context_of m) ns c.cond f → f ≢ NoMemory → WhereAnswer e ws m k c most p t ns is_refused (condition_fault_line k f)
  variable_unbound : (os : Pairs) (cond : List Fragment) (x : Variable) → ConditionReads ws (context_of m) ns c.cond os cond → first_unbound (variables p) cond ≡ Some x
      → WhereAnswer e ws m k c most p t ns is_refused (unbound_line m k os x)
  where_too_deep : (os : Pairs) (cond : List Fragment) → IsConditionOf ws m c.cond p ns os cond → IsCause (terms_in m).theory (norm (terms_in m).theory t) TooDeep
      → WhereAnswer e ws m k c most p t ns has_ended (match_head k (has_context c.kind) m ++ too_deep_line)
  where_overflows : (os : Pairs) (cond : List Fragment) → IsConditionOf ws m c.cond p ns os cond → IsCause (terms_in m).theory (norm (terms_in m).theory t) Overflow
      → WhereAnswer e ws m k c most p t ns has_ended (match_head k (has_context c.kind) m ++ overflow_line)
  where_sorts_end : (os : Pairs) (cond : List Fragment) (x : End) → IsConditionOf ws m c.cond p ns os cond → IsWithin (terms_in m).theory (norm (terms_in m).theory t)
      → SortsEnd (meanings_in e m) (norm (terms_in m).theory t) x → WhereAnswer e ws m k c most p t ns has_ended (match_head k (has_context c.kind) m ++ end_line e.budget x)
  where_listed : (os : Pairs) (cond : List Fragment) (found : List Matcher) (ending : Ending) → IsConditionOf ws m c.cond p ns os cond
      → IsWithin (terms_in m).theory (norm (terms_in m).theory t) → AreSortsKnown (meanings_in e m) (norm (terms_in m).theory t) → ShowsWhere m (meanings_in e m) cond (asked_first (has_context c.kind) p t os) most found ending
      → WhereAnswer e ws m k c most p t ns (left_where ending (shown_more (asked_first (has_context c.kind) p t os) found) cond)
      (match_head k (has_context c.kind) m ++ where_lines m e.budget (asked_first (has_context c.kind) p t os) found ending)
