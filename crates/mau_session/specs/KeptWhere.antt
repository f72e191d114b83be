-- What the code keeps of a listing with a condition, and what it shows next.
use Rattle.std.specs.Prelude.{◌≡◌, ◌≢◌, ℕ, ◌+◌, List, [], ◌∷◌, ◌++◌, Bool, true, false, Option, Some, None, Result, Ok, Err, codes}
use Rattle.mau_terms.specs.Tree.{Tree}
use Rattle.mau_terms.specs.Subst.{variables}
use Rattle.mau_terms.specs.View.{tree_of, variable_of}
use Rattle.mau_sorts.specs.Table.{Table}
use Rattle.mau_listing.specs.Matcher.{Matcher}
use Rattle.mau_listing.specs.Next.{matcher_cmp}
use Rattle.mau_evaluation.specs.Run.{End, stopped, too_deep, overflowed}
use Rattle.mau_program.specs.declared.statements.Fragment.{Fragment}
use Rattle.mau_api.specs.Meanings.{Meanings}
use Rattle.mau_api.specs.Answers.{IsAskable}
use Rattle.mau_api.specs.declared.results.EvalEnd.{EvalEnd}
use Rattle.mau_api.specs.declared.results.EvalEnd.TheVariants.{Stopped, TooDeep, Overflow, NoMemory}
use Rattle.mau_conditional.specs.Where.{Ending as EndingOf, no_more, bound_reached, ends_by}
use Rattle.mau_conditional.specs.Meant.{Asks}
use Rattle.mau_conditional.specs.NextWhere.{NextOf, next_is, none_is_left, asking_ended, NextWhere}
use Rattle.mau_modtext.specs.Word.{Word}
use Rattle.mau_modtext.specs.declared.raw.RawFragment.{RawFragment}
use Rattle.mau_statement.specs.Binding.{first_unbound}
use Rattle.mau_statement.specs.Conditions.{ConditionReads, ConditionUnread}
use Rattle.mau_statement.specs.Faults.{IfFault}
use Rattle.mau_statement.specs.declared.fault.StatementFault.TheVariants.{NoMemory as NoMemoryOfStatement}
use Rattle.mau_module.specs.Modules.{ModuleOf}
use Rattle.mau_module.specs.Conditions.{context_of}
use Rattle.mau_session.specs.Environment.{Environment}
use Rattle.mau_session.specs.Terms.{Pairs, terms_in}
use Rattle.mau_session.specs.Shown.{shown_variable}
use Rattle.mau_session.specs.Matching.{IsSolution}
use Rattle.mau_session.specs.Answers.{all_matchers, matcher_lines}
use Rattle.mau_session.specs.Query.{QueryOf, shown_more}
use Rattle.mau_session.specs.KeptQuery.{query_of, IsReadyKept}
use Rattle.mau_session.specs.Where.{ShowsWhere, where_lines, shown_condition_fault}
use Rattle.mau_session.specs.declared.conditional.ConditionalQuery.{ConditionalQuery}
use Rattle.mau_session.specs.declared.conditional.Ending.{Ending}
use Rattle.mau_session.specs.declared.conditional.Ending.TheVariants.{NoMore, BoundReached, Stopped as EndStopped, TooDeep as EndTooDeep, Overflow as EndOverflow}
use Rattle.mau_session.specs.declared.conditions.ConditionFault.{ConditionFault}
use Rattle.mau_session.specs.declared.conditions.ConditionFault.TheVariants.{Unread, Unbound}

-- how a listing is left
abbrev pub ending_of : Ending → EndingOf
ending_of NoMore = no_more
ending_of BoundReached = bound_reached
ending_of EndStopped = ends_by stopped
ending_of EndTooDeep = ends_by too_deep
ending_of EndOverflow = ends_by overflowed

-- it is that of an end, which is not want of memory
abbrev pub IsEndingBy : EvalEnd → Ending → Type 0
IsEndingBy Stopped e = e ≡ EndStopped
IsEndingBy TooDeep e = e ≡ EndTooDeep
IsEndingBy Overflow e = e ≡ EndOverflow
IsEndingBy NoMemory e = ⊥

-- over the module m its listing can go on, and its condition may be asked under each solution
pub record IsReadyWhere (e : Environment) (m : ModuleOf) (sorts : Table) (k : ConditionalQuery) : Type 0 where
  pub query : IsReadyKept e m sorts k.query
  pub condition : IsAskable m.signature (variables (tree_of k.query.pattern)) k.cond

-- ---- one solution more

-- what comes next of a query's solutions, with so much of the budget
abbrev pub NextIs : ModuleOf → Meanings → List Fragment → QueryOf → ℕ → NextOf → ℕ → Type 0
NextIs m e c q b o left =
    NextWhere (IsSolution m e q.with_context q.pattern q.subject) (matcher_cmp (terms_in m).theory q.pattern) (Asks e q.pattern c) q.last b o left

-- the next solution is shown
pub record ShowsOneMore (m : ModuleOf) (e : Meanings) (c : List Fragment) (q : QueryOf) (b : ℕ) (out : List ℕ) (next : QueryOf) (new : List ℕ) (left : ℕ) : Type 0 where
  pub matcher : Matcher
  pub is : NextIs m e c q b (next_is matcher) left
  pub after : next ≡ shown_more q (matcher ∷ [])
  pub gained : new ≡ out ++ matcher_lines m q.variables q.with_context q.pattern (q.shown + 1) matcher

-- none is shown, since this came in its place
pub record ShowsNoMore (m : ModuleOf) (e : Meanings) (c : List Fragment) (q : QueryOf) (b : ℕ) (out : List ℕ) (o : NextOf) (next : QueryOf) (new : List ℕ) (left : ℕ) : Type 0 where
  pub is : NextIs m e c q b o left
  pub after : next ≡ q
  pub gained : new ≡ out

abbrev pub ShowsNextWhere : ModuleOf → Meanings → List Fragment → QueryOf → ℕ → List ℕ → Result Bool EvalEnd → QueryOf → List ℕ → ℕ → Type 0
ShowsNextWhere m e c q b out (Ok true) = ShowsOneMore m e c q b out
ShowsNextWhere m e c q b out (Ok false) = ShowsNoMore m e c q b out none_is_left
ShowsNextWhere m e c q b out (Err Stopped) = ShowsNoMore m e c q b out (asking_ended stopped)
ShowsNextWhere m e c q b out (Err TooDeep) = ShowsNoMore m e c q b out (asking_ended too_deep)
ShowsNextWhere m e c q b out (Err Overflow) = ShowsNoMore m e c q b out (asking_ended overflowed)
ShowsNextWhere m e c q b out (Err NoMemory) = λ next new left. Unit {0}

-- ---- all of them

-- the solutions that are shown, and the bytes gained, which are their lines
pub record GainsMatchersWhere (m : ModuleOf) (e : Meanings) (c : List Fragment) (q next : QueryOf) (most : Option ℕ) (old new : List ℕ) (ending : EndingOf) : Type 0 where
  pub found : List Matcher
  pub shows : ShowsWhere m e c q most found ending
  pub after : next ≡ shown_more q found
  pub gained : new ≡ old ++ all_matchers m q.variables q.with_context q.pattern (q.shown + 1) found

-- the same with the last line
pub record GainsShownWhere (m : ModuleOf) (e : Meanings) (c : List Fragment) (q next : QueryOf) (most : Option ℕ) (old new : List ℕ) (ending : EndingOf) : Type 0 where
  pub found : List Matcher
  pub shows : ShowsWhere m e c q most found ending
  pub after : next ≡ shown_more q found
  pub gained : new ≡ old ++ where_lines m e.limit q found ending

-- ---- faults of conditions

-- the condition isn't read, or behind the variables os its first variable that isn't bound is this
abbrev pub IsConditionFault : List Word → ModuleOf → List RawFragment → Tree → Pairs → Pairs → ConditionFault → Type 0
IsConditionFault ws m raws p ns os (Unread f) = IfFault (ConditionUnread ws (context_of m) ns raws) f
IsConditionFault ws m raws p ns os (Unbound x) = (cond : List Fragment) × ConditionReads ws (context_of m) ns raws os cond × (first_unbound (variables p) cond ≡ Some (variable_of x))

-- what is told of it
abbrev pub shown_unasked : ModuleOf → Pairs → ConditionFault → List ℕ
shown_unasked m ns (Unread f) = shown_condition_fault f
shown_unasked m ns (Unbound x) = codes "UnboundVariable " ++ shown_variable m ns x.index x.sort

-- the fault is not want of memory
abbrev pub IsNamed : ConditionFault → Type 0
IsNamed (Unread f) = f ≢ NoMemoryOfStatement
IsNamed (Unbound x) = Unit {0}
