-- Where no item asks for a strategy run, `continue` goes on with none.
use Rattle.std.proofs.Common.{◌≡◌, ◌≢◌, ℕ, List, Bool, true, false, Option, Some, None, Ok, refl, ap, ◌∙◌}
use Rattle.mau_terms.specs.Tree.{Tree}
use Rattle.mau_modtext.specs.Word.{Word}
use Rattle.mau_modtext.specs.declared.raw.RawItem.{RawItem}
use Rattle.mau_modtext.specs.declared.raw.RawBody.{RawBody}
use Rattle.mau_modtext.specs.declared.raw.RawBody.TheVariants.{Command}
use Rattle.mau_modtext.specs.declared.raw.RawCommand.{RawCommand}
use Rattle.mau_modtext.specs.declared.raw.CommandKind.TheVariants.{Dsrewrite}
use Rattle.mau_modtext.specs.declared.raw.Setting.{Setting}
use Rattle.mau_declare.specs.Words.{index_at}
use Rattle.mau_program.specs.declared.statements.Fragment.{Fragment}
use Rattle.mau_listing.specs.Matcher.{Matcher}
use Rattle.mau_conditional.specs.Where.{Ending, no_more, bound_reached, ends_by}
use Rattle.mau_evaluation.specs.RuleRuns.{Stand, RuleEnd, normal, bound}
use Rattle.mau_results.specs.declared.kind.RunKind.{RunKind}
use Rattle.mau_results.specs.Runs.{RunAnswerOf, run_gives, run_ends}
use Rattle.mau_module.specs.Modules.{ModuleOf}
use Rattle.mau_session.specs.Terms.{Pairs}
use Rattle.mau_session.specs.Environment.{Environment}
use Rattle.mau_session.specs.Query.{QueryOf, asked_first, shown_more}
use Rattle.mau_session.specs.State.{ContinuedOf, a_listing, a_listing_where, a_rule_run, a_strategy_run, GoingOf, StateOf, OutcomeOf, is_refused, has_ended, goes_on, left_by, state_after}
use Rattle.mau_session.specs.Built.{has_context}
use Rattle.mau_session.specs.declared.asked_run.AskedRun.{AskedRun}
use Rattle.mau_session.specs.RunLines.{left_by_run, left_by_end}
use Rattle.mau_session.specs.StrategyRun.{StrategyRunOf}
use Rattle.mau_session.specs.Where.{left_where, WhereAnswer, condition_refused, variable_unbound, where_too_deep, where_overflows, where_sorts_end, where_listed}
use Rattle.mau_session.specs.RewriteAnswer.{RunTermAnswer, start_refused, start_answered, RewriteAnswer, rewrites_nothing, rewrite_unknown, rewrite_unbounded, rewrite_conditional, rewrite_answered}
use Rattle.mau_session.specs.Transcript.{TermAnswer, term_refused, term_answered, ReduceAnswer, reduces_nothing, reduce_unknown, reduce_answered, reduce_is_answered, rewrite_is_answered, TermsAnswer, pattern_refused, subject_refused, too_deep, overflows, sorts_end, listed, asks_where, MatchAnswer, command_not_built, module_unknown, bound_refused, command_answered, ContinueAnswer, number_refused, nothing_to_continue, continued, continued_where, run_continued, strategy_continued, BodyAnswer, module_accepted, module_refused, match_answered, continue_answered, strategy_is_answered, SettingAnswer, trace_not_built, trace_off, changes_nothing, module_selected, selects_none, setting_answered, ItemAnswer, item_faulty, item_answered}
use Rattle.mau_session.specs.Laws.{AsksForNoStrategy}

-- `continue` goes on with no strategy run
abbrev pub GoesOnAlone : StateOf → Type 0
GoesOnAlone st = (n : ℕ) (r : StrategyRunOf) → st.going ≡ Some (record { number = n; what = a_strategy_run r }) → ⊥

abbrev IsNoStrategy : ContinuedOf → Type 0
IsNoStrategy (a_listing q) = Unit {0}
IsNoStrategy (a_listing_where q c) = Unit {0}
IsNoStrategy (a_rule_run r) = Unit {0}
IsNoStrategy (a_strategy_run r) = ⊥

-- a command leaves none
abbrev LeavesNone : OutcomeOf → Type 0
LeavesNone is_refused = Unit {0}
LeavesNone has_ended = Unit {0}
LeavesNone (goes_on w) = IsNoStrategy w

abbrev goes_at : ℕ → ContinuedOf → GoingOf
goes_at n w = record { number = n; what = w }

no_strategy : (n k : ℕ) (w : ContinuedOf) (r : StrategyRunOf) → IsNoStrategy w → Some (goes_at n w) ≡ Some (goes_at k (a_strategy_run r)) → ⊥
no_strategy n k w r none e =
    let same : goes_at n w ≡ goes_at k (a_strategy_run r) = cc in
    by w none (ap (λ (z : GoingOf). z.what) same)
  where
    by : (w : ContinuedOf) → IsNoStrategy w → w ≡ a_strategy_run r → ⊥
    by (a_listing q) none e = absurd cc
    by (a_listing_where q c) none e = absurd cc
    by (a_rule_run q) none e = absurd cc
    by (a_strategy_run q) none e = none

module _ (st : StateOf) (alone : GoesOnAlone st) (n : ℕ) where
  after_alone : (left : OutcomeOf) → LeavesNone left → GoesOnAlone (state_after st n left)
  after_alone is_refused none = alone
  after_alone has_ended none = λ k r e. absurd cc
  after_alone (goes_on w) none = λ k r e. no_strategy n k w r none e

-- ---- what commands leave

listing_leaves : (b : Bool) (q : QueryOf) → LeavesNone (left_by b q)
listing_leaves true q = tt
listing_leaves false q = tt

where_leaves : (x : Ending) (q : QueryOf) (c : List Fragment) → LeavesNone (left_where x q c)
where_leaves no_more q c = tt
where_leaves bound_reached q c = tt
where_leaves (ends_by x) q c = tt

end_leaves : (kind : RunKind) (ns : Pairs) (s : Stand) (e : RuleEnd) → LeavesNone (left_by_end kind ns s e)
end_leaves kind ns s normal = tt
end_leaves kind ns s bound = tt

run_leaves : (kind : RunKind) (ns : Pairs) (a : RunAnswerOf) → LeavesNone (left_by_run kind ns a)
run_leaves kind ns (run_gives s e sort r) = end_leaves kind ns s e
run_leaves kind ns (run_ends e) = tt

module _ (env : Environment) (ws : List Word) (m : ModuleOf) (k : ℕ) (c : RawCommand) where
  asked_leaves : {most : Option ℕ} {p t : Tree} {ns : Pairs} {left : OutcomeOf} {b : List ℕ} → WhereAnswer env ws m k c most p t ns left b → LeavesNone left
  asked_leaves (condition_refused f u n) = tt
  asked_leaves (variable_unbound os cond x r u) = tt
  asked_leaves (where_too_deep os cond r d) = tt
  asked_leaves (where_overflows os cond r d) = tt
  asked_leaves (where_sorts_end os cond x r w h) = tt
  asked_leaves {most} {p} {t} (where_listed os cond found ending r w s h) = where_leaves ending (shown_more (asked_first (has_context c.kind) p t os) found) cond

  terms_leave : {most : Option ℕ} {left : OutcomeOf} {b : List ℕ} → TermsAnswer env ws m k c most left b → LeavesNone left
  terms_leave (pattern_refused f u n) = tt
  terms_leave (subject_refused p ns f x u n) = tt
  terms_leave (too_deep p t os r bare d) = tt
  terms_leave (overflows p t os r bare d) = tt
  terms_leave (sorts_end p t os x r bare w h) = tt
  terms_leave (listed p t os found ended r bare w known l) = listing_leaves ended (shown_more _ found)
  terms_leave (asks_where p t os left b r asked a) = asked_leaves a

  term_leaves : {left : OutcomeOf} {b : List ℕ} → TermAnswer env ws m k c left b → LeavesNone left
  term_leaves (term_refused f u n) = tt
  term_leaves (term_answered t ns a x y) = tt

  start_leaves : {asked : AskedRun} {left : OutcomeOf} {b : List ℕ} → RunTermAnswer env ws m k c asked left b → LeavesNone left
  start_leaves (start_refused f u n) = tt
  start_leaves {asked} (start_answered t ns a x y) = run_leaves asked.kind ns a

-- ---- states after items

module _ (env : Environment) (ws : List Word) (st : StateOf) (alone : GoesOnAlone st) (k : ℕ) (c : RawCommand) where
  match_alone : {u : StateOf} {b : List ℕ} {r : Bool} → MatchAnswer env ws st k c u b r → GoesOnAlone u
  match_alone (command_not_built l e) = alone
  match_alone (module_unknown t e x) = alone
  match_alone (bound_refused n m r e x h f) = alone
  match_alone (command_answered n m most left b e x h f y) = after_alone st alone n left (terms_leave env ws m k c y)

  continue_alone : {u : StateOf} {b : List ℕ} {r : Bool} → ContinueAnswer env ws st k c u b r → GoesOnAlone u
  continue_alone (number_refused r e) = alone
  continue_alone (nothing_to_continue most e n) = alone
  continue_alone (continued most n q m found b e g h l) = after_alone st alone n (left_by b (shown_more q found)) (listing_leaves b (shown_more q found))
  continue_alone (continued_where most n q cond m found b e g h l) = after_alone st alone n (left_where b (shown_more q found) cond) (where_leaves b (shown_more q found) cond)
  continue_alone (run_continued most n r m a e g h y) = after_alone st alone n (left_by_run r.kind r.variables a) (run_leaves r.kind r.variables a)
  continue_alone (strategy_continued most n r m found last d e g h l) = absurd (alone n r g)

  reduce_alone : {u : StateOf} {b : List ℕ} {r : Bool} → ReduceAnswer env ws st k c u b r → GoesOnAlone u
  reduce_alone (reduces_nothing e) = alone
  reduce_alone (reduce_unknown t e x) = alone
  reduce_alone (reduce_answered n m left b e x h y) = after_alone st alone n left (term_leaves env ws m k c y)

  rewrite_alone : {u : StateOf} {b : List ℕ} {r : Bool} → RewriteAnswer env ws st k c u b r → GoesOnAlone u
  rewrite_alone (rewrites_nothing e) = alone
  rewrite_alone (rewrite_unknown t e x) = alone
  rewrite_alone (rewrite_unbounded n m r e x h f) = alone
  rewrite_alone (rewrite_conditional n m asked q e x h f g) = alone
  rewrite_alone (rewrite_answered n m asked left b e x h f g y) = after_alone st alone n left (start_leaves env ws m k c y)

module _ (env : Environment) (ws : List Word) (st : StateOf) (alone : GoesOnAlone st) (k i : ℕ) where
  setting_alone : {x : Setting} {u : StateOf} {b : List ℕ} {r : Bool} → SettingAnswer ws st k i x u b r → GoesOnAlone u
  setting_alone trace_not_built = alone
  setting_alone trace_off = alone
  setting_alone changes_nothing = alone
  setting_alone (module_selected name n h) = alone
  setting_alone (selects_none name h) = alone

  body_alone : {x : RawBody} {u : StateOf} {b : List ℕ} {r : Bool} → ((c : RawCommand) → x ≡ Command c → c.kind ≢ Dsrewrite) → BodyAnswer env ws st k i x u b r → GoesOnAlone u
  body_alone none (module_accepted raw m x) = alone
  body_alone none (module_refused raw w x) = alone
  body_alone none (match_answered c n b r t x) = match_alone env ws st alone k c x
  body_alone none (continue_answered c n b r f t x) = continue_alone env ws st alone k c x
  body_alone none (reduce_is_answered c n b r f g t x) = reduce_alone env ws st alone k c x
  body_alone none (rewrite_is_answered c n b r f g j t x) = rewrite_alone env ws st alone k c x
  body_alone none (strategy_is_answered c n b r d x) = absurd (none c refl d)
  body_alone none (setting_answered x n b r h) = setting_alone h

module _ (env : Environment) (ws : List Word) (st : StateOf) (alone : GoesOnAlone st) (k : ℕ) (item : RawItem) (none : AsksForNoStrategy item) where
  pub item_alone : {u : StateOf} {b : List ℕ} {r : Bool} → ItemAnswer env ws st k item u b r → GoesOnAlone u
  item_alone (item_faulty f e) = alone
  item_alone (item_answered x n b r e y) = body_alone env ws st alone k (index_at ws item.at) (λ d same. none d (e ∙ ap Ok same)) y
