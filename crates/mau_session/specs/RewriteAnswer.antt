-- The answer of a rewrite command.
use Rattle.std.specs.Prelude.{◌≡◌, ◌≢◌, ℕ, List, [], ◌++◌, Bool, true, false, Option, Some, None, Ok, Err, slice_get}
use Rattle.mau_terms.specs.View.{tree_of}
use Rattle.mau_terms.specs.declared.bare.Bare.{Bare}
use Rattle.mau_tokens.specs.declared.token.Token.{Token}
use Rattle.mau_modtext.specs.Word.{Word}
use Rattle.mau_modtext.specs.declared.raw.RawCommand.{RawCommand}
use Rattle.mau_parse.specs.declared.goals.Goal.TheVariants.{AnyKind}
use Rattle.mau_parse.specs.declared.fault.ParseFault.{ParseFault}
use Rattle.mau_parse.specs.declared.fault.ParseFault.TheVariants.{NoMemory as NoMemoryOfParse}
use Rattle.mau_declare.specs.Words.{token_index, first_index}
use Rattle.mau_statement.specs.Parts.{TermReads, IsUnread, is_empty}
use Rattle.mau_results.specs.Runs.{run_from, run_by, RunAnswerOf, MayRun}
use Rattle.mau_module.specs.Modules.{ModuleOf}
use Rattle.mau_session.specs.declared.refusal.Refusal.{Refusal}
use Rattle.mau_session.specs.declared.refusal.Refusal.TheVariants.{NotBuilt, UnknownModule, RewritingCondition}
use Rattle.mau_session.specs.Terms.{Pairs}
use Rattle.mau_session.specs.Environment.{Environment, meanings_in}
use Rattle.mau_session.specs.State.{StateOf, IsChosen, NamesNone, OutcomeOf, is_refused, refuses, state_after}
use Rattle.mau_session.specs.declared.asked_run.AskedRun.{AskedRun}
use Rattle.mau_session.specs.Bounds.{asked_run}
use Rattle.mau_session.specs.Answers.{refusal_line, parse_fault_line}
use Rattle.mau_session.specs.RuleRun.{rewriting_condition}
use Rattle.mau_session.specs.RunLines.{run_head, run_lines, left_by_run}

-- The term is read in any kind. What may be answered for the run that is asked for from it on is shown, with the budget of the item; where as many rewrites as
-- were asked for were made the run may go on.
pub data RunTermAnswer (e : Environment) (ws : List Word) (m : ModuleOf) (k : ℕ) (c : RawCommand) (asked : AskedRun) : OutcomeOf → List ℕ → Type 0 where
  start_refused : (f : ParseFault) → IsUnread ws m.grammar c.first AnyKind [] f → f ≢ NoMemoryOfParse → RunTermAnswer e ws m k c asked is_refused (parse_fault_line k f)
  start_answered : (t : Bare) (ns : Pairs) (a : RunAnswerOf) → TermReads ws m.grammar c.first AnyKind [] ns t
      → MayRun (meanings_in e m) e.remembers (run_by (meanings_in e m) asked.kind asked.most (run_from (tree_of t))) a
      → RunTermAnswer e ws m k c asked (left_by_run asked.kind ns a) (run_head k asked.kind m ++ run_lines m ns e.budget a)

-- The state after the rewrite command is told. The place of a term without tokens, which no command has, is refused before its module is looked for; then
-- the numbers of the command, and a module in which a condition rewrites, before the term is read.
pub data RewriteAnswer (e : Environment) (ws : List Word) (st : StateOf) (k : ℕ) (c : RawCommand) : StateOf → List ℕ → Bool → Type 0 where
  rewrites_nothing : is_empty ws c.first ≡ true → RewriteAnswer e ws st k c st (refusal_line k ws (NotBuilt (first_index ws c.first))) true
  rewrite_unknown : (t : Token) → is_empty ws c.first ≡ false → NamesNone ws st c t → RewriteAnswer e ws st k c st (refusal_line k ws (UnknownModule (token_index ws t))) true
  rewrite_unbounded : (n : ℕ) (m : ModuleOf) (r : Refusal) → is_empty ws c.first ≡ false → IsChosen ws st c n → slice_get st.modules n ≡ Some m
      → asked_run ws c ≡ Err r → RewriteAnswer e ws st k c st (refusal_line k ws r) true
  rewrite_conditional : (n : ℕ) (m : ModuleOf) (asked : AskedRun) (q : ℕ) → is_empty ws c.first ≡ false → IsChosen ws st c n → slice_get st.modules n ≡ Some m
      → asked_run ws c ≡ Ok asked → rewriting_condition m ≡ Some q → RewriteAnswer e ws st k c st (refusal_line k ws (RewritingCondition q)) true
  rewrite_answered : (n : ℕ) (m : ModuleOf) (asked : AskedRun) (left : OutcomeOf) (bytes : List ℕ) → is_empty ws c.first ≡ false → IsChosen ws st c n → slice_get st.modules n ≡ Some m
      → asked_run ws c ≡ Ok asked → rewriting_condition m ≡ None → RunTermAnswer e ws m k c asked left bytes
      → RewriteAnswer e ws st k c (state_after st n left) bytes (refuses left)
