-- The answer of a dsrewrite command.
use Rattle.std.specs.Prelude.{◌≡◌, ◌≢◌, ℕ, List, [], ◌++◌, Bool, true, false, Option, Some, None, Ok, Err, slice_get}
use Rattle.mau_terms.specs.Tree.{Tree}
use Rattle.mau_terms.specs.View.{tree_of}
use Rattle.mau_terms.specs.declared.bare.Bare.{Bare}
use Rattle.mau_tokens.specs.declared.token.Token.{Token}
use Rattle.mau_modtext.specs.Word.{Word}
use Rattle.mau_modtext.specs.declared.raw.RawCommand.{RawCommand}
use Rattle.mau_parse.specs.declared.goals.Goal.TheVariants.{AnyKind}
use Rattle.mau_parse.specs.declared.fault.ParseFault.{ParseFault}
use Rattle.mau_parse.specs.declared.fault.ParseFault.TheVariants.{NoMemory as NoMemoryOfParse}
use Rattle.mau_program.specs.Trees.{StrategyOf}
use Rattle.mau_searched.specs.Searched.{is_searched}
use Rattle.mau_declare.specs.Words.{token_index}
use Rattle.mau_evaluation.specs.Run.{End}
use Rattle.mau_statement.specs.Parts.{TermReads, IsUnread}
use Rattle.mau_strattext.specs.Strategies.{StrategyRead}
use Rattle.mau_strattext.specs.declared.fault.StratFault.{StratFault}
use Rattle.mau_strattext.specs.declared.fault.StratFault.TheVariants.{NoMemory as NoMemoryOfStrategy}
use Rattle.mau_results.specs.Results.{gives_value, ends_by, MayAnswer}
use Rattle.mau_solutions.specs.Listings.{ReachedOf, StrategyEnd, ListsSolutions}
use Rattle.mau_module.specs.Modules.{ModuleOf}
use Rattle.mau_session.specs.declared.refusal.Refusal.{Refusal}
use Rattle.mau_session.specs.declared.refusal.Refusal.TheVariants.{NotBuilt, UnknownModule}
use Rattle.mau_session.specs.Terms.{Pairs}
use Rattle.mau_session.specs.Environment.{Environment, meanings_in}
use Rattle.mau_session.specs.State.{StateOf, IsChosen, NamesNone, OutcomeOf, is_refused, has_ended, refuses, state_after}
use Rattle.mau_session.specs.Bounds.{bound_of}
use Rattle.mau_session.specs.Commands.{unbuilt}
use Rattle.mau_session.specs.Answers.{refusal_line, parse_fault_line}
use Rattle.mau_session.specs.Lines.{end_line}
use Rattle.mau_session.specs.RuleRun.{rewriting_condition}
use Rattle.mau_session.specs.StrategyRun.{strategy_setting, definitions_of, begun_strategy, shown_further}
use Rattle.mau_session.specs.StrategyLines.{strategy_fault_line, strategy_head, strategy_lines, left_by_strategy}

-- the term is read in any kind, and the strategy behind its variables
pub record StrategyIsRead (ws : List Word) (m : ModuleOf) (c : RawCommand) (t : Bare) (x : StrategyOf) (os : Pairs) : Type 0 where
  pub pairs : Pairs
  pub term : TermReads ws m.grammar c.first AnyKind [] pairs t
  pub strategy : StrategyRead (strategy_setting ws m c.second) pairs os (Ok x)

-- A strategy that is not searched for yet is refused at the command's word, which is the word i, before anything is written. Otherwise what may be answered for
-- the term, with the budget of the item, is an end, and then it is the item's; or a value, from which the solutions of the strategy are listed, at most so many,
-- or all.
pub data StrategyTermAnswer (e : Environment) (ws : List Word) (m : ModuleOf) (k i : ℕ) (c : RawCommand) (most : Option ℕ) : OutcomeOf → List ℕ → Type 0 where
  term_unread : (f : ParseFault) → IsUnread ws m.grammar c.first AnyKind [] f → f ≢ NoMemoryOfParse → StrategyTermAnswer e ws m k i c most is_refused (parse_fault_line k f)
  strategy_unread : (t : Bare) (ns : Pairs) (f : StratFault) → TermReads ws m.grammar c.first AnyKind [] ns t → StrategyRead (strategy_setting ws m c.second) ns ns (Err f)
      → f ≢ NoMemoryOfStrategy → StrategyTermAnswer e ws m k i c most is_refused (strategy_fault_line k f)
  not_searched : (t : Bare) (x : StrategyOf) (os : Pairs) → StrategyIsRead ws m c t x os → is_searched m.statements.rules m.statements.strategies x ≡ false
      → StrategyTermAnswer e ws m k i c most is_refused (refusal_line k ws (NotBuilt i))
  term_ends : (t : Bare) (x : StrategyOf) (os : Pairs) (end : End) → StrategyIsRead ws m c t x os → is_searched m.statements.rules m.statements.strategies x ≡ true
      → MayAnswer (meanings_in e m) e.remembers (tree_of t) (ends_by end) → StrategyTermAnswer e ws m k i c most has_ended (strategy_head k m ++ end_line e.budget end)
  solutions_listed : (t : Bare) (x : StrategyOf) (os : Pairs) (v : Tree) (sort count : ℕ) (found : List (Tree × ℕ)) (last : ReachedOf) (end : StrategyEnd)
      → StrategyIsRead ws m c t x os → is_searched m.statements.rules m.statements.strategies x ≡ true → MayAnswer (meanings_in e m) e.remembers (tree_of t) (gives_value v sort count)
      → ListsSolutions (meanings_in e m) (definitions_of m) (begun_strategy x v os).reached most found last end
      → StrategyTermAnswer e ws m k i c most (left_by_strategy end (shown_further (begun_strategy x v os) found last))
      (strategy_head k m ++ strategy_lines m e.budget (begun_strategy x v os) found end)

-- The state after the dsrewrite command is told, which begins at the word i. The place of a term or a strategy without tokens, which no command has, is refused
-- before its module is looked for; then, at the command's word, a module in which the condition of a rule that may be used rewrites, since runs there aren't built
-- yet; and then its bound, before the term is read.
pub data StrategyAnswer (e : Environment) (ws : List Word) (st : StateOf) (k i : ℕ) (c : RawCommand) : StateOf → List ℕ → Bool → Type 0 where
  strategy_unplaced : (l : ℕ) → unbuilt ws c ≡ Some l → StrategyAnswer e ws st k i c st (refusal_line k ws (NotBuilt l)) true
  strategy_unknown : (t : Token) → unbuilt ws c ≡ None → NamesNone ws st c t → StrategyAnswer e ws st k i c st (refusal_line k ws (UnknownModule (token_index ws t))) true
  strategy_not_built : (n : ℕ) (m : ModuleOf) (q : ℕ) → unbuilt ws c ≡ None → IsChosen ws st c n → slice_get st.modules n ≡ Some m
      → rewriting_condition m ≡ Some q → StrategyAnswer e ws st k i c st (refusal_line k ws (NotBuilt i)) true
  strategy_unbounded : (n : ℕ) (m : ModuleOf) (r : Refusal) → unbuilt ws c ≡ None → IsChosen ws st c n → slice_get st.modules n ≡ Some m
      → rewriting_condition m ≡ None → bound_of ws c.bound ≡ Err r → StrategyAnswer e ws st k i c st (refusal_line k ws r) true
  strategy_answered : (n : ℕ) (m : ModuleOf) (most : Option ℕ) (left : OutcomeOf) (bytes : List ℕ) → unbuilt ws c ≡ None → IsChosen ws st c n
      → slice_get st.modules n ≡ Some m → rewriting_condition m ≡ None → bound_of ws c.bound ≡ Ok most → StrategyTermAnswer e ws m k i c most left bytes
      → StrategyAnswer e ws st k i c (state_after st n left) bytes (refuses left)
