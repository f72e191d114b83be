-- The answers of dsrewrite commands and of what goes on with one, from what their parts give.
use Rattle.std.proofs.Common.{◌≡◌, ℕ, List, [], ◌++◌, Bool, true, false, Option, Some, Ok, refl, sym, ◌∙◌, ap, subst, append_assoc}
use Rattle.std.specs.Prelude.{slice_get}
use Rattle.mau_terms.specs.View.{tree_of}
use Rattle.mau_terms.specs.declared.bare.Bare.{Bare}
use Rattle.mau_program.specs.Trees.{StrategyOf}
use Rattle.mau_searched.specs.Searched.{is_searched}
use Rattle.mau_solutions.specs.Listings.{StrategyEnd, no_more, bound_reached, ends_by, call_depth}
use Rattle.mau_modtext.specs.Word.{Word}
use Rattle.mau_modtext.specs.declared.raw.RawCommand.{RawCommand}
use Rattle.mau_module.specs.Modules.{ModuleOf}
use Rattle.mau_session.specs.Terms.{Pairs}
use Rattle.mau_session.specs.Environment.{Environment, meanings_in}
use Rattle.mau_session.specs.State.{a_strategy_run, GoingOf, StateOf, OutcomeOf, refuses, state_after}
use Rattle.mau_session.specs.Bounds.{bound_of}
use Rattle.mau_session.specs.Answers.{continue_head}
use Rattle.mau_session.specs.Lines.{end_line}
use Rattle.mau_session.specs.StrategyRun.{StrategyRunOf, begun_strategy, shown_further}
use Rattle.mau_session.specs.StrategyLines.{strategy_head, strategy_lines, left_by_strategy}
use Rattle.mau_session.specs.StrategyAnswer.{StrategyIsRead, StrategyTermAnswer, term_ends, solutions_listed}
use Rattle.mau_session.specs.StrategyGains.{GainsSolutions, GainsBegun, begins_not, begins_at, GainsStrategyTerm, GainsStrategyOn}
use Rattle.mau_session.specs.Transcript.{ContinueAnswer, strategy_continued}
use Rattle.mau_session.specs.Gains.{GainsContinue}
use Rattle.mau_session.proofs.Answering.{after_taken}

-- a run refuses nothing
strategy_goes : (x : StrategyEnd) (r : StrategyRunOf) → refuses (left_by_strategy x r) ≡ false
strategy_goes no_more r = refl
strategy_goes bound_reached r = refl
strategy_goes (ends_by e) r = refl
strategy_goes call_depth r = refl

-- the answer of a command that continues a strategy run
pub continues_strategy : (e : Environment) (ws : List Word) (st : StateOf) (taken : Option GoingOf) (k : ℕ) (c : RawCommand) (most : Option ℕ) (i : ℕ) (r : StrategyRunOf) (next : StateOf) (o n : List ℕ) (refused : Bool)
    → bound_of ws c.bound ≡ Ok most → st.going ≡ Some (record { number = i; what = a_strategy_run r }) → GainsStrategyOn e (record st { going = taken }) k i r most next o n refused
    → GainsContinue e ws st k c next o n refused
continues_strategy e ws st taken k c most i r next o n refused bound going on =
    let bytes = continue_head k on.«module» ++ strategy_lines on.«module» e.budget r on.found on.end in
    let left = left_by_strategy on.end (shown_further r on.found on.last) in
    record {
      bytes = bytes;
      answer = subst (λ s. ContinueAnswer e ws st k c s bytes refused) (sym (on.after ∙ after_taken st taken i left (strategy_goes on.end (shown_further r on.found on.last))))
          (subst (λ b. ContinueAnswer e ws st k c (state_after st i left) bytes b) (sym on.answered)
          (strategy_continued most i r on.«module» on.found on.last on.end bound going on.there on.lists));
      gained = on.gained;
    }

-- what a strategy run leaves that goes on, behind the first line of the answer
pub gains_strategy_on : (e : Environment) (st : StateOf) (k i : ℕ) (r : StrategyRunOf) (most : Option ℕ) (m : ModuleOf) (there : slice_get st.modules i ≡ Some m)
    (after : StateOf) (o a n : List ℕ) (left : OutcomeOf) (refused : Bool) → a ≡ o ++ continue_head k m → GainsSolutions m (meanings_in e m) most r a n left
    → after ≡ state_after st i left → refused ≡ refuses left → GainsStrategyOn e st k i r most after o n refused
gains_strategy_on e st k i r most m there after o a n left refused head g is answered = record {
  «module» = m;
  there = there;
  found = g.found;
  last = g.last;
  end = g.end;
  lists = g.lists;
  after = is ∙ ap (state_after st i) g.leaves;
  gained = g.gained ∙ ap (λ x. x ++ strategy_lines m e.budget r g.found g.end) head ∙ append_assoc o (continue_head k m) (strategy_lines m e.budget r g.found g.end);
  answered = answered ∙ ap refuses g.leaves ∙ strategy_goes g.end (shown_further r g.found g.last);
}

-- the answer of a dsrewrite command whose term and strategy are read
pub gains_strategy_term : (e : Environment) (ws : List Word) (m : ModuleOf) (k i : ℕ) (c : RawCommand) (most : Option ℕ) (t : Bare) (x : StrategyOf) (os : Pairs) → StrategyIsRead ws m c t x os
    → is_searched m.statements.rules m.statements.strategies x ≡ true → (o a n : List ℕ) (left : OutcomeOf) → a ≡ o ++ strategy_head k m → GainsBegun m (meanings_in e m) e.remembers (tree_of t) x os most left a n → GainsStrategyTerm e ws m k i c most o n left
gains_strategy_term e ws m k i c most t x os reads is o _ _ _ head (begins_not end a n may g) = record {
  bytes = strategy_head k m ++ end_line e.budget end;
  answer = term_ends t x os end reads is may;
  gained = g ∙ ap (λ z. z ++ end_line e.budget end) head ∙ append_assoc o (strategy_head k m) (end_line e.budget end);
}
gains_strategy_term e ws m k i c most t x os reads is o _ _ _ head (begins_at v sort count left a n may g) =
    let r = begun_strategy x v os in
    let bytes = strategy_head k m ++ strategy_lines m e.budget r g.found g.end in
    record {
      bytes = bytes;
      answer = subst (λ l. StrategyTermAnswer e ws m k i c most l bytes) (sym g.leaves) (solutions_listed t x os v sort count g.found g.last g.end reads is may g.lists);
      gained = g.gained ∙ ap (λ z. z ++ strategy_lines m e.budget r g.found g.end) head ∙ append_assoc o (strategy_head k m) (strategy_lines m e.budget r g.found g.end);
    }
