use Rattle.std.proofs.Common.{ℕ, ◌+◌, ◌≤◌, List, ◌++◌, Bool, ◌||◌, drop}
use Rattle.mau_session.specs.KeptState.{state_of, IsReadyState}
use Rattle.mau_session.specs.State.{at_first}
use Rattle.mau_formula.specs.Operators.{operators}
use Rattle.mau_session.specs.Environment.{environment_of}
use Rattle.mau_session.specs.Transcript.{ItemsAnswer}
use Rattle.mau_session.proofs.answer.answer_each.Given as goal

abbrev pub invariant-loop-item : goal.invariant-loop-item
invariant-loop-item g l = record {
  ready : IsReadyState (environment_of (operators l.session.hooks.now) l.session.limit) l.state;
  few : l.number ≤ l.item-index + 1;
  rest : (more : List ℕ) (later : Bool) → ItemsAnswer (environment_of (operators l.session.hooks.now) l.session.limit) l.session.words.now (state_of l.state) l.number (drop l.item-index l.items) more later → ItemsAnswer (environment_of (operators l.session.hooks.now) l.session.limit) l.session.words.now at_first 1 l.items (l.out.items ++ more) (l.refused || later);
}
