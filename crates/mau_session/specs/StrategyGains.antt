-- What the answers of strategy runs add to the bytes so far.
use Rattle.std.specs.Prelude.{◌≡◌, ℕ, List, ◌++◌, Bool, false, Option, slice_get, Some}
use Rattle.mau_terms.specs.Tree.{Tree}
use Rattle.mau_program.specs.Trees.{StrategyOf}
use Rattle.mau_evaluation.specs.Run.{End, stopped, too_deep, overflowed}
use Rattle.mau_api.specs.Meanings.{Meanings}
use Rattle.mau_api.specs.declared.results.EvalEnd.{EvalEnd}
use Rattle.mau_api.specs.declared.results.EvalEnd.TheVariants.{Stopped, TooDeep, Overflow, NoMemory}
use Rattle.mau_results.specs.Results.{gives_value, ends_by, MayAnswer}
use Rattle.mau_solutions.specs.Listings.{ReachedOf, StrategyEnd, ListsSolutions}
use Rattle.mau_modtext.specs.Word.{Word}
use Rattle.mau_modtext.specs.declared.raw.RawCommand.{RawCommand}
use Rattle.mau_module.specs.Modules.{ModuleOf}
use Rattle.mau_session.specs.Terms.{Pairs}
use Rattle.mau_session.specs.Environment.{Environment, meanings_in}
use Rattle.mau_session.specs.State.{StateOf, OutcomeOf, has_ended, state_after}
use Rattle.mau_session.specs.Answers.{continue_head}
use Rattle.mau_session.specs.Lines.{end_line}
use Rattle.mau_session.specs.StrategyRun.{StrategyRunOf, definitions_of, begun_strategy, shown_further}
use Rattle.mau_session.specs.StrategyLines.{strategy_lines, left_by_strategy}
use Rattle.mau_session.specs.StrategyAnswer.{StrategyTermAnswer, StrategyAnswer}

-- an evaluation of t may end so; of want of memory nothing is said
abbrev pub MayEndSo : Meanings → Bool → Tree → EvalEnd → Type 0
MayEndSo m w t Stopped = MayAnswer m w t (ends_by stopped)
MayEndSo m w t TooDeep = MayAnswer m w t (ends_by too_deep)
MayEndSo m w t Overflow = MayAnswer m w t (ends_by overflowed)
MayEndSo m w t NoMemory = Unit {0}

-- the bytes gained are those of solutions of a strategy run from where it stands, by the budget of the meanings
pub record GainsSolutions (m : ModuleOf) (means : Meanings) (most : Option ℕ) (r : StrategyRunOf) (old new : List ℕ) (left : OutcomeOf) : Type 0 where
  pub found : List (Tree × ℕ)
  pub last : ReachedOf
  pub end : StrategyEnd
  pub lists : ListsSolutions means (definitions_of m) r.reached most found last end
  pub leaves : left ≡ left_by_strategy end (shown_further r found last)
  pub gained : new ≡ old ++ strategy_lines m means.limit r found end

-- The bytes gained behind the head of the answer, where the term t and the strategy x were read, with the variables os: those of an end of the evaluation of t, or of
-- the solutions from its value.
pub data GainsBegun (m : ModuleOf) (means : Meanings) (remembered : Bool) (t : Tree) (x : StrategyOf) (os : Pairs) (most : Option ℕ) : OutcomeOf → List ℕ → List ℕ → Type 0 where
  begins_not : (end : End) (old new : List ℕ) → MayAnswer means remembered t (ends_by end) → new ≡ old ++ end_line means.limit end
      → GainsBegun m means remembered t x os most has_ended old new
  begins_at : (v : Tree) (sort count : ℕ) (left : OutcomeOf) (old new : List ℕ) → MayAnswer means remembered t (gives_value v sort count)
      → GainsSolutions m means most (begun_strategy x v os) old new left → GainsBegun m means remembered t x os most left old new

-- the bytes of the term and the strategy of a dsrewrite command
pub record GainsStrategyTerm (e : Environment) (ws : List Word) (m : ModuleOf) (k i : ℕ) (c : RawCommand) (most : Option ℕ) (old new : List ℕ) (left : OutcomeOf) : Type 0 where
  pub bytes : List ℕ
  pub answer : StrategyTermAnswer e ws m k i c most left bytes
  pub gained : new ≡ old ++ bytes

pub record GainsStrategy (e : Environment) (ws : List Word) (st : StateOf) (k i : ℕ) (c : RawCommand) (next : StateOf) (old new : List ℕ) (refused : Bool) : Type 0 where
  pub bytes : List ℕ
  pub answer : StrategyAnswer e ws st k i c next bytes refused
  pub gained : new ≡ old ++ bytes

-- a strategy run over the module with the number n has gone on
pub record GainsStrategyOn (e : Environment) (st : StateOf) (k n : ℕ) (r : StrategyRunOf) (most : Option ℕ) (next : StateOf) (old new : List ℕ) (refused : Bool) : Type 0 where
  pub «module» : ModuleOf
  pub there : slice_get st.modules n ≡ Some «module»
  pub found : List (Tree × ℕ)
  pub last : ReachedOf
  pub end : StrategyEnd
  pub lists : ListsSolutions (meanings_in e «module») (definitions_of «module») r.reached most found last end
  pub after : next ≡ state_after st n (left_by_strategy end (shown_further r found last))
  pub gained : new ≡ old ++ (continue_head k «module» ++ strategy_lines «module» e.budget r found end)
  pub answered : refused ≡ false
