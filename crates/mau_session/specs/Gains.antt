-- What an answer adds to the bytes so far.
use Rattle.std.specs.Prelude.{◌≡◌, ℕ, List, ◌++◌, Bool, true, false, Option, None, Some, Ok, Err, slice_get}
use Rattle.mau_terms.specs.Tree.{Tree}
use Rattle.mau_terms.specs.Norm.{norm}
use Rattle.mau_canon.specs.declared.fault.BuildFault.TheVariants.{TooDeep, Overflow}
use Rattle.mau_canon.specs.Within.{IsWithin, IsCause}
use Rattle.mau_listing.specs.Matcher.{Matcher}
use Rattle.mau_modtext.specs.Word.{Word}
use Rattle.mau_modtext.specs.declared.raw.RawItem.{RawItem}
use Rattle.mau_modtext.specs.declared.raw.RawBody.{RawBody}
use Rattle.mau_modtext.specs.declared.raw.RawCommand.{RawCommand}
use Rattle.mau_modtext.specs.declared.raw.Setting.{Setting}
use Rattle.mau_program.specs.declared.statements.Fragment.{Fragment}
use Rattle.mau_evaluation.specs.Run.{End, stopped, too_deep, overflowed}
use Rattle.mau_api.specs.declared.results.EvalEnd.{EvalEnd}
use Rattle.mau_api.specs.declared.results.EvalEnd.TheVariants.{Stopped, TooDeep as EndsTooDeep, Overflow as Overflows, NoMemory}
use Rattle.mau_conditional.specs.Where.{Ending}
use Rattle.mau_module.specs.Modules.{ModuleOf}
use Rattle.mau_session.specs.Terms.{Pairs, terms_in}
use Rattle.mau_session.specs.Matching.{Shows}
use Rattle.mau_session.specs.Settled.{AreSortsKnown, SortsEnd}
use Rattle.mau_session.specs.Environment.{Environment, meanings_in}
use Rattle.mau_session.specs.Query.{QueryOf, asked_first, shown_more}
use Rattle.mau_session.specs.State.{StateOf, OutcomeOf, has_ended, left_by, refuses, state_after}
use Rattle.mau_session.specs.Bounds.{bound_of}
use Rattle.mau_session.specs.declared.refusal.Refusal.{Refusal}
use Rattle.mau_api.specs.Meanings.{Meanings}
use Rattle.mau_results.specs.Results.{AnswerOf, MayAnswer}
use Rattle.mau_session.specs.Lines.{too_deep_line, overflow_line, end_line, answer_lines}
use Rattle.mau_session.specs.Where.{ShowsWhere, left_where, where_lines, WhereAnswer}
use Rattle.mau_session.specs.Answers.{refusal_line, continue_head, listing_lines}
use Rattle.mau_session.specs.Transcript.{TermsAnswer, MatchAnswer, ContinueAnswer, TermAnswer, ReduceAnswer, SettingAnswer, BodyAnswer, ItemAnswer}

-- an end of an evaluator, which is not want of memory
abbrev pub IsEnd : EvalEnd → End → Type 0
IsEnd Stopped x = x ≡ stopped
IsEnd EndsTooDeep x = x ≡ too_deep
IsEnd Overflows x = x ≡ overflowed
IsEnd NoMemory x = ⊥

-- the bytes gained are the lines of the listing
pub record GainsListing (m : ModuleOf) (e : Meanings) (q : QueryOf) (most : Option ℕ) (left : OutcomeOf) (old new : List ℕ) : Type 0 where
  pub found : List Matcher
  pub ended : Bool
  pub listing : Shows m e q.with_context q.pattern q.subject q.last most found ended
  pub leaves : left ≡ left_by ended (shown_more q found)
  pub gained : new ≡ old ++ listing_lines m q.variables q.with_context q.pattern q.shown found ended

-- the bytes gained are the lines of the listing, or the end where the subject's normal form is beyond the limits
pub data GainsListed (m : ModuleOf) (e : Meanings) (q : QueryOf) (most : Option ℕ) : OutcomeOf → List ℕ → List ℕ → Type 0 where
  gains_solutions : (left : OutcomeOf) (old new : List ℕ) → IsWithin (terms_in m).theory (norm (terms_in m).theory q.subject) → AreSortsKnown e (norm (terms_in m).theory q.subject) → GainsListing m e q most left old new
      → GainsListed m e q most left old new
  gains_sorts_end : (x : End) (old new : List ℕ) → IsWithin (terms_in m).theory (norm (terms_in m).theory q.subject) → SortsEnd e (norm (terms_in m).theory q.subject) x → new ≡ old ++ end_line e.limit x
      → GainsListed m e q most has_ended old new
  gains_too_deep : (old new : List ℕ) → IsCause (terms_in m).theory (norm (terms_in m).theory q.subject) TooDeep → new ≡ old ++ too_deep_line → GainsListed m e q most has_ended old new
  gains_overflow : (old new : List ℕ) → IsCause (terms_in m).theory (norm (terms_in m).theory q.subject) Overflow → new ≡ old ++ overflow_line → GainsListed m e q most has_ended old new

-- the bytes of a match command with a condition, whose pattern p and subject t were read
pub record GainsWhere (e : Environment) (ws : List Word) (m : ModuleOf) (k : ℕ) (c : RawCommand) (most : Option ℕ) (p t : Tree) (ns : Pairs) (old new : List ℕ) (left : OutcomeOf) : Type 0 where
  pub bytes : List ℕ
  pub answer : WhereAnswer e ws m k c most p t ns left bytes
  pub gained : new ≡ old ++ bytes

-- the bytes gained behind its head, where its condition is cond
pub record GainsListingWhere (m : ModuleOf) (e : Meanings) (cond : List Fragment) (q : QueryOf) (most : Option ℕ) (left : OutcomeOf) (old new : List ℕ) : Type 0 where
  pub found : List Matcher
  pub ending : Ending
  pub listing : ShowsWhere m e cond q most found ending
  pub leaves : left ≡ left_where ending (shown_more q found) cond
  pub gained : new ≡ old ++ where_lines m e.limit q found ending

pub data GainsListedWhere (m : ModuleOf) (e : Meanings) (cond : List Fragment) (q : QueryOf) (most : Option ℕ) : OutcomeOf → List ℕ → List ℕ → Type 0 where
  gains_solutions_where : (left : OutcomeOf) (old new : List ℕ) → IsWithin (terms_in m).theory (norm (terms_in m).theory q.subject) → AreSortsKnown e (norm (terms_in m).theory q.subject)
      → GainsListingWhere m e cond q most left old new → GainsListedWhere m e cond q most left old new
  gains_sorts_end_where : (x : End) (old new : List ℕ) → IsWithin (terms_in m).theory (norm (terms_in m).theory q.subject) → SortsEnd e (norm (terms_in m).theory q.subject) x
      → new ≡ old ++ end_line e.limit x → GainsListedWhere m e cond q most has_ended old new
  gains_too_deep_where : (old new : List ℕ) → IsCause (terms_in m).theory (norm (terms_in m).theory q.subject) TooDeep → new ≡ old ++ too_deep_line
      → GainsListedWhere m e cond q most has_ended old new
  gains_overflow_where : (old new : List ℕ) → IsCause (terms_in m).theory (norm (terms_in m).theory q.subject) Overflow → new ≡ old ++ overflow_line
      → GainsListedWhere m e cond q most has_ended old new

pub record GainsTerms (e : Environment) (ws : List Word) (m : ModuleOf) (k : ℕ) (c : RawCommand) (most : Option ℕ) (old new : List ℕ) (left : OutcomeOf) : Type 0 where
  pub bytes : List ℕ
  pub answer : TermsAnswer e ws m k c most left bytes
  pub gained : new ≡ old ++ bytes

-- the bytes of a match command over the module with the number n
pub data ChosenAnswer (e : Environment) (ws : List Word) (st : StateOf) (k : ℕ) (c : RawCommand) (n : ℕ) : StateOf → List ℕ → Bool → Type 0 where
  chosen_refused : (m : ModuleOf) (r : Refusal) → slice_get st.modules n ≡ Some m → bound_of ws c.bound ≡ Err r → ChosenAnswer e ws st k c n st (refusal_line k ws r) true
  chosen_answered : (m : ModuleOf) (most : Option ℕ) (left : OutcomeOf) (bytes : List ℕ) → slice_get st.modules n ≡ Some m → bound_of ws c.bound ≡ Ok most
      → TermsAnswer e ws m k c most left bytes → ChosenAnswer e ws st k c n (state_after st n left) bytes (refuses left)

pub record GainsChosen (e : Environment) (ws : List Word) (st : StateOf) (k : ℕ) (c : RawCommand) (n : ℕ) (next : StateOf) (old new : List ℕ) (refused : Bool) : Type 0 where
  pub bytes : List ℕ
  pub answer : ChosenAnswer e ws st k c n next bytes refused
  pub gained : new ≡ old ++ bytes

pub record GainsMatch (e : Environment) (ws : List Word) (st : StateOf) (k : ℕ) (c : RawCommand) (next : StateOf) (old new : List ℕ) (refused : Bool) : Type 0 where
  pub bytes : List ℕ
  pub answer : MatchAnswer e ws st k c next bytes refused
  pub gained : new ≡ old ++ bytes

-- a query over the module with the number n has gone on
pub record GainsOn (e : Environment) (st : StateOf) (k n : ℕ) (q : QueryOf) (most : Option ℕ) (next : StateOf) (old new : List ℕ) (refused : Bool) : Type 0 where
  pub «module» : ModuleOf
  pub there : slice_get st.modules n ≡ Some «module»
  pub found : List Matcher
  pub ended : Bool
  pub shows : Shows «module» (meanings_in e «module») q.with_context q.pattern q.subject q.last most found ended
  pub after : next ≡ state_after st n (left_by ended (shown_more q found))
  pub gained : new ≡ old ++ (continue_head k «module» ++ listing_lines «module» q.variables q.with_context q.pattern q.shown found ended)
  pub answered : refused ≡ false

-- the same with a condition
pub record GainsOnWhere (e : Environment) (st : StateOf) (k n : ℕ) (q : QueryOf) (cond : List Fragment) (most : Option ℕ) (next : StateOf) (old new : List ℕ) (refused : Bool) : Type 0 where
  pub «module» : ModuleOf
  pub there : slice_get st.modules n ≡ Some «module»
  pub found : List Matcher
  pub ending : Ending
  pub shows : ShowsWhere «module» (meanings_in e «module») cond q most found ending
  pub after : next ≡ state_after st n (left_where ending (shown_more q found) cond)
  pub gained : new ≡ old ++ (continue_head k «module» ++ where_lines «module» e.budget q found ending)
  pub answered : refused ≡ false

pub record GainsContinue (e : Environment) (ws : List Word) (st : StateOf) (k : ℕ) (c : RawCommand) (next : StateOf) (old new : List ℕ) (refused : Bool) : Type 0 where
  pub bytes : List ℕ
  pub answer : ContinueAnswer e ws st k c next bytes refused
  pub gained : new ≡ old ++ bytes

pub record GainsSetting (ws : List Word) (st : StateOf) (k i : ℕ) (s : Setting) (next : StateOf) (old new : List ℕ) (refused : Bool) : Type 0 where
  pub bytes : List ℕ
  pub answer : SettingAnswer ws st k i s next bytes refused
  pub gained : new ≡ old ++ bytes

-- the bytes gained are those of an allowed answer for the term t, by the budget of the meanings
pub record GainsAnswer (m : ModuleOf) (means : Meanings) (remembered : Bool) (ns : Pairs) (t : Tree) (old new : List ℕ) : Type 0 where
  pub answer : AnswerOf
  pub allowed : MayAnswer means remembered t answer
  pub gained : new ≡ old ++ answer_lines m ns means.limit answer

-- the bytes of the term of a reduce command
pub record GainsTerm (e : Environment) (ws : List Word) (m : ModuleOf) (k : ℕ) (c : RawCommand) (old new : List ℕ) (left : OutcomeOf) : Type 0 where
  pub bytes : List ℕ
  pub answer : TermAnswer e ws m k c left bytes
  pub gained : new ≡ old ++ bytes

pub record GainsReduce (e : Environment) (ws : List Word) (st : StateOf) (k : ℕ) (c : RawCommand) (next : StateOf) (old new : List ℕ) (refused : Bool) : Type 0 where
  pub bytes : List ℕ
  pub answer : ReduceAnswer e ws st k c next bytes refused
  pub gained : new ≡ old ++ bytes

pub record GainsBody (e : Environment) (ws : List Word) (st : StateOf) (k i : ℕ) (b : RawBody) (next : StateOf) (old new : List ℕ) (refused : Bool) : Type 0 where
  pub bytes : List ℕ
  pub answer : BodyAnswer e ws st k i b next bytes refused
  pub gained : new ≡ old ++ bytes

pub record GainsItem (e : Environment) (ws : List Word) (st : StateOf) (k : ℕ) (item : RawItem) (next : StateOf) (old new : List ℕ) (refused : Bool) : Type 0 where
  pub bytes : List ℕ
  pub answer : ItemAnswer e ws st k item next bytes refused
  pub gained : new ≡ old ++ bytes
