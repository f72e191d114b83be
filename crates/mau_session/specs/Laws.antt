-- Laws of transcripts.
use Rattle.std.specs.Prelude.{◌≡◌, ◌≢◌, ℕ, ◌+◌, List, ◌∷◌, Bool, false, Some, Ok, All, slice_get}
use Rattle.mau_tokens.specs.declared.token.Token.{Token}
use Rattle.mau_tokens.specs.TokensOf.{TokensOf}
use Rattle.mau_modtext.specs.Word.{Word}
use Rattle.mau_modtext.specs.Words.{words_of}
use Rattle.mau_modtext.specs.Items.{AreItems}
use Rattle.mau_modtext.specs.declared.raw.RawItem.{RawItem}
use Rattle.mau_modtext.specs.declared.raw.RawBody.TheVariants.{Command}
use Rattle.mau_modtext.specs.declared.raw.RawCommand.{RawCommand}
use Rattle.mau_modtext.specs.declared.raw.CommandKind.TheVariants.{Dsrewrite}
use Rattle.mau_module.specs.Modules.{ModuleOf}
use Rattle.mau_session.specs.Environment.{Environment}
use Rattle.mau_session.specs.State.{StateOf, at_first}
use Rattle.mau_session.specs.Built.{uses_memberships}
use Rattle.mau_session.specs.Transcript.{ItemAnswer, Transcript}

-- the states to which answers of items lead, one item after another, numbered from k; the one before them is the first of these
pub data ComesTo (e : Environment) (ws : List Word) : StateOf → ℕ → List RawItem → StateOf → Type 0 where
  stands_there : (st : StateOf) (k : ℕ) (items : List RawItem) → ComesTo e ws st k items st
  comes_behind : (st next last : StateOf) (k : ℕ) (item : RawItem) (items : List RawItem) (bytes : List ℕ) (refused : Bool) → ItemAnswer e ws st k item next bytes refused
      → ComesTo e ws next (k + 1) items last → ComesTo e ws st k (item ∷ items) last

-- no module of the state has a membership that may be used to evaluate
abbrev pub UsesNoMemberships : StateOf → Type 0
UsesNoMemberships st = (n : ℕ) (m : ModuleOf) → slice_get st.modules n ≡ Some m → uses_memberships m ≡ false

-- nor has one of any state to which the text leads: neither its own modules nor those of the prelude
abbrev pub HasNoMemberships : Environment → List ℕ → Type 0
HasNoMemberships e text =
    (tokens : List Token) (items : List RawItem) (st : StateOf) → TokensOf text (Ok tokens) → AreItems (words_of text tokens) items
    → ComesTo e (words_of text tokens) at_first 1 items st → UsesNoMemberships st

-- the item does not ask for a strategy run
abbrev pub AsksForNoStrategy : RawItem → Type 0
AsksForNoStrategy item = (c : RawCommand) → item.body ≡ Ok (Command c) → c.kind ≢ Dsrewrite

-- nor does one of the text
abbrev pub HasNoStrategyRuns : List ℕ → Type 0
HasNoStrategyRuns text = (tokens : List Token) (items : List RawItem) → TokensOf text (Ok tokens) → AreItems (words_of text tokens) items → All AsksForNoStrategy items

-- Where no results are remembered, no module of the text has a membership that may be used, and none of its items asks for a strategy run, the text has no two
-- transcripts, nor one that is both refused and not. (With such memberships a value or an end may be answered by more levels than those of an item, where sorts
-- were derived before; and where a listing of a strategy's solutions ends, more than one end may have its cause.)
abbrev pub TranscriptsAreOne : Type 0
TranscriptsAreOne =
    (e : Environment) → e.remembers ≡ false → (text : List ℕ) → HasNoMemberships e text → HasNoStrategyRuns text → (b c : List ℕ) (r s : Bool) → Transcript e text b r → Transcript e text c s → (b ≡ c) × (r ≡ s)
