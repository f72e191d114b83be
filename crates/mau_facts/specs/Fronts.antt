-- What is read so far, and what one line more makes of it.
use Rattle.std.specs.Prelude.{◌≡◌, ◌≢◌, ◌⊎◌, ◌+◌, All, IsErr, IsSome, codes, decimal, ℕ, Bool, true, false, option_map, option_to_list, List, [], ◌∷◌, ◌++◌, length, Option, Some, None, Result, Ok}
use Rattle.mau_facts.specs.declared.fault.LineFault.{LineFault}
use Rattle.mau_facts.specs.declared.fault.LineFault.TheVariants.{Unexpected}
use Rattle.mau_facts.specs.declared.fault.LineError.{LineError as ErrorOf}
use Rattle.mau_facts.specs.declared.fault.LineError.TheVariants as LineError
use Rattle.mau_facts.specs.declared.fault.Stop.{Stop}
use Rattle.mau_facts.specs.declared.fault.Stop.TheVariants.{At, NoMemory}
use Rattle.mau_facts.specs.declared.fields.Limits.{Limits}
use Rattle.mau_facts.specs.declared.document.Section.{Section}
use Rattle.mau_facts.specs.declared.document.TermLine.{TermLine}
use Rattle.mau_facts.specs.declared.document.Fact.{Fact as FactOf}
use Rattle.mau_facts.specs.declared.entry.Entry.{Entry}
use Rattle.mau_facts.specs.declared.entry.Entry.TheVariants.{Begin, Term, Fact, End}
use Rattle.mau_facts.specs.declared.entry.Place.{Place}
use Rattle.mau_facts.specs.declared.entry.Place.TheVariants.{Outside, AmongTerms, AmongFacts}
use Rattle.mau_facts.specs.Lines.{Front}
use Rattle.mau_facts.specs.Documents.{words, joined}
use Rattle.mau_facts.specs.LineReading.{and_then}
use Rattle.mau_facts.specs.FactReading.{entry_at, size_at, limits_of, IsFaultBy}

-- how many terms and facts of the open section stand so far
abbrev pub terms_so_far : Option Section → ℕ
terms_so_far None = 0
terms_so_far (Some x) = length x.terms

abbrev pub facts_so_far : Option Section → ℕ
facts_so_far None = 0
facts_so_far (Some x) = length x.facts

abbrev pub limits_at : Bool → Option Section → Limits
limits_at lenient x = limits_of lenient (terms_so_far x) (facts_so_far x)

abbrev pub among : List FactOf → Place
among [] = AmongTerms
among (f ∷ fs) = AmongFacts

abbrev pub place_of : Option Section → Place
place_of None = Outside
place_of (Some x) = among x.facts

-- one entry more
abbrev pub with_term : TermLine → Section → Section
with_term t x = record { item = x.item; «module» = x.module; terms = x.terms ++ t ∷ []; facts = x.facts }

abbrev pub with_fact : FactOf → Section → Section
with_fact f x = record { item = x.item; «module» = x.module; terms = x.terms; facts = x.facts ++ f ∷ [] }

abbrev pub added : Front → Entry → Front
added f (Begin k m) = record { done = f.done; begun = Some (record { item = k; «module» = m; terms = []; facts = [] }) }
added f (Term t) = record { done = f.done; begun = option_map (with_term t) f.begun }
added f (Fact a) = record { done = f.done; begun = option_map (with_fact a) f.begun }
added f End = record { done = f.done ++ option_to_list f.begun; begun = None }

-- the lines that follow, one after another
unfoldable pub step : Front → List ℕ → Result Front LineFault
step f b = and_then (entry_at (limits_at false f.begun) (place_of f.begun) (words b)) λ e. Ok (added f e)

abbrev pub run : Front → List (List ℕ) → Result Front LineFault
run f [] = Ok f
run f (b ∷ bs) = and_then (step f b) λ g. run g bs

-- before all lines
abbrev pub start : Front
start = record { done = []; begun = None }

-- ---- how far some bytes are read

-- their lines up to the rest were read, and gave the front
pub record IsReadTo (bytes : List ℕ) (rest : List ℕ) (front : Front) : Type 0 where
  pub lines : List (List ℕ)
  pub split : bytes ≡ joined lines ++ rest
  pub one_lines : All (All (λ b. b ≢ 10)) lines
  pub ran : run start lines ≡ Ok front

-- the next line is none that may stand there
pub record IsBadLine (front : Front) (rest : List ℕ) (fault : LineFault) : Type 0 where
  pub line : List ℕ
  pub after : List ℕ
  pub split : rest ≡ line ++ 10 ∷ after
  pub one_line : All (λ b. b ≢ 10) line
  pub strict : IsErr (entry_at (limits_at false front.begun) (place_of front.begun) (words line))
  pub lenient : IsFaultBy (entry_at (limits_at true front.begun) (place_of front.begun) (words line)) (LineError.Fault fault)

-- there is no next line, and this is no end
pub record IsCutOff (front : Front) (rest : List ℕ) (fault : LineFault) : Type 0 where
  pub no_line : All (λ b. b ≢ 10) rest
  pub no_end : rest ≡ [] → IsSome front.begun
  pub unexpected : fault ≡ Unexpected

-- reading stopped in front of the byte at a place
pub record IsStopAt (bytes : List ℕ) (place : ℕ) (fault : LineFault) : Type 0 where
  pub rest : List ℕ
  pub front : Front
  pub read : IsReadTo bytes rest front
  pub is_place : place + length rest ≡ length bytes
  pub why : IsBadLine front rest fault ⊎ IsCutOff front rest fault

abbrev pub IsStop : List ℕ → Stop → Type 0
IsStop bytes (At place fault) = IsStopAt bytes place fault
IsStop bytes NoMemory = Unit {0}

-- all bytes are the lines of sections
abbrev pub AreSections : List ℕ → List Section → Type 0
AreSections bytes xs = IsReadTo bytes [] (record { done = xs; begun = None })

-- ---- the second line

-- the bytes begin with no second line of a document
pub record IsBadTextLine (bytes : List ℕ) (fault : LineFault) : Type 0 where
  pub line : List ℕ
  pub after : List ℕ
  pub split : bytes ≡ line ++ 10 ∷ after
  pub one_line : All (λ b. b ≢ 10) line
  pub strict : IsErr (size_at (limits_of false 0 0) (words line))
  pub lenient : IsFaultBy (size_at (limits_of true 0 0) (words line)) (LineError.Fault fault)

abbrev pub IsTextLineFault : List ℕ → ErrorOf → Type 0
IsTextLineFault bytes LineError.NoMemory = Unit {0}
IsTextLineFault bytes (LineError.Fault f) = IsBadTextLine bytes f ⊎ (All (λ b. b ≢ 10) bytes × (f ≡ Unexpected))

pub record IsTextLineOf (bytes : List ℕ) (size : ℕ) (rest : List ℕ) : Type 0 where
  pub line : List ℕ
  pub split : bytes ≡ line ++ 10 ∷ rest
  pub one_line : All (λ b. b ≢ 10) line
  pub read : size_at (limits_of false 0 0) (words line) ≡ Ok size

-- the first two lines
abbrev pub opening : ℕ → List ℕ → List ℕ
opening size rest = codes "mrew-facts 1" ++ 10 ∷ (codes "text " ++ (decimal size ++ 10 ∷ rest))
