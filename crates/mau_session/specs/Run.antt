-- What a run reads and writes: the bytes that are left in a source and those that a sink has, where they tell them.
use Rattle.std.specs.Prelude.{◌≡◌, ◌↔◌, ◌⊎◌, ℕ, ◌≤◌, List, length, take, Bool, true, false, Option, Some}
use Rattle.std.specs.Io.KnownBytes.{prepend_known, append_known, IsAtEnd}
use Rattle.mau_bytes.specs.Faults.{Rose}
use Rattle.mau_formula.specs.Operator.{Operator}
use Rattle.mau_session.specs.Transcript.{Transcript}
use Rattle.mau_session.specs.Environment.{environment_of}
use Rattle.mau_session.specs.declared.meaning.Meaning.TheVariants.{Run}
use Rattle.mau_session.specs.Meanings.{meaning_of, is_session}
use Rattle.mau_session.specs.declared.top.Status.{Status}
use Rattle.mau_session.specs.declared.top.Status.TheVariants.{Done, Refused, Usage, ReadFault, WriteFault, NoMemory, InputTooLong}

-- a text was read, to the end of the input: what was left began with it
pub record IsRead (left left' : Option (List ℕ)) (text : List ℕ) : Type 0 where
  pub taken : left ≡ prepend_known text left'
  pub end : IsAtEnd left'
  pub short : length text ≤ 16777216

-- the text was read, and its transcript written, with these native operators and the budget that the words ask for
pub record IsAnswered (operators : List Operator) (words : List (List ℕ)) (left left' written written' : Option (List ℕ)) (refused : Bool) : Type 0 where
  pub budget : ℕ
  pub asked : meaning_of words ≡ Some (Run budget)
  pub text : List ℕ
  pub bytes : List ℕ
  pub read : IsRead left left' text
  pub transcript : Transcript (environment_of operators budget) text bytes refused
  pub gained : written' ≡ append_known written bytes

-- the text was read, and the first bytes of its transcript were written
pub record IsCut (operators : List Operator) (words : List (List ℕ)) (left left' written written' : Option (List ℕ)) : Type 0 where
  pub budget : ℕ
  pub asked : meaning_of words ≡ Some (Run budget)
  pub text : List ℕ
  pub bytes : List ℕ
  pub refused : Bool
  pub count : ℕ
  pub read : IsRead left left' text
  pub transcript : Transcript (environment_of operators budget) text bytes refused
  pub fewer : count ≤ length bytes
  pub gained : written' ≡ append_known written (take count bytes)

-- A run with native operators under the words of a command line, by its status: counts of faults of the source and of the sink before and after it, what is left in the
-- source, and what the sink has.
pub record IsRun (operators : List Operator) (words : List (List ℕ)) (reads reads' writes writes' : ℕ) (left left' written written' : Option (List ℕ)) (status : Status) : Type 0 where
  -- the words have no meaning, or one that is not answered yet; then nothing is read
  pub usage : (status ≡ Usage) ↔ (is_session (meaning_of words) ≡ false)
  pub unread : status ≡ Usage → left' ≡ left
  -- all of a text is read, and its transcript is out; a refusal in it is told by the status
  pub done : status ≡ Done → IsAnswered operators words left left' written written' false
  pub refused : status ≡ Refused → IsAnswered operators words left left' written written' true
  -- a failed write leaves the first bytes of the transcript out
  pub prefix : status ≡ WriteFault → IsCut operators words left left' written written'
  -- nothing is out unless all is, or a write failed
  pub unwritten : (status ≡ Usage) ⊎ (status ≡ ReadFault) ⊎ (status ≡ NoMemory) ⊎ (status ≡ InputTooLong) → written' ≡ written
  -- a read or a write failed
  pub read_fault : status ≡ ReadFault → Rose reads reads'
  pub write_fault : status ≡ WriteFault → Rose writes writes'
  -- what was read: one byte more than the limit exactly where the text is too long
  pub taken : (bytes : List ℕ) × (left ≡ prepend_known bytes left') × (length bytes ≤ 16777217) × ((status ≡ InputTooLong) ↔ (length bytes ≡ 16777217))
  -- where a session is asked for, no fault rises and the text isn't too long, the whole transcript is out, or memory was wanting
  pub complete : is_session (meaning_of words) ≡ true → (Rose reads reads' → ⊥) → (Rose writes writes' → ⊥) → ((bytes : List ℕ) → left ≡ prepend_known bytes left' → length bytes ≤ 16777216)
      → (status ≡ Done) ⊎ (status ≡ Refused) ⊎ (status ≡ NoMemory)
