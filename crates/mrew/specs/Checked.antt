-- What a check of a document reads and writes: the bytes that are left in a source and those that a sink has, where they tell them.
use Rattle.std.specs.Prelude.{◌≡◌, ◌≢◌, ◌↔◌, ◌⊎◌, ℕ, ◌≤◌, List, length, take, Bool, true, false, Option}
use Rattle.std.specs.Io.KnownBytes.{prepend_known, append_known}
use Rattle.mau_bytes.specs.Faults.{Rose}
use Rattle.mau_formula.specs.Operator.{Operator}
use Rattle.mau_docheck.specs.DocumentTranscript.{DocumentTranscript}
use Rattle.mau_session.specs.Run.{IsRead}
use Rattle.mau_session.specs.declared.top.Status.{Status}
use Rattle.mau_session.specs.declared.top.Status.TheVariants.{Done, Refused, Usage, ReadFault, WriteFault, NoMemory, InputTooLong}

-- a document was read, and its transcript written, with these native operators
pub record IsAnswered (operators : List Operator) (left left' written written' : Option (List ℕ)) (refused : Bool) : Type 0 where
  pub document : List ℕ
  pub bytes : List ℕ
  pub read : IsRead left left' document
  pub transcript : DocumentTranscript operators document bytes refused
  pub gained : written' ≡ append_known written bytes

-- a document was read, and the first bytes of its transcript were written
pub record IsCut (operators : List Operator) (left left' written written' : Option (List ℕ)) : Type 0 where
  pub document : List ℕ
  pub bytes : List ℕ
  pub refused : Bool
  pub count : ℕ
  pub read : IsRead left left' document
  pub transcript : DocumentTranscript operators document bytes refused
  pub fewer : count ≤ length bytes
  pub gained : written' ≡ append_known written (take count bytes)

-- A check with native operators, by its status: counts of faults of the source and of the sink before and after it, what is left in the source, and what the sink has.
pub record IsChecked (operators : List Operator) (reads reads' writes writes' : ℕ) (left left' written written' : Option (List ℕ)) (status : Status) : Type 0 where
  -- all of a document is read, and its transcript is out; whether it or a section of it was refused or rejected is told by the status
  pub done : status ≡ Done → IsAnswered operators left left' written written' false
  pub refused : status ≡ Refused → IsAnswered operators left left' written written' true
  -- a failed write leaves the first bytes of the transcript out
  pub prefix : status ≡ WriteFault → IsCut operators left left' written written'
  -- nothing is out unless all is, or a write failed
  pub unwritten : (status ≡ ReadFault) ⊎ (status ≡ NoMemory) ⊎ (status ≡ InputTooLong) → written' ≡ written
  -- a read or a write failed
  pub read_fault : status ≡ ReadFault → Rose reads reads'
  pub write_fault : status ≡ WriteFault → Rose writes writes'
  -- what was read: one byte more than the limit exactly where the document is too long
  pub taken : (bytes : List ℕ) × (left ≡ prepend_known bytes left') × (length bytes ≤ 16777217) × ((status ≡ InputTooLong) ↔ (length bytes ≡ 16777217))
  -- where no fault rises and the document isn't too long, the whole transcript is out, or memory was wanting
  pub complete : (Rose reads reads' → ⊥) → (Rose writes writes' → ⊥) → ((bytes : List ℕ) → left ≡ prepend_known bytes left' → length bytes ≤ 16777216)
      → (status ≡ Done) ⊎ (status ≡ Refused) ⊎ (status ≡ NoMemory)
