-- What the program does under the words of a command line.
use Rattle.std.specs.Prelude.{◌≡◌, ℕ, List, Bool, true, false, Option, Some}
use Rattle.mau_formula.specs.Operator.{Operator}
use Rattle.mau_session.specs.declared.meaning.Meaning.{Meaning}
use Rattle.mau_session.specs.declared.meaning.Meaning.TheVariants.{Check}
use Rattle.mau_session.specs.Meanings.{meaning_of}
use Rattle.mau_session.specs.Run.{IsRun}
use Rattle.mau_session.specs.declared.top.Status.{Status}
use Rattle.mrew.specs.Checked.{IsChecked}

-- the words ask for a check of a document
abbrev pub is_check : Option Meaning → Bool
is_check (Some Check) = true
is_check _ = false

-- a check, where the words ask for one; else what `run` of mau_session does under them
pub record IsRan (operators : List Operator) (words : List (List ℕ)) (reads reads' writes writes' : ℕ) (left left' written written' : Option (List ℕ)) (status : Status) : Type 0 where
  pub check : is_check (meaning_of words) ≡ true → IsChecked operators reads reads' writes writes' left left' written written' status
  pub run : is_check (meaning_of words) ≡ false → IsRun operators words reads reads' writes writes' left left' written written' status
