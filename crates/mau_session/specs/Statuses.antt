-- The numbers that the program ends with.
use Rattle.std.specs.Prelude.{ℕ}
use Rattle.mau_session.specs.declared.top.Status.{Status}
use Rattle.mau_session.specs.declared.top.Status.TheVariants.{Done, Refused, Usage, ReadFault, WriteFault, NoMemory, InputTooLong}

abbrev pub number_of_status : Status → ℕ
number_of_status Done = 0
number_of_status Refused = 1
number_of_status Usage = 2
number_of_status ReadFault = 3
number_of_status WriteFault = 4
number_of_status NoMemory = 5
number_of_status InputTooLong = 6
