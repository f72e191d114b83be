-- The fault of a line with a number.
use Rattle.std.specs.Prelude.{ℕ}
use Rattle.mau_facts.specs.declared.fault.LineFault.{LineFault}
use Rattle.mau_facts.specs.declared.fault.LineFault.TheVariants as faults
use Rattle.mau_facts.specs.declared.fault.LineError.{LineError as ErrorOf}
use Rattle.mau_facts.specs.declared.fault.LineError.TheVariants as LineError
use Rattle.mau_facts.specs.declared.fault.Stop.{Stop}
use Rattle.mau_facts.specs.declared.fault.Stop.TheVariants as stops
use Rattle.mau_facts.specs.declared.fault.Stop.TheVariants.{At}
use Rattle.mau_facts.specs.declared.fault.FactFault.{FactFault}
use Rattle.mau_facts.specs.declared.fault.FactFault.TheVariants.{Unexpected, BadNumber}

abbrev pub fault_at : ℕ → LineFault → FactFault
fault_at n faults.Unexpected = Unexpected n
fault_at n faults.BadNumber = BadNumber n

abbrev pub stop_of : ℕ → ErrorOf → Stop
stop_of place (LineError.Fault f) = At place f
stop_of place LineError.NoMemory = stops.NoMemory
