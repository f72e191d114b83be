-- What holds of a fault that is not want of memory.
use Rattle.mau_module.specs.declared.fault.ModuleFault.{ModuleFault}
use Rattle.mau_module.specs.declared.fault.ModuleFault.TheVariants.{UnknownModule, ImportTooDeep, TooLarge, UnknownSort, Signed, Statement, Strategy, NoMemory}
use Rattle.mau_module.specs.Faults.{IfFault}

pub if_fault_then : (P Q : ModuleFault → Type 0) → ((f : ModuleFault) → P f → Q f) → (f : ModuleFault) → IfFault P f → IfFault Q f
if_fault_then P Q h (UnknownModule name) p = h (UnknownModule name) p
if_fault_then P Q h ImportTooDeep p = h ImportTooDeep p
if_fault_then P Q h (TooLarge limit) p = h (TooLarge limit) p
if_fault_then P Q h (UnknownSort at) p = h (UnknownSort at) p
if_fault_then P Q h (Signed text) p = h (Signed text) p
if_fault_then P Q h (Statement i f) p = h (Statement i f) p
if_fault_then P Q h (Strategy i f) p = h (Strategy i f) p
if_fault_then P Q h NoMemory p = p
