-- Why words don't read, and readings one after another.
use Rattle.std.specs.Prelude.{◌≡◌, ℕ, nat_lt, Result, Ok, Err, if◌then◌else◌}
use Rattle.mau_modtext.specs.declared.fault.Fault.{Fault}
use Rattle.mau_modtext.specs.declared.fault.Fault.TheVariants.{Unexpected, Unsupported}
use Rattle.mau_modtext.specs.declared.fault.ReadFault.{ReadFault}
use Rattle.mau_modtext.specs.declared.fault.ReadFault.TheVariants.{Fault as Faulty, NoMemory}

-- what words say, or the first fault
abbrev pub OrFault : Type 0 → Type 0
OrFault X = Result X Fault

-- an answer is this reading; want of memory says nothing
abbrev pub Reads : {X : Type 0} → Result X ReadFault → OrFault X → Type 0
Reads (Ok x) r = r ≡ Ok x
Reads (Err (Faulty f)) r = r ≡ Err f
Reads (Err NoMemory) r = Unit {0}

-- the fact of a fault; want of memory says nothing
abbrev pub IfFault : ReadFault → (Fault → Type 0) → Type 0
IfFault (Faulty f) P = P f
IfFault NoMemory P = Unit {0}

-- a reading, and then what follows from it
abbrev pub and_then : {X Y : Type 0} → OrFault X → (X → OrFault Y) → OrFault Y
and_then (Ok x) more = more x
and_then (Err f) more = Err f

abbrev pub fault_place : Fault → ℕ
fault_place (Unexpected at) = at
fault_place (Unsupported feature at) = at

-- the fault at the lesser place
abbrev pub earlier : Fault → Fault → Fault
earlier f g = if nat_lt (fault_place g) (fault_place f) then g else f

-- two readings side by side: of two faults the earlier is named
abbrev pub both : {X Y : Type 0} → OrFault X → OrFault Y → OrFault (X × Y)
both (Ok x) (Ok y) = Ok (x, y)
both (Ok x) (Err g) = Err g
both (Err f) (Ok y) = Err f
both (Err f) (Err g) = Err (earlier f g)
