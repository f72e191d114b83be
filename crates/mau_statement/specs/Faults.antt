-- Faults that say something: all but want of memory.
use Rattle.std.specs.Prelude.{Result, Ok, Err}
use Rattle.mau_parse.specs.declared.fault.ParseFault.{ParseFault}
use Rattle.mau_parse.specs.declared.fault.ParseFault.TheVariants.{NoMemory as OutOfMemory}
use Rattle.mau_parse.specs.Parsed.{without_trees as without_trees_of}
use Rattle.mau_statement.specs.declared.fault.StatementFault.{StatementFault}
use Rattle.mau_statement.specs.declared.fault.StatementFault.TheVariants.{Parse, NoMemory}

-- P holds of a fault that is not want of memory
abbrev pub IfFault : (StatementFault → Type 0) → StatementFault → Type 0
IfFault P NoMemory = Unit {0}
IfFault P f = P f

-- the fault of a part that is no term
abbrev pub fault_of : ParseFault → StatementFault
fault_of OutOfMemory = NoMemory
fault_of f = Parse f

-- ---- faults that are told in one way

-- a fault without the two trees of an ambiguity, in place of which others may be told
abbrev pub without_trees : StatementFault → StatementFault
without_trees (Parse f) = Parse (without_trees_of f)
without_trees f = f

-- what is read, or a fault without them
abbrev pub told : {X : Type 0} → Result X StatementFault → Result X StatementFault
told (Ok x) = Ok x
told (Err f) = Err (without_trees f)
