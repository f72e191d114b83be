-- Faults that say something: all but want of memory.
use Rattle.std.specs.Prelude.{Bool, true, false}
use Rattle.mau_statement.specs.declared.fault.StatementFault.{StatementFault}
use Rattle.mau_statement.specs.declared.fault.StatementFault.TheVariants.{NoMemory as NoMemoryOfStatement}
use Rattle.mau_strattext.specs.declared.fault.StratFault.{StratFault}
use Rattle.mau_strattext.specs.declared.fault.StratFault.TheVariants.{NoMemory as NoMemoryOfStrategy}
use Rattle.mau_definition.specs.declared.fault.DefinitionFault.{DefinitionFault}
use Rattle.mau_definition.specs.declared.fault.DefinitionFault.TheVariants.{Statement, Strategy, NoMemory}

-- P holds of a fault that is not want of memory
abbrev pub IfFault : (DefinitionFault → Type 0) → DefinitionFault → Type 0
IfFault P NoMemory = Unit {0}
IfFault P f = P f

-- the fault of a call or a condition, and that of a strategy, as those of a definition
abbrev pub of_statement : StatementFault → DefinitionFault
of_statement NoMemoryOfStatement = NoMemory
of_statement f = Statement f

abbrev pub of_strategy : StratFault → DefinitionFault
of_strategy NoMemoryOfStrategy = NoMemory
of_strategy f = Strategy f

abbrev pub is_memory_of_strategy : StratFault → Bool
is_memory_of_strategy NoMemoryOfStrategy = true
is_memory_of_strategy _ = false

abbrev pub is_memory : DefinitionFault → Bool
is_memory NoMemory = true
is_memory _ = false
