-- Why a module of a text is not accepted.
use Rattle.std.specs.Prelude.{ℕ, List, Result, Ok, Err}
use Rattle.mau_statement.specs.declared.fault.StatementFault.{StatementFault}
use Rattle.mau_statement.specs.Faults.{without_trees as without_trees_of_statement}
use Rattle.mau_strattext.specs.Laws.{without_trees as without_trees_of_strategy}
use Rattle.mau_definition.specs.declared.fault.DefinitionFault.{DefinitionFault}
use Rattle.mau_definition.specs.declared.fault.DefinitionFault.TheVariants.{Statement as OfStatement, Strategy as OfStrategy, NoMemory as NoMemoryOfDefinition}
use Rattle.mau_signing.specs.declared.fault.SignFault.{SignFault}
use Rattle.mau_signing.specs.declared.fault.SignFault.TheVariants.{Refused, NoMemory as NoMemoryOfSign}
use Rattle.mau_module.specs.declared.fault.ModuleFault.{ModuleFault}
use Rattle.mau_module.specs.declared.fault.ModuleFault.TheVariants.{Signed, Statement, Strategy, NoMemory}
use Rattle.mau_module.specs.Modules.{ModuleOf}

-- P holds of a fault that is not want of memory
abbrev pub IfFault : (ModuleFault → Type 0) → ModuleFault → Type 0
IfFault P NoMemory = Unit {0}
IfFault P f = P f

-- the fact of a fault of a statement; want of memory says nothing, and there is no other
abbrev pub IfOwn : (ℕ → StatementFault → Type 0) → ModuleFault → Type 0
IfOwn P (Statement i f) = P i f
IfOwn P NoMemory = Unit {0}
IfOwn P _ = ⊥

-- the fact of a fault of a statement of the module itself; want of memory says nothing, and there is no other
abbrev pub IfStated : (ℕ → DefinitionFault → Type 0) → ModuleFault → Type 0
IfStated P (Statement i f) = P i (OfStatement f)
IfStated P (Strategy i f) = P i (OfStrategy f)
IfStated P NoMemory = Unit {0}
IfStated P _ = ⊥

-- the fact of the text with which sorts, declarations or operators are refused; want of memory says nothing, and there is no other
abbrev pub IfSigned : ModuleFault → (List ℕ → Type 0) → Type 0
IfSigned (Signed text) P = P text
IfSigned NoMemory P = Unit {0}
IfSigned _ P = ⊥

-- the fault of sorts, declarations or operators, as one of a module
abbrev pub fault_of : SignFault → ModuleFault
fault_of (Refused text) = Signed text
fault_of NoMemoryOfSign = NoMemory

-- the fault of the statement i, as one of a module
abbrev pub statement_fault : ℕ → DefinitionFault → ModuleFault
statement_fault i (OfStatement f) = Statement i f
statement_fault i (OfStrategy f) = Strategy i f
statement_fault i NoMemoryOfDefinition = NoMemory

-- ---- what an answer tells, whichever two trees an ambiguity has

-- a fault without the two trees of an ambiguity, in place of which others may be told
abbrev pub without_trees : ModuleFault → ModuleFault
without_trees (Statement i f) = Statement i (without_trees_of_statement f)
without_trees (Strategy i f) = Strategy i (without_trees_of_strategy f)
without_trees f = f

-- an answer, as far as it is one
abbrev pub told : Result ModuleOf ModuleFault → Result ModuleOf ModuleFault
told (Ok m) = Ok m
told (Err f) = Err (without_trees f)
