-- What holds of each library, and what may be entered next.
use Rattle.std.specs.Prelude.{◌≡◌, ◌<◌, ◌≤◌, ℕ, List, length, All, Some, slice_get}
use Rattle.mau_module.specs.Modules.{ModuleOf}
use Rattle.mau_program.specs.LawfulPrograms.{IsLawfulProgram}
use Rattle.mau_module.specs.Lawful.{program_of}
use Rattle.mau_module.specs.Made.{IsMadeOver, AreMade}

-- modules include modules that are there, and each is one over those before it
pub record IsLibrary (ms : List ModuleOf) : Type 0 where
  pub parts : All (λ m. All (λ p. p < length ms) m.parts) ms
  pub made : AreMade ms

-- a module that may be the next one: it includes modules that are there, and itself, and is one over them
pub record IsNext (ms : List ModuleOf) (m : ModuleOf) : Type 0 where
  pub parts : All (λ p. p ≤ length ms) m.parts
  pub made : IsMadeOver ms m

-- the program of the module with a number is lawful, and so is that of each module
abbrev pub IsLawfulAt : List ModuleOf → ℕ → Type 0
IsLawfulAt ms i = (m : ModuleOf) → slice_get ms i ≡ Some m → IsLawfulProgram (program_of m)

pub record AreLawfulModules (ms : List ModuleOf) : Type 0 where
  pub each : (i : ℕ) → IsLawfulAt ms i
