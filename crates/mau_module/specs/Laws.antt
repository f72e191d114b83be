-- Laws of whole modules.
use Rattle.std.specs.Prelude.{◌≡◌, List, Result, Some}
use Rattle.mau_terms.specs.Finite.{IsIn}
use Rattle.mau_signature.specs.declared.decl.Decl.{Decl}
use Rattle.mau_program.specs.BuiltIns.{Row, number_rows}
use Rattle.mau_prelude.specs.declared.module.PreludeModule.TheVariants.{Nat}
use Rattle.mau_prelude.specs.Tables.{table_of}
use Rattle.mau_modtext.specs.Word.{Word}
use Rattle.mau_modtext.specs.declared.raw.RawModule.{RawModule}
use Rattle.mau_module.specs.Modules.{ModuleOf}
use Rattle.mau_module.specs.Faults.{told}
use Rattle.mau_module.specs.Flattened.{FlattenedAs}
use Rattle.mau_module.specs.Prelude.{prelude}
use Rattle.mau_module.specs.Libraries.{AreLawfulModules}
use Rattle.mau_module.specs.declared.fault.ModuleFault.{ModuleFault}

-- over a library a text says one module, or has one fault, but for the two trees of an ambiguity
abbrev pub ModulesAreOne : Type 0
ModulesAreOne = (ms : List ModuleOf) (ws : List Word) (raw : RawModule) (r s : Result ModuleOf ModuleFault) → FlattenedAs ms ws raw r → FlattenedAs ms ws raw s → told r ≡ told s

-- each declaration of the prelude's module of numbers has built in what the table of what is built in names for its form
abbrev pub RowsAreNative : Type 0
RowsAreNative = (d : Decl) → IsIn d (table_of Nat).declarations → (r : Row) × IsIn r number_rows × (d.form ≡ r.form) × (d.attrs.builtin ≡ Some r.name)

-- the program of each module of the prelude is lawful
abbrev pub PreludeIsLawful : Type 0
PreludeIsLawful = AreLawfulModules prelude
