-- What a module includes, the names of its sorts, and the limits that it may pass.
use Rattle.std.specs.Prelude.{ℕ, ◌+◌, nat_lt, List, [], ◌∷◌, ◌++◌, length, Option, Some, None, sum_by, slice_get, if◌then◌else◌}
use Rattle.std.specs.Option.{option_map_or}
use Rattle.mau_poset.specs.declared.TheConstants.{MAX_SORTS}
use Rattle.mau_modtext.specs.Word.{Word}
use Rattle.mau_modtext.specs.declared.raw.RawElement.{RawElement}
use Rattle.mau_modtext.specs.declared.raw.RawModule.{RawModule}
use Rattle.mau_declare.specs.declared.TheConstants.{MAX_DECLARATIONS, MAX_STATEMENTS}
use Rattle.mau_declare.specs.Sorts.{declared_sorts}
use Rattle.mau_declare.specs.Counts.{declaration_count, statement_count}
use Rattle.mau_declare.specs.Imports.{imports}
use Rattle.mau_module.specs.declared.fault.Limit.{Limit}
use Rattle.mau_module.specs.declared.fault.Limit.TheVariants.{Sorts, Declarations, Statements}
use Rattle.mau_module.specs.Modules.{ModuleOf, statement_total}
use Rattle.mau_module.specs.Library.{bool}
use Rattle.mau_module.specs.Included.{numbers_of, depth_over, parts_of, sorts_of}

-- the modules that it includes, and the names of its sorts
pub record Frame : Type 0 where
  pub depth : ℕ
  pub parts : List ℕ
  pub names : List (List ℕ)

-- these modules, and then it itself, which will have the next number
abbrev pub all_parts : List ModuleOf → List ℕ → List ℕ
all_parts ms parts = parts ++ length ms ∷ []

-- the numbers of the modules that it imports by name
abbrev pub imported : List ModuleOf → List Word → RawModule → List ℕ
imported ms ws raw = numbers_of ms (imports ws raw.elements)

-- a module includes that of truth values first, and then what it imports
abbrev pub parts_over : List ModuleOf → List ℕ → List ℕ
parts_over ms imports = parts_of ms (bool ∷ imports)

-- the frame of a module that imports these
abbrev pub frame_over : List ModuleOf → List Word → List RawElement → List ℕ → Frame
frame_over ms ws es imports = record {
  depth = depth_over ms imports;
  parts = parts_over ms imports;
  names = declared_sorts ws (sorts_of ms (parts_over ms imports)) es;
}

abbrev pub frame_of : List ModuleOf → List Word → RawModule → Frame
frame_of ms ws raw = frame_over ms ws raw.elements (imported ms ws raw)

-- ---- limits

-- how many declarations and statements the parts have
abbrev pub own_count : (ModuleOf → ℕ) → List ModuleOf → ℕ → ℕ
own_count count ms p = option_map_or count (slice_get ms p) 0

abbrev pub included_declarations : List ModuleOf → List ℕ → ℕ
included_declarations ms parts = sum_by (own_count (λ m. length m.own.declarations) ms) parts

abbrev pub included_statements : List ModuleOf → List ℕ → ℕ
included_statements ms parts = sum_by (own_count (λ m. statement_total m.own.statements) ms) parts

-- the first limit that so many sorts, declarations and statements pass
abbrev pub passed : ℕ → ℕ → ℕ → Option Limit
passed sorts decls statements =
    if nat_lt MAX_SORTS sorts then Some Sorts
    else (if nat_lt MAX_DECLARATIONS decls then Some Declarations
    else (if nat_lt MAX_STATEMENTS statements then Some Statements else None))

abbrev pub limit_passed : List ModuleOf → Frame → RawModule → Option Limit
limit_passed ms f raw =
    passed (length f.names) (included_declarations ms f.parts + declaration_count raw.elements)
    (included_statements ms f.parts + statement_count raw.elements)
