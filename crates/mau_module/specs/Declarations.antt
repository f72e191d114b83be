-- All declarations of a module: those of its parts, its own, and behind them those of truth values over each kind.
use Rattle.std.specs.Prelude.{ℕ, List, [], ◌∷◌, ◌++◌, map, length, Bool, true, false, codes}
use Rattle.std.specs.List.{flat_map}
use Rattle.mau_poset.specs.Order.{Hierarchy}
use Rattle.mau_signature.specs.declared.decl.Decl.{Decl}
use Rattle.mau_signature.specs.Faults.{Given}
use Rattle.mau_renumber.specs.Carried.{declaration_to}
use Rattle.mau_module.specs.Modules.{ModuleOf}
use Rattle.mau_module.specs.Numbering.{number_in}
use Rattle.mau_module.specs.Included.{of_module, number_from, pairs_of, numerals_of, has_truth}
use Rattle.mau_module.specs.Truth.{truth_declarations}

-- the declarations of some modules
abbrev pub declarations_of : List ModuleOf → List (List ℕ) → Hierarchy → List ℕ → List Decl
declarations_of ms names h parts = flat_map (of_module ms (λ m. map (declaration_to (number_from m names h)) m.own.declarations)) parts

-- ---- all declarations; the module itself will have the next number

-- the sorts in their order: the pairs of the parts, and then its own
abbrev pub hierarchy_over : List ModuleOf → List ℕ → List (List ℕ) → List (ℕ × ℕ) → Hierarchy
hierarchy_over ms parts names pairs = record { sorts = length names; pairs = pairs_of ms names parts ++ pairs }

-- those of truth values, where they are among the parts
abbrev pub if_truth : Bool → Hierarchy → List (List ℕ) → List Decl
if_truth true h names = truth_declarations h (number_in names (codes "Bool"))
if_truth false h names = []

abbrev pub all_declarations : List ModuleOf → List ℕ → List (List ℕ) → Hierarchy → List Decl → List Decl
all_declarations ms parts names h own = (declarations_of ms names h parts ++ own) ++ if_truth (has_truth (parts ++ length ms ∷ [])) h names

-- what the signature is built from
abbrev pub given_over : List ModuleOf → List ℕ → List (List ℕ) → Hierarchy → List Decl → Given
given_over ms parts names h own = record {
  hierarchy = h;
  declarations = all_declarations ms parts names h own;
  numerals = numerals_of names (parts ++ length ms ∷ []);
}
