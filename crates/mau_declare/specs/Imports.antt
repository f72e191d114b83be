-- The modules that elements import.
use Rattle.std.specs.Prelude.{ℕ, List, Option, Some, None}
use Rattle.std.specs.List.{filter_map}
use Rattle.mau_modtext.specs.Word.{Word}
use Rattle.mau_modtext.specs.declared.raw.RawElement.{RawElement}
use Rattle.mau_modtext.specs.declared.raw.RawElement.TheVariants.{Import}
use Rattle.mau_declare.specs.Words.{first_text}

-- the name of the module that an element imports
abbrev pub import_of : List Word → RawElement → Option (List ℕ)
import_of ws (Import name) = Some (first_text ws name)
import_of ws _ = None

-- the names of the imported modules, in order
abbrev pub imports : List Word → List RawElement → List (List ℕ)
imports ws es = filter_map (import_of ws) es
