-- How variables and terms of a module are printed.
use Rattle.std.specs.Prelude.{ℕ, List, [], ◌++◌, slice_get, codes, nat_eq, if◌then◌else◌}
use Rattle.std.specs.Option.{option_map_or}
use Rattle.mau_print.specs.Printed.{Pairs, PrinterOf}
use Rattle.mau_print.specs.Layouts.{printer_of}
use Rattle.mau_declare.specs.Flattened.{sort_name, kind_names}
use Rattle.mau_module.specs.Modules.{ModuleOf}

-- the name of the variable with this index and sort; one that isn't there has none
abbrev pub variable_name : Pairs → ℕ → ℕ → List ℕ
variable_name ns i s = option_map_or (λ p. if nat_eq p.1 s then p.0 else []) (slice_get ns i) []

abbrev pub shown_variable : ModuleOf → Pairs → ℕ → ℕ → List ℕ
shown_variable m ns i s = variable_name ns i s ++ codes ":" ++ sort_name m.sorts m.signature.hierarchy s

-- how the terms of a module are printed: by its forms, with the names of its sorts and kinds
abbrev pub printer_in : ModuleOf → PrinterOf
printer_in m = printer_of m.signature m.grammar (kind_names m.sorts m.signature.hierarchy)
