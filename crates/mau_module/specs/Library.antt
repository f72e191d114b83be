-- The library of a session: all modules that were accepted, in order, counted from 0. The first four are those of the prelude.
use Rattle.std.specs.Prelude.{ℕ, suc, ◌≤◌, List, [], ◌∷◌, length, Option, Some, None, bytes_eq, if◌then◌else◌}
use Rattle.mau_module.specs.Modules.{ModuleOf}

-- the modules of the prelude by their numbers
abbrev pub truth_value : ℕ
truth_value = 0

abbrev pub truth : ℕ
truth = 1

abbrev pub bool : ℕ
bool = 2

abbrev pub nat : ℕ
nat = 3

-- one more than a number, or another one where there is none
abbrev pub next_or : Option ℕ → Option ℕ → Option ℕ
next_or (Some i) other = Some (suc i)
next_or None other = other

-- the number of the last module of a name, if there is one
abbrev pub last_named : List ModuleOf → List ℕ → Option ℕ
last_named [] name = None
last_named (m ∷ ms) name = next_or (last_named ms name) (if bytes_eq m.name name then Some 0 else None)

-- the modules of the prelude are there, before any other
abbrev pub HasPrelude : List ModuleOf → Type 0
HasPrelude ms = 4 ≤ length ms
