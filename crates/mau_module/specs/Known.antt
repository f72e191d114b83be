-- Names that have those of the sorts of some modules.
use Rattle.std.specs.Prelude.{◌≡◌, ℕ, List, All, true}
use Rattle.mau_declare.specs.Names.{has_name}
use Rattle.mau_module.specs.Modules.{ModuleOf}
use Rattle.mau_module.specs.Included.{of_module}

-- the names of the sorts of each of these modules are among the names
abbrev pub AreKnown : List ModuleOf → List (List ℕ) → List ℕ → Type 0
AreKnown ms names parts = All (λ p. All (λ x. has_name names x ≡ true) (of_module ms (λ m. m.sorts) p)) parts
