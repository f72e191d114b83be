-- Declarations whose results are in one kind.
use Rattle.std.specs.Prelude.{◌≡◌, List, [], ◌∷◌, All}
use Rattle.mau_poset.specs.Order.{Hierarchy, kind_of}
use Rattle.mau_signature.specs.declared.decl.Decl.{Decl}

-- the results are in the kind of the first one
abbrev pub HaveOneKind : Hierarchy → List Decl → Type 0
HaveOneKind h [] = Unit {0}
HaveOneKind h (d ∷ ds) = All (λ e. kind_of h e.result ≡ kind_of h d.result) ds
