-- Whether declared strategies have sorts.
use Rattle.std.specs.Prelude.{nat_lt, List, Bool}
use Rattle.std.specs.List.{list_all}
use Rattle.mau_poset.specs.Order.{Hierarchy}
use Rattle.mau_program.specs.declared.definitions.StratDecl.{StratDecl}

-- the arguments of a declared strategy are of sorts
abbrev pub has_sorts : Hierarchy → StratDecl → Bool
has_sorts h d = list_all (λ n. nat_lt n h.sorts) d.args

abbrev pub have_sorts : Hierarchy → List StratDecl → Bool
have_sorts h ds = list_all (has_sorts h) ds
