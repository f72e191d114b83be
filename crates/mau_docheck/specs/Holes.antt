-- Terms with holes as terms that can be shown: the hole of a kind is a variable of this kind that is called HOLE.
use Rattle.std.specs.Prelude.{ℕ, ◌==◌, List, map, fold, codes, if◌then◌else◌}
use Rattle.std.specs.List.{range_with_len}
use Rattle.mau_poset.specs.Order.{Hierarchy, kinds}
use Rattle.mau_terms.specs.Tree.{Tree, variable}
use Rattle.mau_terms.specs.Subst.{Variable, instance}
use Rattle.mau_terms.specs.Vars.{place_of, with_pair}
use Rattle.mau_api.specs.Terms.{hole_index}

-- the variable that the hole of the kind k is shown as
abbrev pub hole_pair : ℕ → List ℕ × ℕ
hole_pair k = (codes "HOLE", k)

-- some variables, and behind them one for the hole of each kind
abbrev pub with_holes : Hierarchy → List (List ℕ × ℕ) → List (List ℕ × ℕ)
with_holes h ns = fold with_pair ns (map hole_pair (range_with_len h.sorts (kinds h)))

-- this variable in place of a hole; any other variable stays
abbrev pub namer : List (List ℕ × ℕ) → Variable → Tree
namer ns x = if x.0 == hole_index then variable (place_of ns (hole_pair x.1)) x.1 else variable x.0 x.1

-- t with these variables in place of its holes
abbrev pub named : List (List ℕ × ℕ) → Tree → Tree
named ns t = instance (namer ns) t
