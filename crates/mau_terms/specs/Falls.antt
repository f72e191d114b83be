-- Why a recursion over the arguments of a term ends: none is deeper than their trees together.
use Rattle.std.specs.Prelude.{◌≤◌, List, [], ◌∷◌, map}
use Rattle.std.proofs.Common.{arith}
use denote.Param.Weighed.{most}
use Rattle.mau_terms.specs.Depth.{depth, list_depth, depths-trees_of}
use Rattle.mau_terms.specs.View.{tree_of}
use Rattle.mau_terms.specs.declared.bare.Bare.{Bare}
use Rattle.mau_terms.specs.declared.bare.Bare.TheVariants.{Var, Num, App}
use Rattle.mau_terms.specs.declared.bare.Args.TheDeep.{deep-Bare}

deep_le_depth : (b : Bare) → deep-Bare b ≤ depth (tree_of b)
deep_le_depth (Var v) = omega arith
deep_le_depth (Num n) = omega arith
deep_le_depth (App op ts) = omega (arith, depths-trees_of ts)

pub most_le-list_depth : (bs : List Bare) → most deep-Bare bs ≤ list_depth (map tree_of bs)
most_le-list_depth [] = omega arith
most_le-list_depth (b ∷ bs) = omega (arith, deep_le_depth b, most_le-list_depth bs)
