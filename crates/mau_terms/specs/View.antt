-- What values of the code stand for in definitions.
use Rattle.std.specs.Prelude.{ℕ, List, map, string_bytes}
use Rattle.mau_terms.specs.Tree.{Tree, variable, numeral, node}
use Rattle.mau_terms.specs.Subst.{Variable, value_at, instance}
use Rattle.mau_terms.specs.declared.bare.Bare.{Bare}
use Rattle.mau_terms.specs.declared.bare.Bare.TheVariants.{Var, Num, App}
use Rattle.mau_terms.specs.declared.bare.Args.TheInside.{Inside}
use Rattle.mau_terms.specs.declared.ids.VarId.{VarId}
use Rattle.mau_terms.specs.declared.vars.Pair.{Pair}

-- the tree of a term; its arguments are seen as their trees already
abbrev pub tree_of : Bare → Tree
tree_of (Var v) = variable v.index v.sort
tree_of (Num n) = numeral n
tree_of (App op ts) = node op.0 ts

-- the trees of the fields of an `Args`
abbrev pub argument_trees : Inside → List Tree
argument_trees a = map tree_of a.items.items

abbrev pub variable_of : VarId → Variable
variable_of v = (v.index, v.sort)

-- the tree t with the values of a substitution, which is a list of variables with their values
abbrev pub instance_by : List (VarId × Bare) → Tree → Tree
instance_by subst t = instance (value_at (map (λ e. variable_of e.0) subst) (map (λ e. tree_of e.1) subst)) t

-- a name and a sort, as the bytes of the name and the number of the sort
abbrev pub pair_of : Pair → List ℕ × ℕ
pair_of p = (string_bytes p.name, p.sort)
