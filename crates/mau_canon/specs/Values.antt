-- Values of variables, as terms of a store.
use Rattle.std.specs.Prelude.{List, map}
use Rattle.mau_terms.specs.Tree.{Tree}
use Rattle.mau_terms.specs.Subst.{Variable, value_at}
use Rattle.mau_terms.specs.View.{variable_of}
use Rattle.mau_terms.specs.declared.ids.VarId.{VarId}
use Rattle.mau_terms.specs.declared.ids.TermId.{TermId}
use Rattle.mau_store.specs.Node.{Node}
use Rattle.mau_store.specs.Trees.{trees_at}
use Rattle.mau_store.specs.View.{numbers}

-- the substitution that gives each of some variables the term at its place among `ids`, and leaves any other variable as it is
abbrev pub values_in : List Node → List VarId → List TermId → Variable → Tree
values_in nodes xs ids = value_at (map variable_of xs) (trees_at nodes (numbers ids))
