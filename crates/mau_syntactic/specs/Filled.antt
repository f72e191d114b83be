-- Terms with values in the places of their variables.
use Rattle.std.specs.Prelude.{List}
use Rattle.mau_terms.specs.Tree.{Tree}
use Rattle.mau_terms.specs.Subst.{Variable, value_at, instance}
use Rattle.mau_terms.specs.declared.ids.TermId.{TermId}
use Rattle.mau_store.specs.Node.{Node}
use Rattle.mau_store.specs.Trees.{trees_at}
use Rattle.mau_store.specs.View.{numbers}

-- t is a term and some variables: the term with the term at its place among `ids` for each of these variables
abbrev pub filled : List Node → List TermId → Tree × List Variable → Tree
filled nodes ids t = instance (value_at t.1 (trees_at nodes (numbers ids))) t.0
