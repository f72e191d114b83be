-- What the terms of a store are printed as.
use Rattle.std.specs.Prelude.{◌-◌, List, map}
use Rattle.mau_terms.specs.Tree.{Tree}
use Rattle.mau_terms.specs.declared.ids.TermId.{TermId}
use Rattle.mau_store.specs.Node.{Node}
use Rattle.mau_store.specs.Trees.{tree_at, trees_at}
use Rattle.mau_store.specs.View.{numbers}
use Rattle.mau_print.specs.Written.{Printed}
use Rattle.mau_print.specs.Printed.{PrinterOf, Pairs, printed}

-- a term of a store, and several
abbrev pub printed_at : PrinterOf → Pairs → List Node → TermId → Printed
printed_at p ns nodes id = printed p ns (tree_at nodes id.0)

abbrev pub trees_of_ids : List Node → List TermId → List Tree
trees_of_ids nodes ids = trees_at nodes (numbers ids)

abbrev pub printed_all : PrinterOf → Pairs → List Node → List TermId → List Printed
printed_all p ns nodes ids = map (printed_at p ns nodes) ids
