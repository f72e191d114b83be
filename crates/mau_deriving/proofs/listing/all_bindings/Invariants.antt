use Rattle.mau_terms.specs.View.{tree_of}
use Rattle.mau_deriving.proofs.ListedAll.{IsInLoop}
use Rattle.mau_deriving.proofs.listing.all_bindings.Given as goal

abbrev pub invariant-loop : goal.invariant-loop
invariant-loop g l = IsInLoop g.L.Lister.with_context l.sig l.fn.store l.store l.fn.table l.table (tree_of l.pattern) l.term (g.L.Lister.asked l.listing) (g.L.Lister.given l.listing) (g.L.Lister.is_for l.listing l.sig) l.found.items
