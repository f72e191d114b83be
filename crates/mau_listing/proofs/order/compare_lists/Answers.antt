use Rattle.std.proofs.Common.{sym, ◌∙◌, arith}
use Rattle.mau_terms.specs.Order.{tree_cmp}
use Rattle.mau_store.specs.Trees.{tree_at}
use Rattle.mau_listing.proofs.Compared.{compare_end}
use Rattle.mau_listing.proofs.order.compare_lists.Goals as goal

pub returns : goal.returns
returns c =
    c.cmp.ensures
    ∙ sym (c.loop-i.invariant ∙ compare_end tree_cmp (tree_at c.args.store.now) (λ id. id.0) c.args.first.now c.args.second.now c.loop-i.i (omega arith))
