use Rattle.std.proofs.Common.{◌≡◌, ◌∙◌, ap, sym, rules, tests}
use Rattle.std.specs.Cmp.{tied_itself}
use Rattle.mau_terms.specs.Order.{tree_cmp}
use Rattle.mau_terms.proofs.Orders.{tree_total}
use Rattle.mau_store.specs.Trees.{tree_at}
use Rattle.mau_store.proofs.Numbers.{tied_where_one_number}
use Rattle.mau_store.proofs.store.Store.compare.Goals as goal

pub returns-in-Break-clause-equal : goal.returns-in-Break-clause-equal
returns-in-Break-clause-equal c p q =
    let s = c.args.self.now in
    let whole : tree_cmp (tree_at s c.args.a.0) (tree_at s c.args.b.0) ≡ c.in-Break.order = c.loop-left.invariant.order ∙ c.in-Break.ensures.order in
    let tied = tied_where_one_number s c.in-Break.ensures.nodes c.args.a.0 c.args.b.0 p q in
    (λ e. tied.0 (whole ∙ e), λ e. sym whole ∙ tied.1 e)

pub returns-clause-order : goal.returns-clause-order
returns-clause-order c =
    let s = c.args.self.now in
    let one : c.args.a.0 ≡ c.args.b.0 = c.loop-left.invariant.same (search (rules, tests)) in
    sym (ap (λ i. tree_cmp (tree_at s c.args.a.0) (tree_at s i)) (sym one) ∙ tied_itself tree_total (tree_at s c.args.a.0))
