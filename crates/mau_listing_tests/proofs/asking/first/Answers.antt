use Rattle.std.proofs.Common.{None, sym, subst}
use Rattle.mau_terms.specs.View.{tree_of}
use Rattle.mau_listing.specs.Asked.{asks, CanGoOn}
use Rattle.mau_listing_tests.proofs.asking.first.Goals as goal

pub first_solutions-requires-clause-ready : goal.first_solutions-requires-clause-ready
first_solutions-requires-clause-ready g c =
    let s = c.args.sig.now in
    let q = c.args.question.now in
    let store = c.settled.new.store in
    let sorts = c.in_ok-id.sorts in
    let listing = c.in_ok-listing.listing in
    let w = g.L.Lister.with_context in
    let a = asks (tree_of q.pattern) q.bound.items c.in_ok-id.id in
    subst (λ o. CanGoOn w s store sorts (g.L.Lister.asked listing) o) (sym {b = None} c.in_ok-listing.ensures.given)
    (subst (λ x. CanGoOn w s store sorts x None) (sym {b = a} c.in_ok-listing.ensures.asked) (c.in_ok-id.ensures.ready w))
