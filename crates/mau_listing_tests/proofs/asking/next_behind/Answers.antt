use Rattle.std.proofs.Common.{sym, subst}
use Rattle.mau_terms.specs.View.{tree_of}
use Rattle.mau_listing.specs.Asked.{asks, CanGoOn}
use Rattle.mau_listing_tests.proofs.asking.next_behind.Goals as goal

pub next_of-requires-clause-ready : goal.next_of-requires-clause-ready
next_of-requires-clause-ready g c =
    let s = c.args.sig.now in
    let q = c.args.question.now in
    let store = c.args.store.now in
    let sorts = c.args.sorts.now in
    let listing = c.in_ok-listing.listing in
    let w = g.L.Lister.with_context in
    let last = c.args.last.now in
    let a = asks (tree_of q.pattern) q.bound.items c.args.id in
    subst (λ o. CanGoOn w s store sorts (g.L.Lister.asked listing) o) (sym {b = last} c.in_ok-listing.ensures.given)
    (subst (λ x. CanGoOn w s store sorts x last) (sym {b = a} c.in_ok-listing.ensures.asked) c.requires)

pub returns-clause-given : goal.returns-clause-given
returns-clause-given g c =
    let q = c.args.question.now in
    let a = asks (tree_of q.pattern) q.bound.items c.args.id in
    subst (λ x. CanGoOn g.L.Lister.with_context c.args.sig.now c.next_of.new.store c.next_of.new.sorts x c.in_ok-found.found) {y = a} c.in_ok-listing.ensures.asked c.in_ok-found.ensures.given
