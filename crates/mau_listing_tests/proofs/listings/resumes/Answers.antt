use Rattle.mau_terms.specs.View.{tree_of}
use Rattle.mau_sorts.proofs.Settling.{kept_same}
use Rattle.mau_listing.specs.Asked.{asks}
use Rattle.mau_listing.proofs.Growth.{listings_go_on}
use Rattle.mau_listing_tests.proofs.listings.resumes.Goals as goal

pub loop-k-init : goal.loop-k-init
loop-k-init g c = c.in_ok-id.ensures.ready g.L.Lister.with_context

pub loop-k-preserved : goal.loop-k-preserved
loop-k-preserved g c =
    let w = g.L.Lister.with_context in
    let sorts = c.next_behind.new.sorts in
    let q = c.in_ok-question.question in
    let a = asks (tree_of q.pattern) q.bound.items c.in_ok-id.id in
    let can = c.in_ok-next.ensures.given in
    c.in_ok-grow.ensures w a _ (listings_go_on w c.args.sig.now c.next_behind.new.store c.is_solution.new.store sorts sorts c.in_ok-is_solution.ensures (kept_same sorts) can.over a c.in_ok-next.next can)
