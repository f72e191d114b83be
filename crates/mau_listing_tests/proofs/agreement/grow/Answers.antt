use Rattle.mau_listing.proofs.Growth.{listings_go_on}
use Rattle.mau_listing_tests.proofs.agreement.grow.Goals as goal

pub loop-term-preserved : goal.loop-term-preserved
loop-term-preserved g c =
    let e = c.in_ok-enter.ensures in
    record {
      over = e.over;
      kept = λ v a o can. listings_go_on v c.args.sig.now c.loop-term.store c.enter.new.store c.loop-term.sorts c.enter.new.sorts e.extends e.kept e.over a o (c.loop-term.invariant.kept v a o can);
    }
