use Rattle.std.proofs.Common.{◌≡◌, ◌*◌, min, length, arith}
use Rattle.mau_sigcheck.proofs.Counting.{counted-more, counted-all}
use Rattle.mau_sigcheck.proofs.checker.Checker.count_tuples.Goals as goal

pub loop-kind-preserved : goal.loop-kind-preserved
loop-kind-preserved c =
    let next : c.saturating_mul-count.result ≡ min (c.loop-kind.count * length c.members.result.now) 18446744073709551615 = c.saturating_mul-count.ensures in
    record {
      counted = counted-more c.args.self.now.hierarchy c.args.kinds.now c.members.result.now c.loop-kind.kind-index c.loop-kind.count c.saturating_mul-count.result _ 18446744073709551615
          c.requires c.loop-kind-test.true c.members.ensures next c.loop-kind.invariant.counted;
      small = omega arith;
    }

pub returns : goal.returns
returns c =
    counted-all c.args.self.now.hierarchy c.args.kinds.now c.loop-kind.kind-index c.loop-kind.count 18446744073709551615 c.loop-kind-test.false c.loop-kind.invariant.small
    c.loop-kind.invariant.counted
