use Rattle.mau_match.proofs.sums.push_shares.Goals as goal

pub loop-limit-preserved : goal.loop-limit-preserved
loop-limit-preserved c = λ th gg h. c.in_ok-push_share.ensures th gg (c.loop-limit.invariant th gg h)
