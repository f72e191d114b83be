use Rattle.mau_signature.proofs.Lows.{as_long}
use Rattle.mau_signature.proofs.results.are_at_or_below.Goals as goal

pub returns-then-sorts-others : goal.returns-then-sorts-others
returns-then-sorts-others c = (λ h. cc, λ a. absurd (c.if-sorts-others.true (as_long c.args.poset.now c.args.sorts.now c.args.others.now a)))
