use Rattle.std.proofs.Common.{refl}
use Rattle.mau_machine.proofs.replies.settle_on.Goals as goal

pub returns-clause-settles : goal.returns-clause-settles
returns-clause-settles g c =
    (c.told.new.settling, refl, c.told.ensures.known)
