use Rattle.std.proofs.Common.{false}
use Rattle.mau_listing_tests.proofs.agreement.agree.Goals as goal

pub agrees-requires-clause-ready : goal.agrees-requires-clause-ready
agrees-requires-clause-ready g c = c.in_ok-id.ensures.ready false
