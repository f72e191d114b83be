use Rattle.mau_lists.proofs.Fewer.{part_calls_leave_fewer as law}
use Rattle.mau_lists.proofs.laws.part_calls_leave_fewer.Goals as goal

pub returns : goal.returns
returns c = law
