use Rattle.mau_results.proofs.ShownSorts.{least_sorts_are_shown}
use Rattle.mau_results.proofs.laws.least_sorts_are_shown.Goals as goal

pub returns : goal.returns
returns c = least_sorts_are_shown
