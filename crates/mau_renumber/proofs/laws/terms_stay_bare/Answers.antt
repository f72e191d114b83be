use Rattle.mau_renumber.proofs.Stays.{bare_stays}
use Rattle.mau_renumber.proofs.laws.terms_stay_bare.Goals as goal

pub returns : goal.returns
returns c = bare_stays
