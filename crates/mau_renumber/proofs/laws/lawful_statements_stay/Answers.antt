use Rattle.mau_renumber.proofs.Stays.{all_stay}
use Rattle.mau_renumber.proofs.laws.lawful_statements_stay.Goals as goal

pub returns : goal.returns
returns c = all_stay
