use Rattle.mau_api.proofs.LawfulMeanings.{meanings_are_lawful}
use Rattle.mau_api.proofs.laws.meanings_are_lawful.Goals as goal

pub returns : goal.returns
returns c = meanings_are_lawful
