use Rattle.mau_parse.proofs.BareTerms.{terms_are_bare}
use Rattle.mau_parse.proofs.laws.terms_are_bare.Goals as goal

pub returns : goal.returns
returns c = terms_are_bare
