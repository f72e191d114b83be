use Rattle.mau_print.proofs.NamesWritten.{tokens_are_names}
use Rattle.mau_print.proofs.laws.tokens_are_names.Goals as goal

pub returns : goal.returns
returns c = tokens_are_names
