use Rattle.mau_print.proofs.NamesWritten.{readers_keep_names}
use Rattle.mau_print.proofs.laws.readers_keep_names.Goals as goal

pub returns : goal.returns
returns c = readers_keep_names
