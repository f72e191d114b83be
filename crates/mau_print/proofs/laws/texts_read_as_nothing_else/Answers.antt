use Rattle.mau_print.proofs.ReadAgain.{texts_read_as_nothing_else}
use Rattle.mau_print.proofs.laws.texts_read_as_nothing_else.Goals as goal

pub returns : goal.returns
returns c = texts_read_as_nothing_else
