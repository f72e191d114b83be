use Rattle.mau_print.proofs.ReadBack.{texts_read_back}
use Rattle.mau_print.proofs.laws.texts_read_back.Goals as goal

pub returns : goal.returns
returns c = texts_read_back
