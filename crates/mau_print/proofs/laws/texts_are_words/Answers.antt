use Rattle.mau_print.proofs.ReadBack.{texts_are_words}
use Rattle.mau_print.proofs.laws.texts_are_words.Goals as goal

pub returns : goal.returns
returns c = texts_are_words
