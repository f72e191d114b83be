use Rattle.mau_print.proofs.NamesWritten.{parts_of_tokens_are_words}
use Rattle.mau_print.proofs.laws.parts_of_tokens_are_words.Goals as goal

pub returns : goal.returns
returns c = parts_of_tokens_are_words
