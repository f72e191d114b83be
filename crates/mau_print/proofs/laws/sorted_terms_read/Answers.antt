use Rattle.mau_print.proofs.Windows.{here_sorted}
use Rattle.mau_print.proofs.laws.sorted_terms_read.Goals as goal

pub returns : goal.returns
returns c = λ g whole n a there q ws t low r. here_sorted g whole n q a ws t there r low
