use Rattle.std.proofs.Common.{arith}
use Rattle.std.proofs.lemmas.Grind.{text_counts}
use Rattle.mau_print.proofs.texts.count_texts.Goals as goal

pub overflow_add-counts : goal.overflow_add-counts
overflow_add-counts c = grind (arith, text_counts)

pub loop-text-preserved : goal.loop-text-preserved
loop-text-preserved c = grind (arith, text_counts)
