use Rattle.std.proofs.Common.{◌-◌, length}
use Rattle.mau_parse.proofs.readings.+kinds.Given as goal

abbrev pub decreases-kind_list : goal.decreases-kind_list
decreases-kind_list l = length l.words.now - l.from
