use Rattle.std.proofs.Common.{reverse}
use Rattle.mau_strattext.proofs.Top.{whole_read}
use Rattle.mau_strattext.proofs.strategy.read_whole.Goals as goal

pub returns-in-Ok-Some-clause-reads : goal.returns-in-Ok-Some-clause-reads
returns-in-Ok-Some-clause-reads c =
    whole_read c.args.setting.now c.args.pieces.now c.args.vars.now c.build.new.vars (reverse c.in-Ok-Some.stack.items) (reverse c.pop.new.stack.items) c.pop.result c.requires.whole
    (rw c.in-Ok-Some.field-0-is at c.in-Ok-Some.ensures.built) c.pop.ensures.latest
