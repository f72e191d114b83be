use Rattle.std.proofs.Common.{reverse}
use Rattle.mau_strattext.proofs.Made.{where_ok, mark_made}
use Rattle.mau_strattext.proofs.stack.mark.Goals as goal

pub returns-in-Ok-marked-clause-made : goal.returns-in-Ok-marked-clause-made
returns-in-Ok-marked-clause-made c =
    where_ok c.push.result
    (mark_made c.args.setting.now c.args.place c.word.result.now c.in-Ok.inner c.in-Ok-marked.made (reverse c.pop.new.stack.items)
    (reverse c.args.stack.now.items) (reverse c.push.new.stack.items) c.word.ensures c.in-Ok-marked.ensures.made c.in-Ok.ensures.latest)
    c.push.ensures.latest
