use Rattle.std.proofs.Common.{reverse}
use Rattle.mau_strattext.proofs.Made.{where_ok, join_made}
use Rattle.mau_strattext.proofs.stack.join.Goals as goal

pub returns-in-Ok-joined-clause-made : goal.returns-in-Ok-joined-clause-made
returns-in-Ok-joined-clause-made c =
    where_ok c.push.result
    (join_made c.args.setting.now c.args.place c.word.result.now c.in-Ok-pop.left c.in-Ok.right c.in-Ok-joined.made (reverse c.pop-2.new.stack.items)
    (reverse c.pop.new.stack.items) (reverse c.args.stack.now.items) (reverse c.push.new.stack.items) c.word.ensures c.in-Ok-joined.ensures.made c.in-Ok.ensures.latest c.in-Ok-pop.ensures.latest)
    c.push.ensures.latest
