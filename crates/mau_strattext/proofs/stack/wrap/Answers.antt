use Rattle.std.proofs.Common.{reverse}
use Rattle.mau_strattext.proofs.Made.{where_ok, wrap_made}
use Rattle.mau_strattext.proofs.stack.wrap.Goals as goal

pub returns-in-Ok-wrapped-clause-made : goal.returns-in-Ok-wrapped-clause-made
returns-in-Ok-wrapped-clause-made c =
    where_ok c.push.result
    (wrap_made c.args.setting.now c.args.place c.word.result.now c.in-Ok.inner c.in-Ok-wrapped.made (reverse c.pop.new.stack.items)
    (reverse c.args.stack.now.items) (reverse c.push.new.stack.items) c.word.ensures c.in-Ok-wrapped.ensures.made c.in-Ok.ensures.latest)
    c.push.ensures.latest
