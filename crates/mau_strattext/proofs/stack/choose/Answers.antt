use Rattle.std.proofs.Common.{reverse}
use Rattle.mau_strattext.proofs.Made.{where_ok, choose_made}
use Rattle.mau_strattext.proofs.stack.choose.Goals as goal

pub returns-in-Ok-chosen-clause-made : goal.returns-in-Ok-chosen-clause-made
returns-in-Ok-chosen-clause-made c =
    where_ok c.push.result
    (choose_made c.args.setting.now c.in-Ok-pop-2.test c.in-Ok-pop.then c.in-Ok.other c.in-Ok-chosen.made (reverse c.pop-3.new.stack.items) (reverse c.pop-2.new.stack.items)
    (reverse c.pop.new.stack.items) (reverse c.args.stack.now.items) (reverse c.push.new.stack.items) c.in-Ok-chosen.ensures.made c.in-Ok.ensures.latest
    c.in-Ok-pop.ensures.latest c.in-Ok-pop-2.ensures.latest)
    c.push.ensures.latest
