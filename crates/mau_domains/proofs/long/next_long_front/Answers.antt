use Rattle.mau_domains.proofs.LongerIds.{no_front, long_enough, second_front}
use Rattle.mau_domains.proofs.long.next_long_front.Goals as goal

pub returns-then-len-lt2-clause-next : goal.returns-then-len-lt2-clause-next
returns-then-len-lt2-clause-next c = second_front c.args.store.now c.args.items.now c.args.last.now c.in-Some.len c.if-len-lt2.true c.in-Some.ensures.next c.front_behind-then-len-lt2.result c.front_behind-then-len-lt2.ensures.next

pub returns-else-len-lt2-clause-next : goal.returns-else-len-lt2-clause-next
returns-else-len-lt2-clause-next c = long_enough c.args.store.now c.args.items.now c.args.last.now c.in-Some.len c.in-Some.ensures.room c.if-len-lt2.false c.in-Some.ensures.next

pub returns-in_default-clause-next : goal.returns-in_default-clause-next
returns-in_default-clause-next c = no_front c.args.store.now c.args.items.now c.args.last.now c.in_default.ensures.next
