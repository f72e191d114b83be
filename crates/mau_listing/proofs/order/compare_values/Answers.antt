use Rattle.std.proofs.Common.{arith}
use Rattle.mau_signature.specs.Signature.{theory_at}
use Rattle.mau_canon.proofs.Standing.{stand_at}
use Rattle.mau_listing.proofs.order.compare_values.Goals as goal

pub value_key_of-left-requires-clause-value : goal.value_key_of-left-requires-clause-value
value_key_of-left-requires-clause-value c = stand_at (theory_at c.args.sig.now) c.args.store.now c.args.first.now c.loop-i.i (record { 0 = 0 }) (omega arith) c.requires.first

pub value_key_of-right-requires-clause-value : goal.value_key_of-right-requires-clause-value
value_key_of-right-requires-clause-value c = stand_at (theory_at c.args.sig.now) c.args.store.now c.args.second.now c.loop-i.i (record { 0 = 0 }) (omega arith) c.requires.second
