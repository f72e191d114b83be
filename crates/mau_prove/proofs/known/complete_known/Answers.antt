use Rattle.std.proofs.Common.{arith}
use Rattle.mau_store.proofs.Growth.{extension_is_preorder, IsOf-extends}
use Rattle.mau_prove.proofs.known.complete_known.Goals as goal

pub add_known-requires-clause-there : goal.add_known-requires-clause-there
add_known-requires-clause-there c = IsOf-extends c.args.store.now c.loop-i.store c.loop-i.i c.loop-i.invariant.extends (omega (arith, c.loop-i-test.true, c.len-count.ensures.counted))

pub loop-i-preserved : goal.loop-i-preserved
loop-i-preserved c = record {
  kept = c.add_known.ensures.kept;
  extends = extension_is_preorder.transitive c.args.store.now c.loop-i.store c.add_known.new.store c.loop-i.invariant.extends c.add_known.ensures.extends;
}
