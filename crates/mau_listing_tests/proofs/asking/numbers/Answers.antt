use Rattle.mau_store.proofs.Growth.{extension_is_preorder}
use Rattle.mau_listing_tests.proofs.asking.numbers.Goals as goal

pub loop-text-init : goal.loop-text-init
loop-text-init g c = extension_is_preorder.reflexive c.args.store.now

pub loop-text-preserved : goal.loop-text-preserved
loop-text-preserved g c = extension_is_preorder.transitive c.args.store.now c.loop-text.store c.number.new.store c.loop-text.invariant c.number.ensures.extends
