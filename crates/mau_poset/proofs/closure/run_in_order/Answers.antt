use Rattle.std.proofs.Common.{◌<◌, All, length, get_or, arith}
use Rattle.mau_poset.specs.Order.{Leads}
use Rattle.mau_poset.proofs.closure.run_in_order.Goals as goal

pub loop-a-preserved : goal.loop-a-preserved
loop-a-preserved c = λ pairs leads before.
    let a = get_or c.args.order.now c.loop-a.a-index 0 in
    let a_in : a < length c.args.uppers.now = grind arith in
    let own : All (Leads pairs a) c.deref.result.now = rw (c.deref.ensures.value, c.index-uppers-a.is) (leads a c.index-uppers-a.result a_in) in
    c.add_all.ensures pairs own (c.loop-a.invariant pairs leads before)
