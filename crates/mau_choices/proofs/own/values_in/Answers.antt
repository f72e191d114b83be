use Rattle.std.proofs.Common.{arith}
use Rattle.mau_choices.proofs.Owned.{bound_more, among_more}
use Rattle.mau_choices.proofs.own.values_in.Goals as goal

pub loop-i-preserved : goal.loop-i-preserved
loop-i-preserved c =
    let more = c.in_ok-push-in-Some.ensures.items in (
      λ nodes.
          bound_more nodes c.args.bound.now c.deref.result.now c.deref-in-loop-i.result.now c.deref.ensures.value c.deref-in-loop-i.ensures.value c.args.variables.now c.loop-i.values.items c.push.new.self.items c.loop-i.i
          _ c.in-Some.value (omega arith) more (c.loop-i.invariant.0 nodes) (c.in-Some.ensures.value nodes),
      among_more c.args.bound.now.values.items c.deref-in-loop-i.result.now c.loop-i.values.items c.push.new.self.items c.in-Some.value c.deref-in-loop-i.ensures.value more c.loop-i.invariant.1 c.in-Some.ensures.among,
    )
