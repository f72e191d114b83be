use Rattle.std.proofs.Common.{◌+◌, subst}
use Rattle.mau_machine.specs.Words.{Rules, ComesToEnd, settle_on}
use Rattle.mau_machine.proofs.settling.settle.Goals as goal

pub settle_further-requires-clause-ready : goal.settle_further-requires-clause-ready
settle_further-requires-clause-ready g c =
    g.met.W.World.begins c.args.world.now c.loop.world c.args.store.now c.loop.store c.requires.ready c.loop.invariant.0

pub settle_further-requires-clause-term : goal.settle_further-requires-clause-term
settle_further-requires-clause-term g c =
    ((g.met.W.World.keeps c.args.world.now c.loop.world c.args.store.now c.loop.store c.loop.invariant.0).terms c.args.term.0 c.requires.term).0

pub loop-preserved : goal.loop-preserved
loop-preserved g c = (
  g.met.W.World.goes_on c.args.world.now c.loop.world c.settle_further.new.world c.args.store.now c.loop.store c.settle_further.new.store c.loop.invariant.0 c.settle_further.ensures.grows,
  c.in-Ok-false.ensures.settling c.in-Ok-false.field-0-test,
)

pub returns-in-Err-settle_further-clause-ends : goal.returns-in-Err-settle_further-clause-ends
returns-in-Err-settle_further-clause-ends g c =
    let w0 = (g.W.World.words c.args.world.now c.args.store.now) in
    let w = (g.W.World.words c.loop.world c.loop.store) in
    let k = g.met.W.World.keeps c.args.world.now c.loop.world c.args.store.now c.loop.store c.loop.invariant.0 in
    let t = c.args.term.0 in
    let e = c.in-Err-settle_further.end in
    λ b. subst (λ (Q : Rules). ComesToEnd Q.program (λ n. settle_on Q (c.args.level + n) (w0.tree t) b) e) k.rules
    (subst (λ u. ComesToEnd w.rules.program (λ n. settle_on w.rules (c.args.level + n) u b) e) (k.terms t c.requires.term).1 (c.in-Err-settle_further.ensures.ends b))
