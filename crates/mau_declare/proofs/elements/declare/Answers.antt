use Rattle.std.proofs.Common.{ap}
use Rattle.mau_declare.specs.Elements.{declared}
use Rattle.mau_declare.specs.declared.element.Declared.{Declared}
use Rattle.mau_declare.proofs.Counting.{mapped_more}
use Rattle.mau_declare.proofs.elements.declare.Goals as goal

pub loop-name-preserved : goal.loop-name-preserved
loop-name-preserved c =
    mapped_more (declared c.args.words.now c.args.sort) c.args.names.now c.loop-name.name-index (record { start = 0; end = 0 }) c.loop-name.variables.items _ _ c.loop-name-test.true c.loop-name.invariant
    c.in_ok-push.ensures.items (ap {B = Declared} (λ n. record { name = n; sort = c.args.sort }) c.token_index.ensures.index)
