use Rattle.std.proofs.Common.{get_or, ap, ◌∙◌, arith}
use Rattle.mau_rules.proofs.Cyclic.{cyclic_behind, cyclic_before, cyclic_past}
use Rattle.mau_rules.proofs.search.cyclic.Goals as goal

pub returns-then-turn-count-clause-place : goal.returns-then-turn-count-clause-place
returns-then-turn-count-clause-place c = λ qs e long. cyclic_past qs c.args.turn c.args.index e (omega (arith, long)) (omega (arith, long))

pub returns-then-index-behind-clause-place : goal.returns-then-index-behind-clause-place
returns-then-index-behind-clause-place c = λ qs e long. cyclic_behind qs c.args.turn c.args.index e (omega (arith, long))

pub returns-else-index-behind-clause-place : goal.returns-else-index-behind-clause-place
returns-else-index-behind-clause-place c = λ qs e long.
    cyclic_before qs c.args.turn c.args.index e (omega (arith, long)) (omega (arith, long)) (omega (arith, long)) ∙ ap (λ k. get_or qs k e) (omega (arith, long))
