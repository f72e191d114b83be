use Rattle.std.proofs.Common.{sym, ◌∙◌, arith}
use Rattle.mau_module.proofs.Firsts.{first_is, none_is}
use Rattle.mau_module.proofs.numbering.first_sort.Goals as goal

pub returns-then-kind_of-kind-clause-first : goal.returns-then-kind_of-kind-clause-first
returns-then-kind_of-kind-clause-first c = first_is c.args.poset.now c.args.kind c.loop-sort.sort c.loop-sort.invariant (omega arith) (sym c.kind_of.ensures.value ∙ c.if-kind_of-kind.true)

pub returns-clause-first : goal.returns-clause-first
returns-clause-first c = none_is c.args.poset.now c.args.kind c.loop-sort.sort c.loop-sort.invariant (omega arith)
