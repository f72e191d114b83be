use Rattle.std.proofs.lemmas.Bool.{iff_false}
use Rattle.mau_signature.specs.Signature.{declarations_at}
use Rattle.mau_signature.proofs.Lows.{least-none}
use Rattle.mau_signature.proofs.signature.Signature.least_result.Goals as goal

pub returns-else-is_below_results-clause-none : goal.returns-else-is_below_results-clause-none
returns-else-is_below_results-clause-none c =
    least-none c.args.self.now.hierarchy c.poset-poset.result.now (declarations_at c.args.self.now c.args.op.0) c.declarations-decls.result.now c.args.sorts.now c.in-Some.low
    c.poset-poset.ensures.value c.declarations-decls.ensures.value c.in-Some.ensures.poset c.in-Some.ensures.lowest (iff_false c.is_below_results.ensures c.if-is_below_results.false)
