use Rattle.std.proofs.Common.{sym, ◌∙◌, ap, refl}
use Rattle.mau_chart.specs.Nodes.{tree_at}
use Rattle.mau_parse.specs.Overflow.{overflows}
use Rattle.mau_parse.proofs.ResultsRight.{overflows-renamed}
use Rattle.mau_parse.proofs.results.one_term.Goals as goal

pub returns-then-overflows-clause-fault : goal.returns-then-overflows-clause-fault
returns-then-overflows-clause-fault c =
    let ss = c.args.grammar.now.successors in
    (refl, sym (overflows-renamed ss c.args.pairs.now _ (tree_at c.args.trees.now c.args.id.0)) ∙ sym (ap (overflows ss) c.in_ok-term.ensures.term) ∙ sym c.overflows.ensures ∙ c.if-overflows.true)

pub returns-clause-small : goal.returns-clause-small
returns-clause-small c =
    let ss = c.args.grammar.now.successors in
    sym (overflows-renamed ss c.args.pairs.now _ (tree_at c.args.trees.now c.args.id.0)) ∙ sym (ap (overflows ss) c.in_ok-term.ensures.term) ∙ sym c.overflows.ensures ∙ c.if-overflows.false
