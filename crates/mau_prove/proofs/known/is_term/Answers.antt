use Rattle.mau_prove.proofs.Working.{kept_term, kept_tree}
use Rattle.mau_prove.proofs.known.is_term.Goals as goal

pub returns-in-Some-clause-term : goal.returns-in-Some-clause-term
returns-in-Some-clause-term c nodes h true_here = kept_term c.args.sig.now c.operators.ensures.lawful nodes c.args.id.0 c.in-Some.field-0 (c.in-Some.ensures c.args.sig.now nodes h)

pub returns-in-Some-clause-tree : goal.returns-in-Some-clause-tree
returns-in-Some-clause-tree c nodes h true_here = kept_tree c.args.sig.now c.operators.ensures.lawful nodes c.args.id.0 c.in-Some.field-0 (c.in-Some.ensures c.args.sig.now nodes h)
