use Rattle.mau_terms.specs.Subst.{instance}
use Rattle.mau_terms.specs.View.{tree_of}
use Rattle.mau_canon.specs.Values.{values_in}
use Rattle.mau_terms.specs.Norm.{norm}
use Rattle.mau_signature.specs.Signature.{theory_at}
use Rattle.mau_check.proofs.Results.{always_none}
use Rattle.mau_check.proofs.building.instance_within.Goals as goal

pub returns-in-Err-clause-none : goal.returns-in-Err-clause-none
returns-in-Err-clause-none c =
    always_none c.refused.result _
    (c.refused.ensures.beyond (theory_at c.args.sig.now) (norm (theory_at c.args.sig.now) (instance (values_in c.args.store.now c.args.variables.now c.args.values.now) (tree_of c.args.term.now))) c.in-Err.ensures.refused)
