use Rattle.std.proofs.Common.{[], subst, IfOk, IfErr}
use Rattle.mau_terms.specs.Tree.{Tree}
use Rattle.mau_terms.specs.Norm.{norm}
use Rattle.mau_terms.specs.View.{tree_of}
use Rattle.mau_signature.specs.Signature.{theory_at}
use Rattle.mau_store.specs.Trees.{StandsFor}
use Rattle.mau_canon.specs.Within.{IsCause}
use Rattle.mau_canon.proofs.Values.{instance_of_none}
use Rattle.mau_canon.proofs.bare.build_bare.Goals as goal

pub returns-clause-ok : goal.returns-clause-ok
returns-clause-ok c =
    let P : Tree → Type 0 = λ t. IfOk c.build_instance.result (λ id. StandsFor (theory_at c.args.sig.now) c.build_instance.new.store id.0 t) in
    subst P (instance_of_none [] (tree_of c.args.term.now)) c.build_instance.ensures.ok

pub returns-clause-refused : goal.returns-clause-refused
returns-clause-refused c =
    let P : Tree → Type 0 = λ t. IfErr c.build_instance.result (IsCause (theory_at c.args.sig.now) (norm (theory_at c.args.sig.now) t)) in
    subst P (instance_of_none [] (tree_of c.args.term.now)) c.build_instance.ensures.refused
