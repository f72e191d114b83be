use Rattle.std.proofs.Common.{ap, ◌∙◌}
use Rattle.mau_terms.specs.Solution.{list_under}
use Rattle.mau_store.specs.Trees.{tree_at}
use Rattle.mau_store.specs.View.{numbers}
use Rattle.mau_signature.specs.Signature.{theory_at}
use Rattle.mau_canon.proofs.Elements.{elements_stand}
use Rattle.mau_canon.proofs.list.list_of.Goals as goal

pub returns-clause-within : goal.returns-clause-within
returns-clause-within c s =
    let nodes = c.args.store.now in
    elements_stand (theory_at c.args.sig.now) c.theory.ensures.lawful.theories nodes c.args.op.0 c.args.id.now.0 (numbers c.pieces.result.now) c.pieces.ensures.there
    (c.pieces.ensures.list ∙ ap (λ h. list_under h c.args.op.0 (tree_at nodes c.args.id.now.0)) c.theory.ensures.value) s
