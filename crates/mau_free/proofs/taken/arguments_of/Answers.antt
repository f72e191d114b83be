use Rattle.std.proofs.Common.{◌∙◌, [], if◌then◌else◌, sym, ap, subst}
use Rattle.mau_terms.specs.Tree.{list_of, trees_of}
use Rattle.mau_terms.proofs.Pieces.{list_of-trees_of}
use Rattle.mau_signature.specs.Signature.{theory_at}
use Rattle.mau_store.specs.Trees.{trees_at}
use Rattle.mau_store.specs.View.{numbers}
use Rattle.mau_canon.specs.Standing.{StandWithin}
use Rattle.mau_canon.proofs.Standing.{arguments_stand_within}
use Rattle.mau_free.specs.Arguments.{arguments_at}
use Rattle.mau_free.proofs.taken.arguments_of.Goals as goal

pub returns-in_ok-from_slice-in-App-clause-terms : goal.returns-in_ok-from_slice-in-App-clause-terms
returns-in_ok-from_slice-in-App-clause-terms c =
    let nodes = c.args.store.now in
    let ts = trees_at nodes (numbers c.in-App.args.now) in
    let same = sym c.eq.ensures ∙ c.if-eq.true in
    ap (λ w. trees_at nodes (numbers w)) c.in_ok-from_slice-in-App.ensures.items
    ∙ sym (ap (arguments_at c.args.op.0) c.in-App.ensures.tree ∙ ap (λ d. if d then list_of (trees_of ts) else []) same ∙ list_of-trees_of ts)

pub returns-in_ok-from_slice-in-App-clause-within : goal.returns-in_ok-from_slice-in-App-clause-within
returns-in_ok-from_slice-in-App-clause-within c =
    let th = theory_at c.args.sig.now in
    let nodes = c.args.store.now in
    subst (λ w. StandWithin th nodes (numbers w)) (sym c.in_ok-from_slice-in-App.ensures.items)
    (arguments_stand_within th c.theory.ensures.lawful.theories nodes c.in-App.ensures.nodes c.args.term.0 _ c.in-App.ensures.node c.requires.term)
