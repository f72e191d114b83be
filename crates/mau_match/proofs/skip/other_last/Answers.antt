use Rattle.std.proofs.Common.{◌++◌, take, sym, ◌∙◌, ap, subst}
use Rattle.std.proofs.lemmas.Result.{IfOk-weaker}
use Rattle.mau_signature.specs.Signature.{theory_at}
use Rattle.mau_store.specs.View.{numbers}
use Rattle.mau_canon.specs.Standing.{StandWithin}
use Rattle.mau_match.proofs.Skipping.{far_cut, stand_joined, stand_part, stand_last}
use Rattle.mau_match.proofs.skip.other_last.Goals as goal

pub returns-clause-far : goal.returns-clause-far
returns-clause-far c =
    IfOk-weaker c.joined.result _ _
    (λ far e. far_cut c.args.store.now c.args.items.now c.args.list.now c.requires.sorted c.args.least c.cut_of-cut.result c.cut_of-cut.ensures.cut _ far.items (e ∙ ap (λ w. take c.cut_of-cut.result c.args.list.now ++ w) c.from_ref.ensures.value)) c.joined.ensures

pub returns-clause-within : goal.returns-clause-within
returns-clause-within c =
    let th = theory_at c.args.sig.now in
    let nodes = c.args.store.now in
    let cut = c.cut_of-cut.result in
    IfOk-weaker c.joined.result _ _
    (λ far e. subst (λ ids. StandWithin th nodes (numbers ids)) (sym (e ∙ ap (λ w. take cut c.args.list.now ++ w) c.from_ref.ensures.value))
    (stand_joined th nodes (take cut c.args.list.now) _ (stand_part th nodes cut 0 c.args.list.now c.requires.list) (stand_last th nodes c.args.items.now _ c.requires.any c.requires.items))) c.joined.ensures
