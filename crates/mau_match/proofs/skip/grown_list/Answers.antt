use Rattle.std.proofs.Common.{sym, subst, arith}
use Rattle.std.proofs.lemmas.Result.{IfOk-weaker}
use Rattle.mau_signature.specs.Signature.{theory_at}
use Rattle.mau_store.specs.View.{numbers}
use Rattle.mau_canon.specs.Standing.{StandWithin}
use Rattle.mau_match.proofs.Skipping.{far_grown, stand_joined, stand_part}
use Rattle.mau_match.proofs.skip.grown_list.Goals as goal

pub returns-clause-far : goal.returns-clause-far
returns-clause-far c =
    IfOk-weaker c.joined.result _ _
    (λ far e. far_grown c.args.store.now c.args.items.now c.args.list.now c.requires.sorted c.args.from c.args.least c.requires.rest c.requires.room _ (omega arith) c.requires.short c.requires.enough far.items e) c.joined.ensures

pub returns-clause-within : goal.returns-clause-within
returns-clause-within c =
    let th = theory_at c.args.sig.now in
    let nodes = c.args.store.now in
    IfOk-weaker c.joined.result _ _
    (λ far e. subst (λ ids. StandWithin th nodes (numbers ids)) (sym e) (stand_joined th nodes c.args.list.now _ c.requires.list (stand_part th nodes _ c.args.from c.args.items.now c.requires.items))) c.joined.ensures
