use Rattle.std.proofs.Common.{sym, subst}
use Rattle.mau_signature.specs.Signature.{theory_at}
use Rattle.mau_store.specs.View.{numbers}
use Rattle.mau_canon.specs.Standing.{StandWithin}
use Rattle.mau_canon.proofs.Standing.{arguments_stand_within}
use Rattle.mau_match.proofs.may_match.arguments_of.Goals as goal

pub returns-in_ok-ids-in-App-clause-within : goal.returns-in_ok-ids-in-App-clause-within
returns-in_ok-ids-in-App-clause-within c =
    let th = theory_at c.args.sig.now in
    let nodes = c.args.store.now in
    subst (λ l. StandWithin th nodes (numbers l)) (sym c.in_ok-ids-in-App.ensures) (arguments_stand_within th c.is_lawful.ensures.lawful.theories nodes c.in-App.ensures.nodes c.args.id.0 _ c.in-App.ensures.node c.requires.term)
