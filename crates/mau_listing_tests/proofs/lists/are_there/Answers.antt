use Rattle.std.proofs.Common.{◌<◌, All, length, rules}
use Rattle.mau_terms.specs.declared.ids.TermId.{TermId}
use Rattle.mau_store.proofs.Arguments.{AreBelow-ids}
use Rattle.mau_listing_tests.proofs.lists.are_there.Goals as goal

pub returns : goal.returns
returns g c =
    let given : All (λ (id : TermId). id.0 < length c.args.store.now) c.args.ids.now = search rules in
    record { there = AreBelow-ids (length c.args.store.now) c.args.ids.now given }
