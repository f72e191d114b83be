use Rattle.std.proofs.Common.{◌<◌, All, length, rules}
use Rattle.mau_terms.specs.declared.ids.TermId.{TermId}
use Rattle.mau_store.proofs.Arguments.{AreBelow-ids}
use Rattle.mau_listing_tests.proofs.stores.application.Goals as goal

pub intern-requires : goal.intern-requires
intern-requires g c =
    let given : All (λ (id : TermId). id.0 < length c.args.store.now) c.args.args.now = search rules in
    AreBelow-ids (length c.args.store.now) c.args.args.now given
