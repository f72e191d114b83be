use Rattle.mau_signature.specs.Signature.{theory_at}
use Rattle.mau_store.specs.View.{numbers}
use Rattle.mau_canon.proofs.Standing.{stand_kept, stand_within_extended}
use Rattle.mau_listing_tests.proofs.norms.terms.Terms.bare.Goals as goal

pub invariant_of-self : goal.invariant_of-self
invariant_of-self g c = stand_within_extended (theory_at c.self.inside.sig) c.self.inside.store c.build_bare.new.store (numbers c.self.inside.ids.items) c.build_bare.ensures.extends c.self.invariant

pub invariant_of-self-2 : goal.invariant_of-self-2
invariant_of-self-2 g c =
    let th = theory_at c.self.inside.sig in
    stand_kept th c.build_bare.new.store c.self.inside.ids.items c.keep.new.ids.items c.in_ok-id.id c.keep.ensures
    (stand_within_extended th c.self.inside.store c.build_bare.new.store (numbers c.self.inside.ids.items) c.build_bare.ensures.extends c.self.invariant)
    c.in_ok-id.ensures.within
