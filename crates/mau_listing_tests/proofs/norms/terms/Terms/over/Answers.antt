use Rattle.std.proofs.Common.{All, Contains, subst, rules}
use Rattle.mau_signature.specs.Signature.{theory_at}
use Rattle.mau_store.specs.View.{numbers}
use Rattle.mau_canon.proofs.Standing.{stand_among, stand_kept, stand_within_extended}
use Rattle.mau_listing_tests.proofs.norms.terms.Terms.over.Goals as goal

pub build-requires-clause-args : goal.build-requires-clause-args
build-requires-clause-args g c =
    let given : All (Contains c.deref.result.now) c.args.args.now = c.are_among.ensures (search rules) in
    stand_among (theory_at c.self.inside.sig) c.self.inside.store c.args.args.now c.self.inside.ids.items
    (subst (λ ids. All (Contains ids) c.args.args.now) c.deref.ensures.value given) c.self.invariant

pub invariant_of-self : goal.invariant_of-self
invariant_of-self g c = stand_within_extended (theory_at c.self.inside.sig) c.self.inside.store c.build.new.store (numbers c.self.inside.ids.items) c.build.ensures.extends c.self.invariant

pub invariant_of-self-2 : goal.invariant_of-self-2
invariant_of-self-2 g c =
    let th = theory_at c.self.inside.sig in
    stand_kept th c.build.new.store c.self.inside.ids.items c.keep.new.ids.items c.in_ok-id.id c.keep.ensures
    (stand_within_extended th c.self.inside.store c.build.new.store (numbers c.self.inside.ids.items) c.build.ensures.extends c.self.invariant)
    c.in_ok-id.ensures.within
