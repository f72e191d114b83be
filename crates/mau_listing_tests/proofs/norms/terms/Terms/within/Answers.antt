use Rattle.std.proofs.Common.{All, Contains, subst, rules}
use Rattle.mau_signature.specs.Signature.{theory_at}
use Rattle.mau_store.specs.View.{numbers}
use Rattle.mau_canon.proofs.Standing.{stand_among, stand_kept, stand_within_extended}
use Rattle.mau_listing_tests.proofs.norms.terms.Terms.within.Goals as goal

pub build_around-requires-clause-left : goal.build_around-requires-clause-left
build_around-requires-clause-left g c =
    let given : All (Contains c.deref.result.now) c.args.left.now = c.are_among.ensures (search rules) in
    stand_among (theory_at c.self.inside.sig) c.self.inside.store c.args.left.now c.self.inside.ids.items
    (subst (λ ids. All (Contains ids) c.args.left.now) c.deref.ensures.value given) c.self.invariant

pub build_around-requires-clause-values : goal.build_around-requires-clause-values
build_around-requires-clause-values g c =
    let given : All (Contains c.deref-2.result.now) c.args.values.now = c.are_among-2.ensures (search rules) in
    stand_among (theory_at c.self.inside.sig) c.self.inside.store c.args.values.now c.self.inside.ids.items
    (subst (λ ids. All (Contains ids) c.args.values.now) c.deref-2.ensures.value given) c.self.invariant

pub build_around-requires-clause-right : goal.build_around-requires-clause-right
build_around-requires-clause-right g c =
    let given : All (Contains c.deref.result.now) c.args.left.now = c.are_among.ensures (search rules) in
    stand_among (theory_at c.self.inside.sig) c.self.inside.store c.args.left.now c.self.inside.ids.items
    (subst (λ ids. All (Contains ids) c.args.left.now) c.deref.ensures.value given) c.self.invariant

pub invariant_of-self : goal.invariant_of-self
invariant_of-self g c = stand_within_extended (theory_at c.self.inside.sig) c.self.inside.store c.build_around.new.store (numbers c.self.inside.ids.items) c.build_around.ensures.extends c.self.invariant

pub invariant_of-self-2 : goal.invariant_of-self-2
invariant_of-self-2 g c =
    let th = theory_at c.self.inside.sig in
    stand_kept th c.build_around.new.store c.self.inside.ids.items c.keep.new.ids.items c.in_ok-id.id c.keep.ensures
    (stand_within_extended th c.self.inside.store c.build_around.new.store (numbers c.self.inside.ids.items) c.build_around.ensures.extends c.self.invariant)
    c.in_ok-id.ensures.within
