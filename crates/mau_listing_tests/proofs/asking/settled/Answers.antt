use Rattle.std.proofs.Common.{◌∙◌, rules}
use Rattle.mau_terms.specs.Bare.{IsBare}
use Rattle.mau_terms.specs.View.{tree_of}
use Rattle.mau_signature.specs.Signature.{theory_at, terms_over}
use Rattle.mau_store.specs.Node.{Extends}
use Rattle.mau_store.proofs.Growth.{extension_is_preorder}
use Rattle.mau_store.proofs.Standing.{tree_at-extends}
use Rattle.mau_canon.proofs.Standing.{stands_within_extended}
use Rattle.mau_listing.specs.Asked.{asks}
use Rattle.mau_listing.proofs.Asking.{may_be_asked}
use Rattle.mau_listing_tests.proofs.asking.settled.Goals as goal

pub returns-clause-ready : goal.returns-clause-ready
returns-clause-ready g c = λ v.
    let s = c.args.sig.now in
    let th = theory_at s in
    let p = tree_of c.args.question.now.pattern in
    let t = tree_of c.args.question.now.subject in
    let bound = c.args.question.now.bound.items in
    let id = c.in_ok-id.id in
    let old = c.args.store.now in
    let mid = c.build_bare.new.store in
    let new = c.put_identities.new.store in
    let extends = c.put_identities.ensures.extends in
    let all : Extends old new = extension_is_preorder.transitive old mid new c.build_bare.ensures.extends extends in
    let here = stands_within_extended th mid new extends id.0 c.in_ok-id.ensures.within in
    let pattern : IsBare (terms_over s) p = c.is_bare.ensures.0 (search rules) in
    let subject : IsBare (terms_over s) t = c.is_bare-2.ensures.0 (search rules) in
    may_be_asked v s c.is_lawful.ensures.lawful new c.settle_store.new.sorts p t bound id pattern subject here (tree_at-extends mid new id.0 extends c.in_ok-id.ensures.within.there ∙ c.in_ok-id.ensures.ok)
    (λ k d h. stands_within_extended th old new all _ (c.requires k d h))
    (c.in_ok-settle_store.ensures.ready c.in_ok-put_identities.ensures.identities (asks p bound id) here.there) c.settle_store.ensures.over
