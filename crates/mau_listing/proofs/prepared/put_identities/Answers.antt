use Rattle.std.proofs.Common.{◌≡◌, ◌≤◌, Some, length, add-one, sym, subst, arith}
use Rattle.mau_signature.specs.Signature.{theory_at}
use Rattle.mau_store.proofs.Growth.{extension_is_preorder}
use Rattle.mau_listing.proofs.Stored.{identities_more, all_identities}
use Rattle.mau_listing.proofs.prepared.put_identities.Goals as goal

pub loop-number-preserved : goal.loop-number-preserved
loop-number-preserved c =
    let s = c.args.sig.now in
    let k = c.loop-number.number in
    let old = c.loop-number.store in
    let new = c.put_identity.new.store in
    let inv = c.loop-number.invariant in
    record {
      identities = λ f i low high e.
          identities_more s old new k c.put_identity.ensures.extends inv.identities (λ j known. c.in_ok-put_identity.ensures.there j (subst (λ n. (theory_at s n).id ≡ Some j) (sym (add-one k)) known)) f i low (omega (arith, high)) e;
      extends = extension_is_preorder.transitive c.args.store.now old new inv.extends c.put_identity.ensures.extends;
      terms = λ each. c.put_identity.ensures.terms (inv.terms each);
    }

pub returns-clause-identities : goal.returns-clause-identities
returns-clause-identities c =
    let s = c.args.sig.now in
    let most : length s.declarations ≤ c.loop-number.number = omega (arith, c.operators-number-end.ensures.value) in
    all_identities s c.loop-number.store c.loop-number.number most c.loop-number.invariant.identities
