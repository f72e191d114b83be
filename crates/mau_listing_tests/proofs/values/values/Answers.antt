use Rattle.std.proofs.Common.{IfSome, sym, subst}
use Rattle.mau_terms.specs.Bare.{IsBareIn}
use Rattle.mau_terms.specs.Reading.{reading}
use Rattle.mau_signature.specs.Signature.{terms_over, theory_at}
use Rattle.mau_store.proofs.Standing.{tree_at-extends}
use Rattle.mau_canon.specs.Standing.{StandsWithin}
use Rattle.mau_canon.proofs.Standing.{stands_within_extended}
use Rattle.mau_listing_tests.proofs.values.values.Goals as goal

pub loop-preserved : goal.loop-preserved
loop-preserved c =
    let s = c.args.sig.now in
    let old = c.loop.store in
    let new = c.next_taken.new.store in
    let same = tree_at-extends old new c.args.subject.0 c.next_taken.ensures.extends c.loop.invariant.subject.there in
    record {
      subject = stands_within_extended (theory_at s) old new c.next_taken.ensures.extends c.args.subject.0 c.loop.invariant.subject;
      kind = subst (λ t. IsBareIn (terms_over s) (reading (theory_at s) t) ((terms_over s).result c.args.op.0)) (sym same) c.loop.invariant.kind;
      last = subst (λ o. IfSome o (λ id. StandsWithin (theory_at s) new id.0)) c.in-Some.is c.in_ok-value.ensures.within;
    }
