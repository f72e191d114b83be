use Rattle.std.proofs.Common.{IfSome}
use Rattle.mau_terms.specs.Bare.{IsBareIn}
use Rattle.mau_terms.specs.Reading.{reading}
use Rattle.mau_signature.specs.Signature.{terms_over, theory_at}
use Rattle.mau_store.specs.Trees.{tree_at}
use Rattle.mau_canon.specs.Standing.{StandsWithin}
use Rattle.mau_listing_tests.proofs.values.values.Given as goal

abbrev pub invariant-loop : goal.invariant-loop
invariant-loop l = record {
  subject : StandsWithin (theory_at l.sig) l.store l.subject.0;
  kind : IsBareIn (terms_over l.sig) (reading (theory_at l.sig) (tree_at l.store l.subject.0)) ((terms_over l.sig).result l.op.0);
  last : IfSome l.last (λ id. StandsWithin (theory_at l.sig) l.store id.0);
}
