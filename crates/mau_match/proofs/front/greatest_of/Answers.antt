use Rattle.mau_signature.specs.Signature.{theory_at}
use Rattle.mau_terms.specs.declared.ids.TermId.{TermId}
use Rattle.mau_canon.proofs.Standing.{stand_at}
use Rattle.mau_match.proofs.front.greatest_of.Goals as goal

abbrev no_term : TermId
no_term = record { 0 = 0 }

pub greater-requires-clause-id : goal.greater-requires-clause-id
greater-requires-clause-id c = stand_at (theory_at c.args.sig.now) c.args.store.now c.args.items.now c.loop-id.id-index no_term c.loop-id-test.true c.requires.items
