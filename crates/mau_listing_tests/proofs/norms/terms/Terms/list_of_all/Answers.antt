use Rattle.mau_signature.specs.Signature.{theory_at}
use Rattle.mau_store.specs.View.{numbers}
use Rattle.mau_canon.proofs.Standing.{stand_within_extended}
use Rattle.mau_listing_tests.proofs.norms.terms.Terms.list_of_all.Goals as goal

pub invariant_of-self : goal.invariant_of-self
invariant_of-self g c = stand_within_extended (theory_at c.self.inside.sig) c.self.inside.store c.from_list.new.store (numbers c.self.inside.ids.items) c.from_list.ensures.extends c.self.invariant
