use Rattle.std.proofs.Common.{◌≡◌, false}
use Rattle.mau_terms.specs.View.{tree_of}
use Rattle.mau_listing.specs.Asked.{asks, CanGoOn}
use Rattle.mau_trial.specs.Tried.{asked_in}
use Rattle.mau_listing_tests.proofs.agreement.agrees.Given as goal

abbrev pub invariant-loop-count : goal.invariant-loop-count
invariant-loop-count g l = record {
  asked : asked_in l.listing.trial ≡ asks (tree_of l.question.pattern) l.question.bound.items l.id;
  ready : CanGoOn false l.sig l.store l.sorts (asks (tree_of l.question.pattern) l.question.bound.items l.id) l.listing.trial.last;
  last : CanGoOn false l.sig l.store l.sorts (asks (tree_of l.question.pattern) l.question.bound.items l.id) l.last;
}
