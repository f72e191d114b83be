use Rattle.std.proofs.Common.{◌≡◌, length, rules}
use Rattle.mau_terms.specs.View.{tree_of}
use Rattle.mau_trial.specs.Tried.{IsFor}
use Rattle.mau_trial.proofs.AtEach.{each_long}
use Rattle.mau_trial.proofs.Instances.{places_are_sorted}
use Rattle.mau_trial.proofs.tried.solves.Goals as goal

pub returns-then-values-places-clause-solves : goal.returns-then-values-places-clause-solves
returns-then-values-places-clause-solves c = (
  λ h. absurd (search rules),
  λ is.
      let e : length c.args.values.now ≡ length c.args.places.now = each_long (IsFor c.args.sig.now.hierarchy c.args.sorts.now c.args.trial.now.bound.items) c.args.places.now c.args.values.now is.each in
      absurd (search rules),
)

pub are_for-requires-clause-sorts : goal.are_for-requires-clause-sorts
are_for-requires-clause-sorts c = places_are_sorted c.args.sig.now (tree_of c.args.trial.now.pattern) c.requires.ready.bare c.args.places.now c.requires.ready.places.variables
