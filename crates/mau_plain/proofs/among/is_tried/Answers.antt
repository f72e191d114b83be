use Rattle.std.proofs.Common.{◌≡◌, length, rules}
use Rattle.mau_trial.specs.Tried.{IsFor}
use Rattle.mau_trial.proofs.AtEach.{each_long}
use Rattle.mau_plain.proofs.among.is_tried.Goals as goal

pub returns-then-values-places-clause-tried : goal.returns-then-values-places-clause-tried
returns-then-values-places-clause-tried c = (
  λ h. absurd (search rules),
  λ is.
      let e : length c.args.values.now ≡ length c.args.places.now = each_long (IsFor c.args.sig.now.hierarchy c.args.sorts.now c.args.trial.now.bound.items) c.args.places.now c.args.values.now is.tried.each in
      absurd (search rules),
)
