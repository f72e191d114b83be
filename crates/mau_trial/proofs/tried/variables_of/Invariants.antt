use Rattle.std.proofs.Common.{◌≡◌, take}
use Rattle.mau_listing.specs.Places.{variables_in}
use Rattle.mau_trial.proofs.tried.variables_of.Given as goal

abbrev pub invariant-loop-place : goal.invariant-loop-place
invariant-loop-place l = l.variables.items ≡ variables_in (take l.place-index l.places)
