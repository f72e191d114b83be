use Rattle.std.proofs.Common.{◌≡◌, All, take}
use Rattle.mau_trial.proofs.fits.agrees.Given as goal

abbrev pub invariant-loop-pair : goal.invariant-loop-pair
invariant-loop-pair l = All (λ b. b.0 ≡ l.variable → b.1 ≡ l.value) (take l.pair-index l.bound)
