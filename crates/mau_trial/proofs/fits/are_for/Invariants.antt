use Rattle.std.proofs.Common.{take}
use Rattle.mau_trial.specs.Tried.{HoldsAtEach, IsFor}
use Rattle.mau_trial.proofs.fits.are_for.Given as goal

abbrev pub invariant-loop-i : goal.invariant-loop-i
invariant-loop-i l = HoldsAtEach (IsFor l.sig.hierarchy l.sorts l.bound) (take l.i l.places) (take l.i l.values)
