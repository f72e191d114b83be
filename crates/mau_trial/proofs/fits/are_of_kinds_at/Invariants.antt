use Rattle.std.proofs.Common.{take}
use Rattle.mau_trial.specs.Tried.{HoldsAtEach, IsOfKindAt}
use Rattle.mau_trial.proofs.fits.are_of_kinds_at.Given as goal

abbrev pub invariant-loop-i : goal.invariant-loop-i
invariant-loop-i l = HoldsAtEach (IsOfKindAt l.sig l.store) (take l.i l.places) (take l.i l.values)
