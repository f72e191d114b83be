use Rattle.std.proofs.Common.{All}
use Rattle.mau_sorts.specs.HasSort.{Known}
use Rattle.mau_listing.specs.Asked.{IsTableOf}
use Rattle.mau_listing.specs.Places.{variables_in}
use Rattle.mau_match.specs.Limited.{IsLimitOf}
use Rattle.mau_match.proofs.limits.push_limits.Given as goal

-- all limits so far follow from sorts
abbrev pub invariant-loop-place : goal.invariant-loop-place
invariant-loop-place l = (known : Known) → IsTableOf l.sig known l.store l.sorts → All (IsLimitOf l.sig known (variables_in l.places)) l.initial.out.items → All (IsLimitOf l.sig known (variables_in l.places)) l.out.items
