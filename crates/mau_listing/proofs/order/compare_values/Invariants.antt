use Rattle.std.proofs.Common.{◌≡◌, drop}
use Rattle.std.specs.Cmp.Lexicographic.{slice_cmp}
use Rattle.mau_terms.specs.Solution.{list_cmp}
use Rattle.mau_signature.specs.Signature.{theory_at}
use Rattle.mau_listing.proofs.Compared.{keys_at}
use Rattle.mau_listing.proofs.order.compare_values.Given as goal

abbrev pub invariant-loop-i : goal.invariant-loop-i
invariant-loop-i l =
    slice_cmp list_cmp (keys_at (theory_at l.sig) l.store l.places l.first) (keys_at (theory_at l.sig) l.store l.places l.second)
    ≡ slice_cmp list_cmp (keys_at (theory_at l.sig) l.store (drop l.i l.places) (drop l.i l.first)) (keys_at (theory_at l.sig) l.store (drop l.i l.places) (drop l.i l.second))
