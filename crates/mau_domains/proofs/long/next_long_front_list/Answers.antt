use Rattle.std.proofs.Common.{sym, subst}
use Rattle.mau_signature.specs.Signature.{theory_at}
use Rattle.mau_store.specs.View.{numbers}
use Rattle.mau_canon.specs.Standing.{StandsWithin, StandWithin}
use Rattle.mau_domains.proofs.ReachIds.{all_taken}
use Rattle.mau_domains.proofs.long.next_long_front_list.Goals as goal

pub returns-in_ok-from_slice-in-Some-clause-stand : goal.returns-in_ok-from_slice-in-Some-clause-stand
returns-in_ok-from_slice-in-Some-clause-stand c =
    let th = theory_at c.args.sig.now in
    let nodes = c.args.store.now in
    subst (λ w. StandWithin th nodes (numbers w)) (sym c.in_ok-from_slice-in-Some.ensures.items) (all_taken (StandsWithin th nodes) c.in-Some.len c.args.items.now c.requires.items)
