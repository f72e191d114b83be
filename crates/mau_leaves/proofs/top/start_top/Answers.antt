use Rattle.std.proofs.Common.{◌≡◌, true, false}
use Rattle.mau_leaves.proofs.Follows.{begins_at_root}
use Rattle.mau_leaves.proofs.top.start_top.Goals as goal

pub returns-clause-begins : goal.returns-clause-begins
returns-clause-begins g c = λ p hooks nodes chosen d top. begins_at_root g.L.Lister.asked g.L.Lister.given p hooks nodes c.args.term chosen d top

pub returns-clause-top : goal.returns-clause-top
returns-clause-top g c = λ w p m nodes table term settled. record { place = record { term = term; settled = settled; uses = tt }; stands = λ d. clash d }
  where
    clash : {X : Type 0} → false ≡ true → X
    clash e = cc
