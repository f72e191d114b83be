use Rattle.std.proofs.Common.{◌≡◌, ◌++◌, drop, take, length}
use Rattle.mau_session.specs.KeptQuery.{id_trees}
use Rattle.mau_session.specs.Answers.{value_lines}
use Rattle.mau_session.specs.Matching.{numbered_from}
use Rattle.mau_session.proofs.listing.write_values.Given as goal

abbrev pub invariant-loop-i : goal.invariant-loop-i
invariant-loop-i l =
    l.out.items ++ value_lines l.module l.vars (drop l.i (numbered_from 0 (take (length l.values) l.vars))) (drop l.i (id_trees l.store l.values))
    ≡ l.initial.out.items ++ value_lines l.module l.vars (numbered_from 0 (take (length l.values) l.vars)) (id_trees l.store l.values)
