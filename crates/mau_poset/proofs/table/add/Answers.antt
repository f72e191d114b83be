use Rattle.std.proofs.Common.{◌%◌, ◌<◌, ◌∙◌, arith}
use Rattle.std.proofs.lemmas.Nat.{one_shl}
use Rattle.std.proofs.lemmas.Bool.{OnFalse_from}
use Rattle.mau_poset.proofs.Closures.{Adds, HasOnlyChains-adds, IsClosedAt-adds}
use Rattle.mau_poset.proofs.table.add.Goals as goal
use Rattle.mau_poset.proofs.table.add.Goals.{After-raise-set}

adds : (c : After-raise-set) → Adds c.args.n c.args.a c.args.b c.args.table.now c.take_up-taken.new.table c.raise-set.new.table
adds c = record {
  a_in = c.requires.a_in;
  b_in = c.requires.b_in;
  room = c.take_up-taken.auto.table ∙ c.requires.room;
  taken = rw c.width_of-width.ensures at c.take_up-taken.ensures.taken;
  bit = let low : c.args.b % 64 < 64 = omega arith in rw (c.width_of-width.ensures, one_shl (c.args.b % 64) 64 low) at c.raise-set.ensures.word;
}

pub returns-then-set-clause-sound : goal.returns-then-set-clause-sound
returns-then-set-clause-sound c = λ pairs. HasOnlyChains-adds pairs _ _ _ _ _ _ (adds (goal.at.returns-then-set-clause-sound c).After-raise-set)

pub returns-else-set-clause-sound : goal.returns-else-set-clause-sound
returns-else-set-clause-sound c = λ pairs. HasOnlyChains-adds pairs _ _ _ _ _ _ (adds (goal.at.returns-else-set-clause-sound c).After-raise-set)

pub returns-else-set-clause-closed : goal.returns-else-set-clause-closed
returns-else-set-clause-closed c =
    OnFalse_from _ _ (λ no. IsClosedAt-adds _ _ _ _ _ _ (adds (goal.at.returns-else-set-clause-closed c).After-raise-set) (rw no at c.take_up-taken.ensures.grew) (rw c.if-set.false at c.raise-set.ensures.grew))
