use Rattle.std.proofs.Common.{◌≡◌, ℕ, suc, length, get_or}
use Rattle.mau_rules.proofs.run.first_turns.Given as goal

abbrev pub invariant-loop : goal.invariant-loop
invariant-loop l = (length l.turns.items ≡ suc l.counter) × ((f : ℕ) → get_or l.turns.items f 0 ≡ 0)
