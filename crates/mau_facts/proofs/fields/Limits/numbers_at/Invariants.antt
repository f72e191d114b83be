use Rattle.std.proofs.Common.{◌≡◌, ◌≤◌, ◌-◌, length, drop}
use Rattle.mau_facts.specs.LineReading.{texts, numbers_at}
use Rattle.mau_facts.proofs.NumberLists.{with_front}
use Rattle.mau_facts.proofs.fields.Limits.numbers_at.Given as goal

abbrev pub invariant-loop-i : goal.invariant-loop-i
invariant-loop-i l = record {
  in_range : l.i ≤ length l.words;
  read : with_front l.numbers.items (numbers_at l.self l.range (texts (drop l.i l.words))) ≡ numbers_at l.self l.range (texts l.words);
}

abbrev pub decreases-loop-i : goal.decreases-loop-i
decreases-loop-i l = length l.words - l.i
