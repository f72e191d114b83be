use Rattle.std.proofs.Common.{All, Contains}
use Rattle.mau_plain.specs.Words.{HasWords}
use Rattle.mau_plain.proofs.words.all_words.Given as goal

abbrev pub invariant-loop : goal.invariant-loop
invariant-loop l = record {
  all : HasWords l.items l.counter l.lists.items;
  among : All (All (Contains l.items)) l.lists.items;
}
