use Rattle.std.proofs.Common.{◌≡◌, drop}
use Rattle.mau_declare.specs.Statements.{unknown_in_sorts}
use Rattle.mau_declare.proofs.statements.unknown_in_sorts.Given as goal

abbrev pub invariant-loop-tokens : goal.invariant-loop-tokens
invariant-loop-tokens l = unknown_in_sorts l.words l.sorts l.named ≡ unknown_in_sorts l.words l.sorts (drop l.tokens-index l.named)
