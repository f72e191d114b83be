use Rattle.std.proofs.Common.{◌≡◌, ◌+◌, ◌≤◌, ℕ, false}
use Rattle.mau_tokens.specs.Lexeme.{string}
use Rattle.mau_tokens.specs.Ending.{may_end}
use Rattle.mau_tokens.proofs.scan.string_end.Given as goal

-- no end so far
abbrev pub invariant-loop-last : goal.invariant-loop-last
invariant-loop-last l = (m : ℕ) → l.start + 2 ≤ m → m ≤ l.last → may_end l.bytes string l.start m ≡ false
