use Rattle.std.proofs.Common.{◌≡◌, ◌+◌, ◌<◌, ◌≤◌, ℕ, false}
use Rattle.mau_tokens.specs.Lexeme.{line_comment}
use Rattle.mau_tokens.specs.Ending.{may_end}
use Rattle.mau_tokens.proofs.scan.line_end.Given as goal

-- no end so far
abbrev pub invariant-loop-end : goal.invariant-loop-end
invariant-loop-end l = (m : ℕ) → l.start + 3 ≤ m → m < l.end → may_end l.bytes line_comment l.start m ≡ false
