use Rattle.std.proofs.Common.{◌≡◌, take}
use Rattle.mau_modtext.specs.Words.{tokens}
use Rattle.mau_modtext.proofs.word.tokens_of.Given as goal

abbrev pub invariant-loop-word : goal.invariant-loop-word
invariant-loop-word l = l.tokens.items ≡ tokens (take l.word-index l.words)
