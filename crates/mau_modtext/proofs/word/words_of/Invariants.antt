use Rattle.std.proofs.Common.{◌≡◌, map, take}
use Rattle.mau_modtext.specs.Words.{word_of}
use Rattle.mau_modtext.proofs.word.words_of.Given as goal

abbrev pub invariant-loop-token : goal.invariant-loop-token
invariant-loop-token l = l.words.items ≡ map (word_of l.text) (take l.token-index l.tokens)
