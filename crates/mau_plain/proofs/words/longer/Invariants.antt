use Rattle.std.proofs.Common.{◌≡◌, [], ◌∷◌, take}
use Rattle.mau_plain.specs.Words.{each_longer}
use Rattle.mau_plain.proofs.words.longer.Given as goal

abbrev pub invariant-loop-list : goal.invariant-loop-list
invariant-loop-list l = l.out.items ≡ [] ∷ each_longer l.items (take l.list-index l.lists)
