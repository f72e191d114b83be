use Rattle.std.proofs.Common.{◌≡◌, ℕ, List, [], take}
use Rattle.std.specs.HashMap.{get_by_text}
use Rattle.std.specs.Option.{option_map_or}
use Rattle.mau_grammar.specs.Index.{numbers_with}
use Rattle.mau_grammar.proofs.index.grouped.Given as goal

abbrev pub invariant-loop-key : goal.invariant-loop-key
invariant-loop-key l = (w : List ℕ) → option_map_or (λ ns. ns.items) (get_by_text l.groups w) [] ≡ numbers_with w (take l.key-index l.keys)
