use Rattle.std.proofs.Common.{◌≡◌, ◌++◌, map, take, string_bytes}
use Rattle.mau_print.proofs.texts.push_aliases.Given as goal

abbrev pub invariant-loop-alias : goal.invariant-loop-alias
invariant-loop-alias l = map string_bytes l.texts.items ≡ map string_bytes l.initial.texts.items ++ map (λ a. a.name) (take l.alias-index l.aliases)
