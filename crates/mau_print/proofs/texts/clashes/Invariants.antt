use Rattle.std.proofs.Common.{◌≡◌, [], map, filter, fold, take, string_bytes}
use Rattle.mau_print.specs.Layouts.{is_numeral_in, with_text}
use Rattle.mau_print.proofs.texts.clashes.Given as goal

abbrev pub invariant-loop-text : goal.invariant-loop-text
invariant-loop-text l = map string_bytes l.clashes.keys ≡ fold with_text [] (filter (is_numeral_in l.grammar) (map string_bytes (take l.text-index l.texts)))
