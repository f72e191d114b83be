use Rattle.std.proofs.Common.{◌≡◌, ◌++◌, map, drop, string_bytes}
use Rattle.mau_print.specs.Layouts.{all_constant_texts}
use Rattle.mau_print.proofs.texts.push_constants.Given as goal

abbrev pub invariant-loop-i : goal.invariant-loop-i
invariant-loop-i l = map string_bytes l.texts.items ++ all_constant_texts (drop l.i l.sig.declarations) ≡ map string_bytes l.initial.texts.items ++ all_constant_texts l.sig.declarations
