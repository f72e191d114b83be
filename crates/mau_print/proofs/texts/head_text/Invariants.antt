use Rattle.std.proofs.Common.{true, ◌≡◌, ◌++◌, drop, string_bytes}
use Rattle.mau_print.specs.Written.{spaced}
use Rattle.mau_print.specs.Layouts.{form_words}
use Rattle.mau_print.proofs.texts.head_text.Given as goal

abbrev pub invariant-loop-piece : goal.invariant-loop-piece
invariant-loop-piece l = string_bytes l.text ++ spaced l.is_first (form_words (drop l.piece-index l.pieces)) ≡ spaced true (form_words l.form)
