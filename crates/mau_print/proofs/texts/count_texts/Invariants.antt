use Rattle.std.proofs.Common.{◌≡◌, ℕ, List, unwrap_or, take, string_bytes}
use Rattle.std.specs.Prelude.{count_by, bytes_eq}
use Rattle.std.specs.HashMap.{get_by_text}
use Rattle.mau_print.proofs.texts.count_texts.Given as goal

abbrev pub invariant-loop-text : goal.invariant-loop-text
invariant-loop-text l = (q : List ℕ) → unwrap_or (get_by_text l.counts q) 0 ≡ count_by (λ w. bytes_eq q (string_bytes w)) (take l.text-index l.texts)
