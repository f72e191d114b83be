-- Readings of words as variables, as the code has them.
use Rattle.std.specs.Prelude.{ℕ, ◌+◌, ◌-◌, List, length, map, nat_lt, Bool, ◌&&◌, codes, bytes_eq}
use Rattle.mau_grammar.specs.Leaves.{VariableReading as Seen, reading, is_cut}
use Rattle.mau_parse.specs.Words.{text_at}
use Rattle.mau_parse.specs.declared.readings.VariableReading.{VariableReading}

abbrev pub seen : VariableReading → Seen
seen r = reading r.name.now r.sort r.kind r.end

abbrev pub all_seen : List VariableReading → List Seen
all_seen rs = map seen rs

-- `X:` and `[` stand at the place i
abbrev pub begins_kind : List (List ℕ) → ℕ → Bool
begins_kind ws i = nat_lt (i + 1) (length ws) && (is_cut (text_at ws i) (length (text_at ws i) - 1) && bytes_eq (text_at ws (i + 1)) (codes "["))
