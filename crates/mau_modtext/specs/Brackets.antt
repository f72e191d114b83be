-- Brackets among words, and places outside them.
use Rattle.std.specs.Prelude.{ℕ, suc, ◌+◌, ◌-◌, ◌==◌, List, [], ◌∷◌, Bool, false, ◌&&◌, ◌||◌, Option, Some, None, option_map, if◌then◌else◌, codes}
use Rattle.mau_modtext.specs.Word.{Word}
use Rattle.mau_modtext.specs.Words.{is_word}

abbrev pub opens : Word → Bool
opens w = is_word (codes "(") w || is_word (codes "[") w || is_word (codes "{") w

abbrev pub closes : Word → Bool
closes w = is_word (codes ")") w || is_word (codes "]") w || is_word (codes "}") w

-- how many brackets are open behind a word, where this many are open before it: a closing one closes the latest open
-- one, of whatever kind, and nothing where none is open
abbrev pub depth_behind : ℕ → Word → ℕ
depth_behind d w = if opens w then d + 1 else (if closes w then d - 1 else d)

-- the first place outside brackets at which the words from there on pass the test, where d brackets are open before
abbrev pub first_from : ℕ → (List Word → Bool) → List Word → Option ℕ
first_from d test [] = None
first_from d test (w ∷ ws) = if d == 0 && test (w ∷ ws) then Some 0 else option_map suc (first_from (depth_behind d w) test ws)

-- brackets are counted from the first word
abbrev pub first_outside : (List Word → Bool) → List Word → Option ℕ
first_outside test ws = first_from 0 test ws

abbrev pub begins : List ℕ → List Word → Bool
begins text [] = false
begins text (w ∷ ws) = is_word text w

-- the place of the closing bracket of the one with which the words begin, where d brackets are open before
abbrev pub closing_from : ℕ → List Word → Option ℕ
closing_from d [] = None
closing_from d (w ∷ ws) = if depth_behind d w == 0 then Some 0 else option_map suc (closing_from (depth_behind d w) ws)

abbrev pub closing : List Word → Option ℕ
closing ws = closing_from 0 ws
