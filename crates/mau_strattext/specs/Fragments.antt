-- The fragments of a condition in a strategy: a sort fragment stands in parentheses, and there are no rewriting fragments.
use Rattle.std.specs.Prelude.{ℕ, ◌+◌, ◌-◌, ◌==◌, List, length, take, drop, Bool, true, false, ◌&&◌, Option, Some, None, codes, nat_lt, if◌then◌else◌}
use Rattle.mau_modtext.specs.Word.{Word}
use Rattle.mau_modtext.specs.Faults.{OrFault}
use Rattle.mau_modtext.specs.Brackets.{begins, closing}
use Rattle.mau_modtext.specs.Sides.{fragment_sign, fragment}
use Rattle.mau_modtext.specs.declared.raw.FragmentKind.{FragmentKind}
use Rattle.mau_modtext.specs.declared.raw.FragmentKind.TheVariants.{Sort}
use Rattle.mau_modtext.specs.declared.raw.RawFragment.{RawFragment}
use Rattle.mau_shapes.specs.declared.pieces.Part.{Part}
use Rattle.mau_strattext.specs.Setting.{SettingOf, words_of, start_at}

-- ---- one pair of parentheses

-- the bracket that is closed at e is the last word, a `)`
abbrev pub ends_pair : List Word → Option ℕ → Bool
ends_pair ws None = false
ends_pair ws (Some e) = e + 1 == length ws && begins (codes ")") (drop e ws)

abbrev pub is_pair : List Word → Bool
is_pair ws = begins (codes "(") ws && ends_pair ws (closing ws)

-- the words in it
abbrev pub inside : List Word → List Word
inside ws = take (length ws - 2) (drop 1 ws)

-- the sign of a fragment is `:`
abbrev pub is_sort : Option (FragmentKind × ℕ) → Bool
is_sort (Some (Sort, i)) = true
is_sort _ = false

-- a pair of parentheses in which the sign is `:`
abbrev pub is_sort_pair : List Word → Bool
is_sort_pair ws = is_pair ws && is_sort (fragment_sign (inside ws))

-- ---- how a fragment is cut

-- the word behind a part, which is at fault where a side of it has no words: the last one, where the strategy ends with the part
abbrev pub behind : SettingOf → Part → ℕ
behind s p = if nat_lt p.end (length s.words) then start_at s p.end else start_at s (p.end - 1)

-- the sides of a fragment of these words, or the word at fault: `last` is the place of the last one, and `behind` that of the word behind them
abbrev pub cut_words : ℕ → ℕ → List Word → OrFault RawFragment
cut_words last behind ws = if is_sort_pair ws then fragment false last (inside ws) else fragment false behind ws

abbrev pub cut : SettingOf → Part → OrFault RawFragment
cut s p = cut_words (start_at s (p.end - 1)) (behind s p) (words_of s p)
