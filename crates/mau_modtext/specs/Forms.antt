-- Words of forms.
use Rattle.std.specs.Prelude.{ℕ, ◌==◌, List, [], ◌∷◌, Bool, true, false, not, ◌&&◌, ◌||◌, if◌then◌else◌, codes}
use Rattle.std.specs.List.{starts_with}
use Rattle.std.specs.Prelude.{nat_eq}
use Rattle.mau_modtext.specs.declared.forms.Within.{Within}
use Rattle.mau_modtext.specs.declared.forms.Within.TheVariants.{Start, Middle, Special}

-- one of the characters `(`, `)`, `[`, `]`, `{`, `}` and `,`
abbrev pub is_special_byte : ℕ → Bool
is_special_byte c = c == 40 || c == 41 || c == 91 || c == 93 || c == 123 || c == 125 || c == 44

abbrev pub begins_special : List ℕ → Bool
begins_special [] = false
begins_special (c ∷ cs) = is_special_byte c

-- a word ends before these bytes: nothing, an underscore, or a backquote with a special character
abbrev pub ends_word : List ℕ → Bool
ends_word [] = true
ends_word (c ∷ cs) = c == 95 || (c == 96 && begins_special cs)

-- a text would begin a comment or a string here
abbrev pub begins_other : List ℕ → Bool
begins_other cs = starts_with nat_eq cs (codes "***") || starts_with nat_eq cs (codes "---") || starts_with nat_eq cs (codes "\"")

-- where one is behind a byte, the rest being cs: an underscore is a hole, and a backquote with a special character is that
-- character as a word
abbrev pub behind_byte : Within → ℕ → List ℕ → Within
behind_byte Special c cs = Start
behind_byte _ c cs = if c == 95 then Start else (if c == 96 && begins_special cs then Special else Middle)

-- a backquote that is the last character of its word
abbrev pub is_last_backquote : ℕ → List ℕ → Bool
is_last_backquote c cs = c == 96 && not (begins_special cs) && ends_word cs

-- the byte is no fault where it stands: no word begins like a comment or a string, or ends with a backquote
abbrev pub is_fine : Within → ℕ → List ℕ → Bool
is_fine Special c cs = true
is_fine Middle c cs = not (is_last_backquote c cs)
is_fine Start c cs = not (begins_other (c ∷ cs)) && not (is_last_backquote c cs)

-- the bytes of a form's token, which stand at a word's start, in it, or behind a backquote
abbrev pub are_form_bytes : Within → List ℕ → Bool
are_form_bytes within [] = true
are_form_bytes within (c ∷ cs) = is_fine within c cs && are_form_bytes (behind_byte within c cs) cs

abbrev pub is_form_word : List ℕ → Bool
is_form_word t = are_form_bytes Start t
