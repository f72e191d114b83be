-- The words of a text by their numbers, and the words that its tokens are.
use Rattle.std.specs.Prelude.{ℕ, List, [], ◌∷◌, Bool, slice_get, nat_lt}
use Rattle.std.specs.Str.{bytes_eq}
use Rattle.std.specs.List.{count_by}
use Rattle.std.specs.Option.{option_map_or}
use Rattle.mau_tokens.specs.declared.token.Token.{Token}
use Rattle.mau_modtext.specs.Word.{Word}
use Rattle.mau_modtext.specs.Words.{place}

-- the text of the word at i; nothing behind the last word
abbrev pub text_at : List Word → ℕ → List ℕ
text_at ws i = option_map_or (λ w. w.text) (slice_get ws i) []

-- where the word at i stands; 0 behind the last word
abbrev pub place_at : List Word → ℕ → ℕ
place_at ws i = option_map_or place (slice_get ws i) 0

-- the word at i is this one
abbrev pub is_word : List Word → List ℕ → ℕ → Bool
is_word ws w i = bytes_eq (text_at ws i) w

-- the number of the word that stands at a place of the text: so many begin before it
abbrev pub index_at : List Word → ℕ → ℕ
index_at ws at = count_by (λ w. nat_lt (place w) at) ws

-- the number of the word that a token is, and what the token reads
abbrev pub token_index : List Word → Token → ℕ
token_index ws t = index_at ws t.start

abbrev pub token_text : List Word → Token → List ℕ
token_text ws t = text_at ws (token_index ws t)

-- the number of the first word of some tokens
abbrev pub first_index : List Word → List Token → ℕ
first_index ws [] = 0
first_index ws (t ∷ ts) = token_index ws t

-- what the first token reads; nothing, where there is none
abbrev pub first_text : List Word → List Token → List ℕ
first_text ws [] = []
first_text ws (t ∷ ts) = token_text ws t
