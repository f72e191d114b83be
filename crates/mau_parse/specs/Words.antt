-- The words of a text: what its tokens read.
use Rattle.std.specs.Prelude.{ℕ, List, [], map, get_or}
use Rattle.mau_tokens.specs.declared.token.Token.{Token}
use Rattle.mau_tokens.specs.Laws.{text_of}

abbrev pub texts_of : List ℕ → List Token → List (List ℕ)
texts_of bs ts = map (text_of bs) ts

-- the word at i; nothing behind the last
abbrev pub text_at : List (List ℕ) → ℕ → List ℕ
text_at ws i = get_or ws i []
