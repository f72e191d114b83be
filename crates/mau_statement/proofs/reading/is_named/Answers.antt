use Rattle.std.proofs.Common.{◌≡◌, ◌≤◌, ◌<◌, ℕ, List, [], ◌∷◌, length, get_or, refl, sym, ◌∙◌, ap, arith}
use Rattle.mau_tokens.specs.declared.token.Token.{Token}
use Rattle.mau_modtext.specs.Word.{Word}
use Rattle.mau_declare.specs.Words.{is_word, token_index}
use Rattle.mau_statement.specs.Statements.{is_named}
use Rattle.mau_statement.proofs.reading.is_named.Goals as goal

one : (ws : List Word) (w : List ℕ) (ts : List Token) (d : Token) → 1 ≤ length ts → length ts < 2 → is_named ws w ts ≡ is_word ws w (token_index ws (get_or ts 0 d))
one ws w [] d l m = absurd (omega arith)
one ws w (u ∷ []) d l m = refl
one ws w (u ∷ v ∷ ts) d l m = absurd (omega arith)

pub returns-in-len1 : goal.returns-in-len1
returns-in-len1 c =
    let ws = c.args.words.now in
    let w = c.args.word.now in
    c.is.ensures ∙ ap (is_word ws w) c.token_index.ensures.index ∙ sym (one ws w c.args.tokens.now _ c.in-len1.len_at_least c.in-len1.len_below)
