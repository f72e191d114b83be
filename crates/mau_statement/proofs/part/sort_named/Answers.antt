use Rattle.std.proofs.Common.{◌≡◌, ◌≤◌, ◌<◌, ℕ, List, [], ◌∷◌, length, get_or, refl, sym, ◌∙◌, ap, arith}
use Rattle.mau_tokens.specs.declared.token.Token.{Token}
use Rattle.mau_modtext.specs.Word.{Word}
use Rattle.mau_declare.specs.Words.{token_text}
use Rattle.mau_declare.specs.Names.{number_of}
use Rattle.mau_statement.specs.Parts.{sort_named}
use Rattle.mau_statement.proofs.part.sort_named.Goals as goal

one : (ws : List Word) (names : List (List ℕ)) (ts : List Token) (d : Token) → 1 ≤ length ts → length ts < 2 → sort_named ws names ts ≡ number_of names (token_text ws (get_or ts 0 d))
one ws names [] d l m = absurd (omega arith)
one ws names (u ∷ []) d l m = refl
one ws names (u ∷ v ∷ ts) d l m = absurd (omega arith)

pub returns-in-len1-clause-value : goal.returns-in-len1-clause-value
returns-in-len1-clause-value c =
    c.number_of.ensures.value
    ∙ ap (number_of c.args.context.now.sorts) c.token_text.ensures
    ∙ sym (one c.args.words.now c.args.context.now.sorts c.args.tokens.now _ c.in-len1.len_at_least c.in-len1.len_below)
