use Rattle.std.proofs.Common.{◌≡◌, ℕ, List, [], ◌∷◌, map, take, drop, sym, ap, ◌∙◌, refl}
use Rattle.std.proofs.lemmas.List.{drop-map, take-map}
use Rattle.mau_tokens.specs.declared.token.Token.{Token}
use Rattle.mau_tokens.specs.Laws.{text_of}
use Rattle.mau_modtext.specs.Words.{word_of, words_of}
use Rattle.mau_declare.proofs.words.Words.part.Goals as goal

-- a part of the words is the words of a part of the tokens
part_of : (bs : List ℕ) (ts : List Token) (from count : ℕ) → take count (drop from (words_of bs ts)) ≡ words_of bs (take count (drop from ts))
part_of bs ts from count = ap (take count) (drop-map (word_of bs) from ts) ∙ take-map (word_of bs) count (drop from ts)

tokens_of : (bs : List ℕ) (ts : List Token) → map (λ w. w.token) (words_of bs ts) ≡ ts
tokens_of bs [] = refl
tokens_of bs (t ∷ ts) = ap (λ us. t ∷ us) (tokens_of bs ts)

texts_of : (bs : List ℕ) (ts : List Token) → map (λ w. w.text) (words_of bs ts) ≡ map (text_of bs) ts
texts_of bs [] = refl
texts_of bs (t ∷ ts) = ap (λ us. text_of bs t ∷ us) (texts_of bs ts)

pub returns-clause-tokens : goal.returns-clause-tokens
returns-clause-tokens c =
    let bs = c.self.inside.text.now in
    let ts = c.self.inside.tokens.now in
    c.front.ensures ∙ ap (take c.args.count) c.behind.ensures
    ∙ sym (ap (λ ws. map (λ w. w.token) (take c.args.count (drop c.args.from ws))) (sym c.self.view_is) ∙ ap (map (λ w. w.token)) (part_of bs ts c.args.from c.args.count)
    ∙ tokens_of bs (take c.args.count (drop c.args.from ts)))

pub returns-clause-texts : goal.returns-clause-texts
returns-clause-texts c =
    let bs = c.self.inside.text.now in
    let ts = c.self.inside.tokens.now in
    ap (map (text_of bs)) (c.front.ensures ∙ ap (take c.args.count) c.behind.ensures)
    ∙ sym (ap (λ ws. map (λ w. w.text) (take c.args.count (drop c.args.from ws))) (sym c.self.view_is) ∙ ap (map (λ w. w.text)) (part_of bs ts c.args.from c.args.count)
    ∙ texts_of bs (take c.args.count (drop c.args.from ts)))
