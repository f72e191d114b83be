use Rattle.std.proofs.Common.{◌≡◌, ℕ, take, take_all, sym, ap, ◌∙◌, arith}
use Rattle.mau_statement.specs.Parts.{part_words}
use Rattle.mau_definition.specs.Calls.{call_size}
use Rattle.mau_definition.proofs.CallWords.{part_same}
use Rattle.mau_definition.proofs.call.call_tokens.Goals as goal

pub returns-then-size-tokens-clause-tokens : goal.returns-then-size-tokens-clause-tokens
returns-then-size-tokens-clause-tokens c =
    ap (λ n. take n c.args.tokens.now) (c.call_size-size.ensures
    ∙ ap call_size (part_same c.args.words.now c.args.tokens.now c.part.result.1.now c.part.result.0.now c.first_index.result c.first_index.ensures.index c.part.ensures.tokens c.part.ensures.texts))

pub returns-then-size-tokens-clause-size : goal.returns-then-size-tokens-clause-size
returns-then-size-tokens-clause-size c =
    c.call_size-size.ensures
    ∙ ap call_size (part_same c.args.words.now c.args.tokens.now c.part.result.1.now c.part.result.0.now c.first_index.result c.first_index.ensures.index c.part.ensures.tokens c.part.ensures.texts)

pub returns-else-size-tokens-clause-tokens : goal.returns-else-size-tokens-clause-tokens
returns-else-size-tokens-clause-tokens c =
    sym (take_all c.call_size-size.result c.args.tokens.now (omega (arith, c.if-size-tokens.false))) ∙ ap (λ n. take n c.args.tokens.now) (c.call_size-size.ensures
    ∙ ap call_size (part_same c.args.words.now c.args.tokens.now c.part.result.1.now c.part.result.0.now c.first_index.result c.first_index.ensures.index c.part.ensures.tokens c.part.ensures.texts))

pub returns-else-size-tokens-clause-size : goal.returns-else-size-tokens-clause-size
returns-else-size-tokens-clause-size c =
    c.call_size-size.ensures
    ∙ ap call_size (part_same c.args.words.now c.args.tokens.now c.part.result.1.now c.part.result.0.now c.first_index.result c.first_index.ensures.index c.part.ensures.tokens c.part.ensures.texts)
