use Rattle.std.proofs.Common.{◌≡◌, ◌<◌, length, map, take, drop, sym, ap, subst, ◌∙◌, arith}
use Rattle.std.proofs.lemmas.List.{length-map}
use Rattle.mau_declare.specs.Words.{place_at}
use Rattle.mau_statement.specs.Parts.{part_words}
use Rattle.mau_strattext.proofs.Cuts.{same_words}
use Rattle.mau_definition.proofs.call.word_behind.Goals as goal

pub returns-then-size-part-clause-some : goal.returns-then-size-part-clause-some
returns-then-size-part-clause-some c =
    let ws = c.args.words.now in
    let ts = c.args.tokens.now in
    let all = take (length ts) (drop c.first_index.result ws) in
    let same : all ≡ part_words ws ts = ap (λ n. take (length ts) (drop n ws)) c.first_index.ensures.index in
    let long : length c.part.result.1.now ≡ length all = ap length c.part.ensures.tokens ∙ length-map all (λ w. w.token) in (
      omega (arith, c.if-size-part.true, long, ap length same),
      c.place.ensures ∙ (ap (λ zs. place_at zs c.args.size) (c.new.ensures ∙ same_words c.part.result.0.now c.part.result.1.now all c.part.ensures.tokens c.part.ensures.texts)
          ∙ ap (λ zs. place_at zs c.args.size) same),
    )
