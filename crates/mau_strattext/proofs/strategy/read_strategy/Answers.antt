use Rattle.std.proofs.Common.{Ok, Err, subst, ap, ◌∙◌, length, take, drop}
use Rattle.mau_statement.specs.Parts.{Pairs}
use Rattle.mau_strattext.specs.Setting.{setting_of}
use Rattle.mau_strattext.specs.Strategies.{StrategyRead}
use Rattle.mau_strattext.proofs.Steps.{handed}
use Rattle.mau_strattext.proofs.Cuts.{same_words}
use Rattle.mau_strattext.proofs.Top.{setting_with, texts_same}
use Rattle.mau_strattext.proofs.strategy.read_strategy.Goals as goal

pub read_words-requires-clause-words : goal.read_words-requires-clause-words
read_words-requires-clause-words c = texts_same c.part.result.0.now c.part.result.1.now c.new-words.result c.new-words.ensures

pub returns-in-Ok-clause-read : goal.returns-in-Ok-clause-read
returns-in-Ok-clause-read c =
    let ws = c.args.words.now in
    let ts = c.args.tokens.now in
    let x = c.args.context.now in
    let labels = c.args.labels.now in
    let names = c.args.names.now in
    let same = c.new-words.ensures
    ∙ same_words c.part.result.0.now c.part.result.1.now (take (length ts) (drop c.first_index.result ws)) c.part.ensures.tokens c.part.ensures.texts
    ∙ ap (λ n. take (length ts) (drop n ws)) c.first_index.ensures.index in
    let os = c.read_words.new.vars in
    let r = Ok c.in-Ok.strategy in
    subst (λ zs. StrategyRead (setting_with zs x labels names) c.args.vars.now os r) same
    (subst (λ ns. StrategyRead (setting_with c.new-words.result x labels names) ns os r) c.in_ok-own.ensures c.in-Ok.ensures.read)

pub returns-in-Err-clause-fault : goal.returns-in-Err-clause-fault
returns-in-Err-clause-fault c =
    let ws = c.args.words.now in
    let ts = c.args.tokens.now in
    let x = c.args.context.now in
    let labels = c.args.labels.now in
    let names = c.args.names.now in
    let ns = c.args.vars.now in
    let same = c.new-words.ensures
    ∙ same_words c.part.result.0.now c.part.result.1.now (take (length ts) (drop c.first_index.result ws)) c.part.ensures.tokens c.part.ensures.texts
    ∙ ap (λ n. take (length ts) (drop n ws)) c.first_index.ensures.index in
    handed (λ f. (os : Pairs) → StrategyRead (setting_with c.new-words.result x labels names) c.in_ok-own.own os (Err f))
    (λ f. StrategyRead (setting_of ws ts x labels names) ns ns (Err f))
    (λ f u. subst (λ zs. StrategyRead (setting_with zs x labels names) ns ns (Err f)) same
    (subst (λ ms. StrategyRead (setting_with c.new-words.result x labels names) ms ns (Err f)) c.in_ok-own.ensures (u ns))) c.in-Err.fault c.in-Err.ensures.fault
