use Rattle.std.proofs.Common.{[], Err, subst, ◌∙◌}
use Rattle.mau_statement.specs.Parts.{Pairs}
use Rattle.mau_strattext.specs.Setting.{setting_of}
use Rattle.mau_strattext.specs.Strategies.{StrategyRead}
use Rattle.mau_definition.proofs.Told.{err_then, err_anywhere}
use Rattle.mau_definition.proofs.call.read_front.Goals as goal

pub returns-clause-fault : goal.returns-clause-fault
returns-clause-fault c =
    let ws = c.args.words.now in
    let ts = c.args.tokens.now in
    let x = c.args.context.now in
    let names = c.args.names.now in
    let ns = c.args.vars.now in
    err_then (λ f. StrategyRead (setting_of ws ts x c.deref.result.now names) ns ns (Err f)) (λ f. (os : Pairs) → StrategyRead (setting_of ws ts x [] names) ns os (Err f))
    (λ f u os. subst (λ ls. StrategyRead (setting_of ws ts x ls names) ns os (Err f)) (c.deref.ensures.value ∙ c.new-labels.ensures.items)
    (err_anywhere (setting_of ws ts x c.deref.result.now names) ns ns os f u)) c.read_strategy.result c.read_strategy.ensures.fault
