use Rattle.std.proofs.Common.{◌<◌, Err, length, subst, arith, sym}
use Rattle.mau_strattext.specs.Strategies.{StrategyRead, too_many}
use Rattle.mau_strattext.specs.declared.fault.StratFault.TheVariants.{TooManyTokens}
use Rattle.mau_strattext.proofs.strategy.read_words.Goals as goal

pub returns-then-tokens-gt-MOST_WORDS-clause-fault : goal.returns-then-tokens-gt-MOST_WORDS-clause-fault
returns-then-tokens-gt-MOST_WORDS-clause-fault c = λ os.
    let many : 1000 < length c.args.setting.now.words = omega (arith, c.requires.count, c.if-tokens-gt-MOST_WORDS.true) in
    subst (λ n. StrategyRead c.args.setting.now c.args.vars.now os (Err (TooManyTokens n))) (sym c.requires.count) (too_many many)
