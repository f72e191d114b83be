use Rattle.std.proofs.Common.{◌≡◌, ◌+◌, false, arith}
use Rattle.std.proofs.lemmas.Grind.{common_steps}
use Rattle.mau_tokens.specs.Lexeme.{word}
use Rattle.mau_tokens.specs.Ending.{may_end}
use Rattle.mau_tokens.proofs.Least.{one_more}
use Rattle.mau_tokens.proofs.scan.word_end.Goals as goal

pub loop-end-preserved : goal.loop-end-preserved
loop-end-preserved c =
    let here : may_end c.args.bytes.now word c.args.start c.loop-end.end ≡ false = grind (arith, common_steps) in
    one_more (λ m. may_end c.args.bytes.now word c.args.start m ≡ false) (c.args.start + 1) c.loop-end.end c.loop-end.invariant here
