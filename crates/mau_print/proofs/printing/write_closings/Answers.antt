use Rattle.std.proofs.Common.{◌++◌, ◌+◌, ◌-◌, ap, ◌∙◌, sym, append_assoc, string_bytes}
use Rattle.mau_print.specs.LeftToRight.{closing, times}
use Rattle.mau_print.proofs.Chains.{times-less}
use Rattle.mau_print.proofs.printing.write_closings.Goals as goal

pub loop-written-preserved : goal.loop-written-preserved
loop-written-preserved c =
    let out = string_bytes c.loop-written.out in
    let k = closing c.args.in_parentheses c.args.after.now in
    let n = c.args.count in
    let i = c.loop-written._written in
    ap (λ w. w ++ times (n - (i + 1)) k) c.in_ok-write_closing.ensures
    ∙ append_assoc out k (times (n - (i + 1)) k)
    ∙ ap (λ w. out ++ w) (sym (times-less n i k c.loop-written-test.true))
    ∙ c.loop-written.invariant
