use Rattle.std.proofs.Common.{◌++◌, sym, ap, ◌∙◌, append-nil, arith}
use Rattle.std.specs.List.{zip}
use Rattle.mau_holding.proofs.Pairs.{zip_read, zip_end}
use Rattle.mau_holding.proofs.holding.pairs.Goals as goal

pub loop-index-preserved : goal.loop-index-preserved
loop-index-preserved c =
    zip_read c.loop-index.found.items (zip c.args.variables.now c.args.values.now) c.args.variables.now c.args.values.now c.loop-index.index (record { index = 0; sort = 0 }) (record { 0 = 0 }) c.push.new.self.items
    (omega (arith, c.min-count.ensures, c.loop-index-test.true)) c.in_ok-push.ensures.items c.loop-index.invariant

pub returns : goal.returns
returns c =
    sym (append-nil c.loop-index.found.items)
    ∙ (ap (λ zs. c.loop-index.found.items ++ zs) (sym (zip_end c.args.variables.now c.args.values.now c.loop-index.index (omega (arith, c.min-count.ensures, c.loop-index-test.false))))
    ∙ c.loop-index.invariant)
