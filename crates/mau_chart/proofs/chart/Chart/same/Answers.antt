use Rattle.std.proofs.Common.{Bool, false, true, ◌≡◌, refl, sym, ◌∙◌, ap, length, arith}
use Rattle.mau_chart.proofs.Lists.{length-trees_at, more_alike_to, alike_at, below_at}
use Rattle.mau_chart.proofs.chart.Chart.same.Goals as goal

pub returns-then-ts-us : goal.returns-then-ts-us
returns-then-ts-us c = (λ h. cc, λ e. absurd (c.if-ts-us.true (sym (length-trees_at c.args.self.now.store c.args.ts.now) ∙ ap length e ∙ length-trees_at c.args.self.now.store c.args.us.now)))

pub same-requires-clause-first : goal.same-requires-clause-first
same-requires-clause-first c = below_at (length c.args.self.now.store) c.args.ts.now c.loop-i.i _ c.requires.first (omega arith)

pub same-requires-clause-second : goal.same-requires-clause-second
same-requires-clause-second c = below_at (length c.args.self.now.store) c.args.us.now c.loop-i.i _ c.requires.second (omega arith)

pub returns-then-not-same : goal.returns-then-not-same
returns-then-not-same c = (λ h. cc, λ e. never c.if-not-same.true (c.same.ensures.1 (alike_at c.args.self.now.store c.args.ts.now c.args.us.now c.loop-i.i _ (omega arith) (omega arith) e)))
  where
    never : {b : Bool} → b ≡ false → b ≡ true → false ≡ true
    never p q = cc

pub loop-i-preserved : goal.loop-i-preserved
loop-i-preserved c =
    more_alike_to c.args.self.now.store c.args.ts.now c.args.us.now c.loop-i.i _ _ refl (omega arith) (omega arith) c.loop-i.invariant (c.same.ensures.0 c.if-not-same.false)
