use Rattle.std.proofs.Common.{length, reverse}
use Rattle.mau_strattext.specs.Lawful.{AreTyped}
use Rattle.mau_strattext.proofs.BuildSteps.{BuildGo}
use Rattle.mau_strattext.proofs.build.build.Given as goal

abbrev pub invariant-loop-first : goal.invariant-loop-first
invariant-loop-first l = record {
  goes : BuildGo l.setting l.pieces l.initial.vars l.under_top l.rest (reverse l.stack.items) l.vars;
  typed : AreTyped l.setting.context.signature (reverse l.stack.items);
}

abbrev pub decreases-loop-first : goal.decreases-loop-first
decreases-loop-first l = length l.rest
