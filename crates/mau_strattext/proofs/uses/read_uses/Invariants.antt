use Rattle.std.proofs.Common.{All, length}
use Rattle.mau_strattext.specs.Lawful.{IsTypedAssign}
use Rattle.mau_strattext.proofs.Steps.{UsesGo}
use Rattle.mau_strattext.proofs.uses.read_uses.Given as goal

abbrev pub invariant-loop-first : goal.invariant-loop-first
invariant-loop-first l = record {
  goes : UsesGo l.setting l.pieces l.initial.vars l.rest l.vars l.uses.items;
  typed : All (IsTypedAssign l.setting.context.signature) l.uses.items;
}

abbrev pub decreases-loop-first : goal.decreases-loop-first
decreases-loop-first l = length l.rest
