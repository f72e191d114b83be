use Rattle.std.proofs.Common.{All, length}
use Rattle.mau_program.specs.LawfulStatements.{IsLawfulFragment}
use Rattle.mau_strattext.proofs.FragmentSteps.{FragmentsGo}
use Rattle.mau_strattext.proofs.fragments.read_fragments.Given as goal

abbrev pub invariant-loop-piece : goal.invariant-loop-piece
invariant-loop-piece l = record {
  goes : FragmentsGo l.setting l.pieces l.initial.vars l.rest l.vars l.fragments.items;
  lawful : All (IsLawfulFragment l.setting.context.signature) l.fragments.items;
}

abbrev pub decreases-loop-piece : goal.decreases-loop-piece
decreases-loop-piece l = length l.rest
