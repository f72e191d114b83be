use Rattle.std.proofs.Common.{All, length}
use Rattle.mau_terms.specs.Bare.{IsBare}
use Rattle.mau_terms.specs.View.{tree_of}
use Rattle.mau_signature.specs.Faults.{IsSort}
use Rattle.mau_signature.specs.Signature.{terms_over}
use Rattle.mau_strattext.proofs.ArgumentSteps.{ArgumentsGo}
use Rattle.mau_strattext.proofs.arguments.read_arguments.Given as goal

abbrev pub invariant-loop-sort : goal.invariant-loop-sort
invariant-loop-sort l = record {
  goes : ArgumentsGo l.setting l.sorts l.pieces l.initial.vars l.left l.rest l.vars l.args.items;
  sorts : All (IsSort l.setting.context.signature.hierarchy) l.left;
  bare : All (λ b. IsBare (terms_over l.setting.context.signature) (tree_of b)) l.args.items;
}

abbrev pub decreases-loop-sort : goal.decreases-loop-sort
decreases-loop-sort l = length l.left
