use Rattle.std.proofs.Common.{◌≡◌, false, take}
use Rattle.std.specs.Prelude.{All}
use Rattle.mau_program.specs.declared.statements.Fragment.{Fragment}
use Rattle.mau_prove.specs.Sorting.{is_rewriting}
use Rattle.mau_prove.proofs.memberships.has_rewriting.Given as goal

abbrev pub invariant-loop-fragment : goal.invariant-loop-fragment
invariant-loop-fragment l = All (λ (f : Fragment). is_rewriting f ≡ false) (take l.fragment-index l.cond)
