use Rattle.std.proofs.Common.{take, All}
use Rattle.mau_api.specs.Answers.{IsFragment}
use Rattle.mau_evaluation_tests.proofs.conditions.assert_fragments.Given as goal

abbrev pub invariant-loop-fragment : goal.invariant-loop-fragment
invariant-loop-fragment g l = All (IsFragment l.sig) (take l.fragment-index l.cond)
