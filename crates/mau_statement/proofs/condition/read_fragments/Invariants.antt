use Rattle.std.proofs.Common.{◌≤◌, ◌+◌, ◌*◌, length, All, take}
use Rattle.mau_statement.specs.Conditions.{ConditionReads}
use Rattle.mau_program.specs.LawfulStatements.{IsLawfulFragment}
use Rattle.mau_statement.proofs.condition.read_fragments.Given as goal

abbrev pub invariant-loop-raw : goal.invariant-loop-raw
invariant-loop-raw l = record {
  reads : ConditionReads l.words l.context l.fn.vars (take l.raw-index l.raws) l.vars l.fragments.items;
  lawful : All (IsLawfulFragment l.context.signature) l.fragments.items;
  few : length l.vars ≤ length l.fn.vars + 2000 * l.raw-index;
}
