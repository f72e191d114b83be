use Rattle.std.proofs.Common.{◌≡◌, ◌+◌, length, take, drop}
use Rattle.std.specs.Prelude.{option_map}
use Rattle.mau_declare.specs.Flattened.{declared_forms, first_conflict}
use Rattle.mau_declare.proofs.flatten.first_conflict.Given as goal

abbrev pub invariant-loop-ops : goal.invariant-loop-ops
invariant-loop-ops l = record {
  rest : first_conflict l.operators ≡ option_map (λ n. l.before + n) (first_conflict (drop l.ops-index l.operators));
  counted : l.before ≡ length (declared_forms (take l.ops-index l.operators));
}
