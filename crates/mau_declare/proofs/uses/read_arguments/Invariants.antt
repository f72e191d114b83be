use Rattle.std.proofs.Common.{◌≡◌, ◌<◌, [], drop, length, All}
use Rattle.mau_declare.specs.Readings.{read_all}
use Rattle.mau_declare.specs.Elements.{argument_step}
use Rattle.mau_declare.proofs.uses.read_arguments.Given as goal

abbrev pub invariant-loop-arg : goal.invariant-loop-arg
invariant-loop-arg l = record {
  rest : read_all (argument_step l.words l.sorts) [] l.args ≡ read_all (argument_step l.words l.sorts) l.uses.items (drop l.arg-index l.args);
  within : All (λ u. u.sort < length l.sorts) l.uses.items;
}
