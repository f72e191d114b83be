use Rattle.std.proofs.Common.{◌≤◌, ◌+◌, ℕ, drop}
use Rattle.std.specs.Prelude.{Result}
use Rattle.mau_definition.specs.Definitions.{around}
use Rattle.mau_definition.specs.declared.fault.DefinitionFault.{DefinitionFault}
use Rattle.mau_module.specs.Modules.{StatementsOf}
use Rattle.mau_module.specs.Stated.{OwnRead, only_strats}
use Rattle.mau_module.specs.Made.{AreLawfulOver}
use Rattle.mau_module.proofs.own.read_own.Given as goal

abbrev pub invariant-loop-element : goal.invariant-loop-element
invariant-loop-element l = record {
  few : l.before ≤ l.element-index;
  rest : (r : Result StatementsOf (ℕ × DefinitionFault)) → OwnRead (around l.words l.context l.labels l.names) l.own (l.before + 1) (drop l.element-index l.elements) r
      → OwnRead (around l.words l.context l.labels l.names) (only_strats l.fn.strats.items) 1 l.elements r;
  lawful : AreLawfulOver l.context.signature l.own;
}
