use Rattle.std.proofs.Common.{◌≡◌, length}
use Rattle.mau_stratforms.specs.Meanings.{meant}
use Rattle.mau_stratforms.specs.Made.{Goes}
use Rattle.mau_stratforms.specs.Parts.{AreMade}
use Rattle.mau_stratforms.proofs.maker.StratForms.add_bodies.Given as goal

abbrev pub invariant-loop-definition : goal.invariant-loop-definition
invariant-loop-definition l = record {
  count : length l.bodies.items ≡ l.definition-index;
  made : AreMade l.self.forms (meant l.self.leaves) l.definitions l.bodies.items;
  goes : Goes l.fn.self.forms (meant l.fn.self.leaves) l.self.forms (meant l.self.leaves);
}
