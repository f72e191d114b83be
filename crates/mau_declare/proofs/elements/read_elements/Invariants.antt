use Rattle.std.proofs.Common.{◌≡◌, take, drop, length}
use Rattle.mau_declare.specs.Readings.{read_all}
use Rattle.mau_declare.specs.Counts.{declaration_count}
use Rattle.mau_declare.specs.Flattened.{declared_forms}
use Rattle.mau_declare.specs.Elements.{AreOver, element_step, elements_of}
use Rattle.mau_declare.proofs.elements.read_elements.Given as goal

abbrev pub invariant-loop-element : goal.invariant-loop-element
invariant-loop-element l = record {
  rest : elements_of l.words l.sorts l.raw ≡ read_all (element_step l.words l.sorts) l.elements (drop l.element-index l.raw);
  over : AreOver (length l.sorts) l.elements;
  counted : length (declared_forms l.elements.operators) ≡ declaration_count (take l.element-index l.raw);
}
