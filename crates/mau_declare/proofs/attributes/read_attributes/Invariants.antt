use Rattle.std.proofs.Common.{◌≡◌, ◌||◌, map, drop, None}
use Rattle.std.specs.Prelude.{fold}
use Rattle.mau_signature.specs.Attributes.{unite}
use Rattle.mau_declare.specs.Attributes.{given, attributes, has_conflict}
use Rattle.mau_declare.proofs.Conflicts.{conflict_with}
use Rattle.mau_declare.proofs.attributes.read_attributes.Given as goal

abbrev pub invariant-loop-raw : goal.invariant-loop-raw
invariant-loop-raw l = record {
  attributes : attributes l.words l.arguments l.list ≡ fold unite l.attrs (map (given l.words l.arguments) (drop l.raw-index l.list));
  conflict : has_conflict l.words l.arguments l.list ≡ (l.conflict || conflict_with l.attrs (map (given l.words l.arguments) (drop l.raw-index l.list)));
  builtin : l.attrs.builtin ≡ None;
}
