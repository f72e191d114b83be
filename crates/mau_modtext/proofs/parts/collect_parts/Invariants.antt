use Rattle.std.proofs.Common.{length, ◌-◌, ◌≡◌, ◌≤◌, drop}
use Rattle.mau_modtext.specs.Parts.{parts, parts_from}
use Rattle.mau_modtext.proofs.PartLemmas.{behind_parts}
use Rattle.mau_modtext.proofs.parts.collect_parts.Given as goal

abbrev pub invariant-loop-from : goal.invariant-loop-from
invariant-loop-from g l = record {
  within : l.from ≤ length l.words;
  rest : parts (g.R.PartReader.part l.reader) l.words ≡ behind_parts l.parts.items (parts_from (g.R.PartReader.part l.reader) 0 (drop l.from l.words));
}

abbrev pub decreases-loop-from : goal.decreases-loop-from
decreases-loop-from g l = length l.words - l.from
