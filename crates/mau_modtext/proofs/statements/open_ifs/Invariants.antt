use Rattle.std.proofs.Common.{◌≡◌, ◌≤◌, ◌<◌, [], drop, All}
use Rattle.mau_modtext.specs.Statements.{open_ifs as opened}
use Rattle.mau_modtext.proofs.statements.open_ifs.Given as goal

abbrev pub invariant-loop-i : goal.invariant-loop-i
invariant-loop-i l = record {
  rest : opened 0 0 [] l.words ≡ opened l.depth l.i l.open.items (drop l.i l.words);
  small : l.depth ≤ l.i;
  below : All (λ k. k < l.i) l.open.items;
}
