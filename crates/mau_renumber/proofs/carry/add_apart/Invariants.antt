use Rattle.std.proofs.Common.{◌≡◌, ℕ, ◌<◌, length, true, string_bytes}
use Rattle.mau_renumber.specs.Carried.{primed, is_taken}
use Rattle.mau_renumber.proofs.carry.add_apart.Given as goal

abbrev pub invariant-loop-count : goal.invariant-loop-count
invariant-loop-count l = record {
  same : l.vars ≡ l.fn.vars;
  text : string_bytes l.text ≡ primed l.name l._count;
  taken : (j : ℕ) → j < l._count → is_taken l.vars (primed l.name j, l.sort) ≡ true;
  count : l.before ≡ length l.vars;
}
