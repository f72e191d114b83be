use Rattle.std.proofs.Common.{eqb-true, sym, ◌∙◌}
use Rattle.mau_lists.proofs.Ids.{shared_above}
use Rattle.mau_lists.proofs.sub_lists.above_next.Goals as goal

pub returns-then-eq : goal.returns-then-eq
returns-then-eq c = record {
  next = shared_above c.args.store.now c.args.items.now c.args.i c.args.above c.requires.place c.if-i-gt0.true (eqb-true _ _ (sym c.eq.ensures ∙ c.if-eq.true)) c.requires.last;
}
