use Rattle.std.proofs.Common.{◌≡◌, ◌<◌, ◌≤◌, ⊎_elim, subst, arith}
use Rattle.std.proofs.lemmas.Bool.{cases_lt}
use Rattle.mau_sorts.specs.Table.{IsSettled}
use Rattle.mau_sorts.proofs.Settling.{kept_on}
use Rattle.mau_listing.proofs.Growth.{settled_kept}
use Rattle.mau_listing.proofs.Stored.{ready_at, settled_for}
use Rattle.mau_listing.proofs.prepared.settle_store.Goals as goal

pub settle_ready-requires-clause-ready : goal.settle_ready-requires-clause-ready
settle_ready-requires-clause-ready c =
    ready_at c.args.sig.now c.args.store.now c.len-i-end.ensures.nodes c.loop-i.sorts c.loop-i.i (omega (arith, c.len-i-end.ensures.counted)) (c.requires.terms c.loop-i.i (omega (arith, c.len-i-end.ensures.counted))) c.loop-i.invariant.settled

pub returns-in_err-settle_ready-clause-table : goal.returns-in_err-settle_ready-clause-table
returns-in_err-settle_ready-clause-table c = λ known t. c.settle_ready.ensures.table known (c.loop-i.invariant.table known t)

pub loop-i-preserved : goal.loop-i-preserved
loop-i-preserved c =
    let i = c.loop-i.i in
    let old = c.loop-i.sorts in
    let new = c.settle_ready.new.sorts in
    let inv = c.loop-i.invariant in
    record {
      settled = λ j h.
          ⊎_elim
          (λ (low : j < i). settled_kept old new c.settle_ready.ensures.kept j (inv.settled j low))
          (λ (high : i ≤ j). let same : i ≡ j = omega (arith, h, high) in subst (IsSettled new) same c.in_ok-settle_ready.ensures.settled)
          (cases_lt j i);
      kept = kept_on c.args.sorts.now old new inv.kept c.settle_ready.ensures.kept;
      over = c.settle_ready.ensures.over;
      table = λ known t. c.settle_ready.ensures.table known (inv.table known t);
      closed = λ is. c.settle_ready.ensures.closed (inv.closed is);
    }

pub returns-clause-ready : goal.returns-clause-ready
returns-clause-ready c = λ identities a there.
    settled_for c.args.store.now c.len-i-end.ensures.nodes c.loop-i.sorts (λ j h. c.loop-i.invariant.settled j (omega (arith, h, c.len-i-end.ensures.counted))) c.args.sig.now identities a there

pub returns-in_err-settle_ready-clause-closed : goal.returns-in_err-settle_ready-clause-closed
returns-in_err-settle_ready-clause-closed c = λ is. c.settle_ready.ensures.closed (c.loop-i.invariant.closed is)
