use Rattle.std.proofs.Common.{◌≡◌, ◌<◌, ◌≤◌, ⊎_elim, sym, subst, arith}
use Rattle.std.proofs.lemmas.Bool.{cases_lt}
use Rattle.mau_store.specs.Trees.{tree_at}
use Rattle.mau_sorts.specs.Table.{IsSettled}
use Rattle.mau_signature.specs.OverSignature.{IsTreeOver}
use Rattle.mau_listing.proofs.Growth.{settled_kept}
use Rattle.mau_check.proofs.Tells.{ready_over}
use Rattle.mau_check.proofs.sorts.sorts_by.Goals as goal

pub loop-i-preserved : goal.loop-i-preserved
loop-i-preserved c =
    let i = c.loop-i.i in
    let s = c.args.sig.now in
    let nodes = c.args.store.now in
    let old = c.loop-i.table in
    let new = c.settle_one.new.table in
    let inv = c.loop-i.invariant in
    record {
      settled = λ j h over.
          ⊎_elim
          (λ (low : j < i). settled_kept old new c.in_ok-settle_one.ensures.kept j (inv.settled j low over))
          (λ (high : i ≤ j).
          let same : j ≡ i = omega (arith, h, high) in
          let here : IsTreeOver s (tree_at nodes i) = subst (λ k. IsTreeOver s (tree_at nodes k)) same over in
          subst (IsSettled new) (sym same)
          (c.in_ok-settle_one.ensures.settled (ready_over s nodes c.len-i-end.ensures.nodes old i (omega (arith, c.loop-i-test.true, c.len-i-end.ensures.counted)) inv.settled here)))
          (cases_lt j i);
      over = c.settle_one.ensures.over;
      entries = λ us h. c.in_ok-settle_one.ensures.entries us h (inv.entries us h);
    }

pub returns-clause-settled : goal.returns-clause-settled
returns-clause-settled c i there = c.loop-i.invariant.settled i (omega (arith, there, c.len-i-end.ensures.counted, c.loop-i-test.false))
