use Rattle.std.proofs.Common.{Contains, take, ⊎_elim, inr, add-one, subst, sym, arith}
use Rattle.mau_terms.specs.declared.ids.TermId.{TermId}
use Rattle.mau_sorts.specs.Table.{IsSettled}
use Rattle.mau_sorts.proofs.Settling.{kept_on}
use Rattle.mau_trial.proofs.OfKind.{take_whole}
use Rattle.mau_plain.proofs.Settling.{settled_more, among_more, complete_more}
use Rattle.mau_plain.proofs.settled.settled_among.Goals as goal

pub loop-id-preserved : goal.loop-id-preserved
loop-id-preserved c =
    let s = c.args.sig.now in
    let nodes = c.args.store.now in
    let start = c.args.sorts.now in
    let old = c.loop-id.sorts in
    let new = c.push_settled.new.sorts in
    let i = c.loop-id.id-index in
    let ids = c.args.ids.now in
    let d : TermId = record { 0 = 0 } in
    let inv = c.loop-id.invariant in
    let adds = c.in_ok-push_settled.ensures.added in
    record {
      settled = settled_more s nodes start old new c.args.subject.0 inv.kept c.push_settled.ensures.kept ids i d c.loop-id-test.true c.loop-id.out.items c.push_settled.new.out.items adds inv.settled;
      among = among_more s nodes start old new c.args.subject.0 inv.kept c.push_settled.ensures.kept ids i d c.loop-id-test.true c.loop-id.out.items c.push_settled.new.out.items adds inv.among;
      complete = λ x there can.
          complete_more s nodes start old new c.args.subject.0 inv.kept c.push_settled.ensures.kept ids i d c.loop-id-test.true c.loop-id.out.items c.push_settled.new.out.items adds inv.complete x
          (subst (λ n. Contains (take n ids) x) (add-one i) there) can;
      entries = λ j is.
          ⊎_elim (λ (before : IsSettled old j). inv.entries j before) (λ h. inr h) (c.push_settled.ensures.entries j is);
      kept = kept_on start old new inv.kept c.push_settled.ensures.kept;
      over = c.push_settled.ensures.over;
      table = λ known t. c.push_settled.ensures.table known (inv.table known t);
      closed = λ is. c.push_settled.ensures.closed (inv.closed is);
    }

pub returns-in_err-push_settled-clause-table : goal.returns-in_err-push_settled-clause-table
returns-in_err-push_settled-clause-table c = λ known t. c.push_settled.ensures.table known (c.loop-id.invariant.table known t)

pub returns-in_err-push_settled-clause-closed : goal.returns-in_err-push_settled-clause-closed
returns-in_err-push_settled-clause-closed c = λ is. c.push_settled.ensures.closed (c.loop-id.invariant.closed is)

pub returns-clause-complete : goal.returns-clause-complete
returns-clause-complete c = λ id there can.
    c.loop-id.invariant.complete id (subst (λ l. Contains l id) (sym (take_whole c.args.ids.now c.loop-id.id-index (omega arith))) there) can
