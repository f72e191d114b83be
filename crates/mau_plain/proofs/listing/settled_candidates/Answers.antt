use Rattle.std.proofs.Common.{All, Contains, sym, subst}
use Rattle.std.proofs.lemmas.Result.{IfOk-weaker}
use Rattle.mau_signature.specs.Signature.{theory_at}
use Rattle.mau_store.proofs.Standing.{tree_at-extends}
use Rattle.mau_canon.proofs.Standing.{stand_among}
use Rattle.mau_listing.specs.Asked.{MaySettle}
use Rattle.mau_sorts.proofs.Settling.{kept_same}
use Rattle.mau_listing.proofs.Closed.{closed_stay}
use Rattle.mau_listing.proofs.Growth.{table_grown}
use Rattle.mau_plain.proofs.Nexts.{all_gathered}
use Rattle.mau_plain.proofs.listing.settled_candidates.Goals as goal

pub returns-in_err-push_candidates-clause-table : goal.returns-in_err-push_candidates-clause-table
returns-in_err-push_candidates-clause-table c = λ known. table_grown c.args.sig.now known c.args.store.now c.push_candidates.new.store c.push_candidates.ensures.extends c.args.sorts.now

pub returns-clause-within : goal.returns-clause-within
returns-clause-within c =
    let th = theory_at c.args.sig.now in
    let gathered = c.push_candidates.new.out.items in
    IfOk-weaker c.settled_among.result _ _
    (λ out among. stand_among th c.push_candidates.new.store out.items gathered (subst (λ ids. All (Contains ids) out.items) c.deref.ensures.value among) c.in_ok-push_candidates.ensures.ok.within)
    c.settled_among.ensures.among

pub returns-clause-all : goal.returns-clause-all
returns-clause-all c = λ known table.
    let s = c.args.sig.now in
    let old = c.args.store.now in
    let new = c.push_candidates.new.store in
    let gathered = c.push_candidates.new.out.items in
    IfOk-weaker c.settled_among.result _ _
    (λ out complete x is.
    all_gathered s c.is_lawful.ensures.lawful old new c.push_candidates.ensures.extends c.has_nodes.ensures c.args.sorts.now c.args.sorts.now (kept_same c.args.sorts.now) c.requires.ready.over c.args.trial.now c.requires.ready c.new-candidates.result.items gathered out.items
    c.in_ok-push_candidates.ensures.ok
    (λ id there can. complete id (subst (λ ids. Contains ids id) (sym c.deref.ensures.value) there) can)
    known x is)
    c.settled_among.ensures.complete

pub returns-clause-entries : goal.returns-clause-entries
returns-clause-entries c = λ i is.
    subst (λ t. MaySettle c.args.sig.now c.push_candidates.new.store c.args.sorts.now t i)
    (tree_at-extends c.args.store.now c.push_candidates.new.store c.args.trial.now.subject.0 c.push_candidates.ensures.extends c.requires.ready.askable.subject.there)
    (c.settled_among.ensures.entries i is)

pub returns-clause-table : goal.returns-clause-table
returns-clause-table c = λ known table.
    c.settled_among.ensures.table known (table_grown c.args.sig.now known c.args.store.now c.push_candidates.new.store c.push_candidates.ensures.extends c.args.sorts.now table)

pub returns-in_err-push_candidates-clause-closed : goal.returns-in_err-push_candidates-clause-closed
returns-in_err-push_candidates-clause-closed c = closed_stay c.args.store.now c.push_candidates.new.store c.args.sorts.now c.push_candidates.ensures.extends

pub returns-clause-closed : goal.returns-clause-closed
returns-clause-closed c = λ is.
    c.settled_among.ensures.closed (closed_stay c.args.store.now c.push_candidates.new.store c.args.sorts.now c.push_candidates.ensures.extends is)
