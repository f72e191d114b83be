use Rattle.std.proofs.Common.{All, Contains, length, get_or, sym, subst, ◌∙◌}
use Rattle.std.proofs.lemmas.Result.{IfOk-weaker}
use Rattle.std.proofs.lemmas.List.Elements.{All-nil}
use Rattle.mau_signature.specs.Signature.{theory_at}
use Rattle.mau_store.specs.Node.{IsOf}
use Rattle.mau_store.specs.Trees.{tree_at}
use Rattle.mau_store.specs.View.{numbers}
use Rattle.mau_sorts.specs.Table.{IsSettled}
use Rattle.mau_canon.specs.Standing.{StandsWithin, StandWithin}
use Rattle.mau_canon.proofs.Standing.{stand_there, stand_within_extended}
use Rattle.mau_trial.specs.Tried.{without_context}
use Rattle.mau_plain.specs.Words.{HasWords}
use Rattle.mau_plain.proofs.Trials.{tried_kept}
use Rattle.mau_trial.proofs.Among.{all_one}
use Rattle.mau_plain.proofs.Nexts.{lists_among, all_among, if_ok_both, solution_is_tried, to_try}
use Rattle.mau_listing.proofs.Closed.{closed_stay}
use Rattle.mau_listing.proofs.Growth.{found_same, table_grown, may_settle_grown}
use Rattle.mau_plain.proofs.listing.tried_lists.Goals as goal

pub tried_among-requires-clause-ready : goal.tried_among-requires-clause-ready
tried_among-requires-clause-ready c =
    to_try c.args.sig.now c.is_lawful.ensures.lawful c.args.store.now c.settled_candidates.new.store c.settled_candidates.ensures.extends c.has_nodes.ensures c.args.sorts.now c.settled_candidates.new.sorts
    c.settled_candidates.ensures.kept c.settled_candidates.ensures.over c.args.trial.now c.requires.ready c.args.places.now c.requires.places

pub tried_among-requires-clause-values : goal.tried_among-requires-clause-values
tried_among-requires-clause-values c =
    let P = StandsWithin (theory_at c.args.sig.now) c.settled_candidates.new.store in
    subst (All (λ l. All P (numbers l))) (sym c.deref-3.ensures.value)
    (lists_among P c.deref.result.now c.in_ok-lists.lists.items (subst (λ ids. All P (numbers ids)) (sym c.deref.ensures.value) c.in_ok-settled.ensures.within) c.in_ok-lists.ensures.among)

-- the lists that were tried are within the limits, and settled
within_before : (c : goal.After-drop-settled-2) → All (λ l. StandWithin (theory_at c.args.sig.now) c.settled_candidates.new.store (numbers l)) c.deref-3.result.now
within_before c =
    let P = StandsWithin (theory_at c.args.sig.now) c.settled_candidates.new.store in
    subst (All (λ l. All P (numbers l))) (sym c.deref-3.ensures.value)
    (lists_among P c.deref.result.now c.in_ok-lists.lists.items (subst (λ ids. All P (numbers ids)) (sym c.deref.ensures.value) c.in_ok-settled.ensures.within) c.in_ok-lists.ensures.among)

settled_before : (c : goal.After-drop-settled-2) → All (λ l. All (IsSettled c.settled_candidates.new.sorts) (numbers l)) c.deref-3.result.now
settled_before c =
    let P = IsSettled c.settled_candidates.new.sorts in
    subst (All (λ l. All P (numbers l))) (sym c.deref-3.ensures.value)
    (lists_among P c.deref.result.now c.in_ok-lists.lists.items (subst (λ ids. All P (numbers ids)) (sym c.deref.ensures.value) c.in_ok-settled.ensures.settled) c.in_ok-lists.ensures.among)

pub returns-clause-tried : goal.returns-clause-tried
returns-clause-tried c =
    let s = c.args.sig.now in
    let mid = c.settled_candidates.new.store in
    let table = c.settled_candidates.new.sorts in
    let lists = c.deref-3.result.now in
    let within = within_before c in
    let ready =
    to_try s c.is_lawful.ensures.lawful c.args.store.now mid c.settled_candidates.ensures.extends c.has_nodes.ensures c.args.sorts.now table c.settled_candidates.ensures.kept c.settled_candidates.ensures.over c.args.trial.now c.requires.ready
    c.args.places.now c.requires.places in
    IfOk-weaker c.tried_among.result _ _
    (λ out h k d lt.
    tried_kept s table c.args.trial.now c.args.places.now mid c.tried_among.new.store c.tried_among.ensures.extends ready (get_or out.items k d)
    (all_among (λ l. StandWithin (theory_at s) mid (numbers l)) lists out.items within h.0 k d lt) (h.1 k d lt))
    (if_ok_both c.tried_among.result _ _ c.tried_among.ensures.among c.tried_among.ensures.tried)

pub returns-clause-within : goal.returns-clause-within
returns-clause-within c =
    let th = theory_at c.args.sig.now in
    let mid = c.settled_candidates.new.store in
    IfOk-weaker c.tried_among.result _ _
    (λ out among k d lt.
    stand_within_extended th mid c.tried_among.new.store (numbers (get_or out.items k d)) c.tried_among.ensures.extends
    (all_among (λ l. StandWithin th mid (numbers l)) c.deref-3.result.now out.items (within_before c) among k d lt))
    c.tried_among.ensures.among

pub returns-clause-settled : goal.returns-clause-settled
returns-clause-settled c =
    IfOk-weaker c.tried_among.result _ _
    (λ out among. all_among (λ l. All (IsSettled c.settled_candidates.new.sorts) (numbers l)) c.deref-3.result.now out.items (settled_before c) among)
    c.tried_among.ensures.among

pub returns-clause-all : goal.returns-clause-all
returns-clause-all c = λ known table.
    let s = c.args.sig.now in
    let th = theory_at s in
    let mid = c.settled_candidates.new.store in
    let sorts = c.settled_candidates.new.sorts in
    let settled = c.in_ok-settled.settled.items in
    let lists = c.in_ok-lists.lists.items in
    let places = c.args.places.now in
    let has : HasWords settled (length places) lists = subst (λ ids. HasWords ids (length places) lists) c.deref.ensures.value c.in_ok-lists.ensures.all in
    IfOk-weaker c.tried_among.result _ _
    (λ out all x is behind.
    let found =
    solution_is_tried s c.is_lawful.ensures.lawful c.args.store.now mid c.settled_candidates.ensures.extends c.has_nodes.ensures c.args.sorts.now sorts c.settled_candidates.ensures.kept c.settled_candidates.ensures.over c.args.trial.now c.requires.ready
    places c.requires.places known (c.settled_candidates.ensures.table known table) settled c.in_ok-settled.ensures.within c.in_ok-settled.ensures.settled lists has x is behind (c.in_ok-settled.ensures.all known table x is) in
    let l = found.0 in
    let there = subst (λ ls. Contains ls l) (sym c.deref-3.ensures.value) found.1 in
    let within = all_one (λ m. StandWithin th mid (numbers m)) c.deref-3.result.now l (within_before c) there in
    (l, all l there found.2, found_same mid c.tried_among.new.store c.tried_among.ensures.extends (without_context l) (All-nil (IsOf mid)) (All-nil (IsOf mid)) (stand_there th mid (numbers l) within) ∙ found.3))
    c.tried_among.ensures.all

pub returns-clause-entries : goal.returns-clause-entries
returns-clause-entries c = λ i is.
    may_settle_grown c.args.sig.now c.settled_candidates.new.store c.tried_among.new.store c.args.sorts.now (tree_at c.args.store.now c.args.trial.now.subject.0) i c.tried_among.ensures.extends (c.settled_candidates.ensures.entries i is)

pub returns-clause-table : goal.returns-clause-table
returns-clause-table c = λ known t.
    table_grown c.args.sig.now known c.settled_candidates.new.store c.tried_among.new.store c.tried_among.ensures.extends c.settled_candidates.new.sorts (c.settled_candidates.ensures.table known t)

pub returns-clause-closed : goal.returns-clause-closed
returns-clause-closed c = λ is.
    closed_stay c.settled_candidates.new.store c.tried_among.new.store c.settled_candidates.new.sorts c.tried_among.ensures.extends (c.settled_candidates.ensures.closed is)
