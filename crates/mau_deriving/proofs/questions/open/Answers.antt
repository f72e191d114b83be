use Rattle.std.proofs.Common.{map, All, sym, ap, subst}
use Rattle.std.proofs.lemmas.Result.{IfOk-weaker}
use Rattle.std.proofs.lemmas.List.Elements.{All-nil}
use Rattle.mau_terms.specs.View.{tree_of}
use Rattle.mau_api.specs.Answers.{binding_in}
use Rattle.mau_deriving.specs.Listing.{IsSorted}
use Rattle.mau_deriving.proofs.ListedAll.{grown_same}
use Rattle.mau_deriving.proofs.Asked.{open_executable, open_other, open_past, place_read, place_end, sorted_at, none_sorted}
use Rattle.mau_deriving.proofs.questions.open.Goals as goal

pub questions-requires-clause-lawful : goal.questions-requires-clause-lawful
questions-requires-clause-lawful g c = c.requires.lawful

pub questions-requires-clause-signature : goal.questions-requires-clause-signature
questions-requires-clause-signature g c = c.requires.signature

pub questions-requires-clause-asked : goal.questions-requires-clause-asked
questions-requires-clause-asked g c = c.requires.asked

pub questions-requires-clause-there : goal.questions-requires-clause-there
questions-requires-clause-there g c = place_read c.items.result.now c.args.program.now.memberships c.args.at c.in-Some.membership.now c.in-Some.ensures.lookup.0 c.in-Some.ensures.lookup.1 c.items.ensures

pub returns-then-membership-clause-open : goal.returns-then-membership-clause-open
returns-then-membership-clause-open g c = λ hooks limit f ts d e.
    IfOk-weaker c.questions.result _ _
    (λ found q. open_executable c.args.program.now hooks limit f ts c.args.at (map (binding_in c.questions.new.store) found.items) c.in-Some.membership.now
    (place_read c.items.result.now c.args.program.now.memberships c.args.at c.in-Some.membership.now c.in-Some.ensures.lookup.0 c.in-Some.ensures.lookup.1 c.items.ensures) c.if-membership.true q)
    (c.questions.ensures.asks hooks limit f ts d e)

pub returns-then-membership-clause-sorted : goal.returns-then-membership-clause-sorted
returns-then-membership-clause-sorted g c =
    IfOk-weaker c.questions.result _ _
    (λ found h. sorted_at c.args.program.now c.questions.new.store c.questions.new.table c.args.at found.items c.in-Some.membership.now
    (place_read c.items.result.now c.args.program.now.memberships c.args.at c.in-Some.membership.now c.in-Some.ensures.lookup.0 c.in-Some.ensures.lookup.1 c.items.ensures) h)
    c.questions.ensures.sorted

pub returns-then-membership-clause-grown : goal.returns-then-membership-clause-grown
returns-then-membership-clause-grown g c = c.questions.ensures.grown

pub returns-else-membership-clause-open : goal.returns-else-membership-clause-open
returns-else-membership-clause-open g c = λ hooks limit f ts d e.
    open_other c.args.program.now hooks limit f ts c.args.at (map (binding_in c.args.store.now) c.new.result.items) c.in-Some.membership.now
    (place_read c.items.result.now c.args.program.now.memberships c.args.at c.in-Some.membership.now c.in-Some.ensures.lookup.0 c.in-Some.ensures.lookup.1 c.items.ensures) c.if-membership.false
    (ap (map (binding_in c.args.store.now)) c.new.ensures.items)

pub returns-else-membership-clause-sorted : goal.returns-else-membership-clause-sorted
returns-else-membership-clause-sorted g c =
    sorted_at c.args.program.now c.args.store.now c.args.table.now c.args.at c.new.result.items c.in-Some.membership.now
    (place_read c.items.result.now c.args.program.now.memberships c.args.at c.in-Some.membership.now c.in-Some.ensures.lookup.0 c.in-Some.ensures.lookup.1 c.items.ensures)
    (subst (All (IsSorted c.args.program.now.sig c.args.store.now c.args.table.now (tree_of c.in-Some.membership.now.left))) (sym c.new.ensures.items)
    (All-nil (IsSorted c.args.program.now.sig c.args.store.now c.args.table.now (tree_of c.in-Some.membership.now.left))))

pub returns-else-membership-clause-grown : goal.returns-else-membership-clause-grown
returns-else-membership-clause-grown g c = grown_same c.args.program.now.sig c.args.store.now c.args.table.now c.args.term.0 c.requires.asked.over

pub returns-in-None-clause-open : goal.returns-in-None-clause-open
returns-in-None-clause-open g c = λ hooks limit f ts d e.
    open_past c.args.program.now hooks limit f ts c.args.at (map (binding_in c.args.store.now) c.new-in-None.result.items)
    (place_end c.items.result.now c.args.program.now.memberships c.args.at c.in-None.ensures.lookup.0 c.items.ensures)

pub returns-in-None-clause-sorted : goal.returns-in-None-clause-sorted
returns-in-None-clause-sorted g c =
    none_sorted c.args.program.now c.args.store.now c.args.table.now c.args.at c.new-in-None.result.items
    (place_end c.items.result.now c.args.program.now.memberships c.args.at c.in-None.ensures.lookup.0 c.items.ensures) c.new-in-None.ensures.items

pub returns-in-None-clause-grown : goal.returns-in-None-clause-grown
returns-in-None-clause-grown g c = grown_same c.args.program.now.sig c.args.store.now c.args.table.now c.args.term.0 c.requires.asked.over
