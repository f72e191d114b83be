use Rattle.std.proofs.Common.{List, false, sym, subst}
use Rattle.mau_terms.specs.View.{tree_of}
use Rattle.mau_terms.specs.declared.ids.VarId.{VarId}
use Rattle.mau_terms.specs.declared.ids.TermId.{TermId}
use Rattle.mau_api.specs.Programs.{membership_of}
use Rattle.mau_deriving.specs.Listing.{IsSorted}
use Rattle.mau_deriving.proofs.Lawful.{heads, mapped_at}
use Rattle.mau_settling.specs.Solving.{IsAnsweredBy, IsEndedBy}
use Rattle.mau_settling.proofs.Causes.{conditions_may_end}
use Rattle.mau_settling.proofs.States.{settling_stays, deriving_stays, asked_membership, asked_sorted}
use Rattle.mau_settling.proofs.solving.solve_next.Goals as goal

pub holds-requires-clause-bound : goal.holds-requires-clause-bound
holds-requires-clause-bound g c = λ m there.
    subst (IsSorted c.args.program.now.sig c.args.store.now c.args.table.now (tree_of m.left)) (sym c.items.ensures)
    (asked_sorted c.args.program.now c.args.store.now c.args.table.now c.args.settling.now c.requires.settling c.in-Some.membership c.in-Some.bound.now c.in-Some.ensures.asks m there)

pub returns-in-Ok-clause-settling : goal.returns-in-Ok-clause-settling
returns-in-Ok-clause-settling g c =
    let later = c.holds.ensures.later in
    c.told.ensures.settling c.args.program.now c.holds.new.store c.holds.new.table
    (settling_stays c.args.program.now c.args.store.now c.holds.new.store later.extends c.args.table.now c.holds.new.table later.kept later.over later.closed c.args.settling.now c.requires.settling)

pub returns-in-Ok-clause-derives : goal.returns-in-Ok-clause-derives
returns-in-Ok-clause-derives g c = λ hooks limit right derived k.
    let p = c.args.program.now in
    let m = asked_membership p c.args.settling.now c.requires.asking c.in-Some.membership c.in-Some.bound.now c.in-Some.ensures.asks in
    let there = mapped_at membership_of p.memberships c.in-Some.membership m.0 m.1 in
    let answered = subst (λ (b : List (VarId × TermId)). IsAnsweredBy p hooks limit c.args.store.now c.in-Some.membership b c.in-Ok.holds) c.items.ensures (c.in-Ok.ensures.answered hooks limit right derived) in
    deriving_stays p hooks limit c.args.store.now c.holds.new.store c.holds.ensures.later.extends c.args.table.now c.told.new.self (c.told.ensures.settling p c.args.store.now c.args.table.now c.requires.settling)
    (c.told.ensures.derives p hooks limit c.args.store.now (membership_of m.0) c.in-Some.membership c.in-Some.bound.now c.in-Some.ensures.asks there (answered (membership_of m.0) there) k)

pub returns-in-Err-clause-ends : goal.returns-in-Err-clause-ends
returns-in-Err-clause-ends g c = λ hooks limit right derived k.
    let p = c.args.program.now in
    let m = asked_membership p c.args.settling.now c.requires.asking c.in-Some.membership c.in-Some.bound.now c.in-Some.ensures.asks in
    conditions_may_end p hooks limit false c.args.store.now c.args.table.now c.args.settling.now
    (record { heads = heads p c.requires.lawful c.requires.signature hooks; accepted = c.requires.lawful.accepted; are = c.has_nodes.ensures; derived = derived; settling = c.requires.settling; derives = k })
    c.in-Some.membership c.in-Some.bound.now c.in-Some.ensures.asks (membership_of m.0) (mapped_at membership_of p.memberships c.in-Some.membership m.0 m.1) c.in-Err.end
    (subst (λ (b : List (VarId × TermId)). IsEndedBy p hooks limit c.args.store.now c.in-Some.membership b c.in-Err.end) c.items.ensures (c.in-Err.ensures.ends hooks limit right derived))
