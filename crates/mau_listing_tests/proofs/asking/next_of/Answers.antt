use Rattle.std.proofs.Common.{Bool, List, Option, None, Some, IfSome, sym, subst}
use Rattle.mau_signature.specs.Signature.{SignatureOf}
use Rattle.mau_store.specs.Node.{Node}
use Rattle.mau_sorts.specs.Table.{Table}
use Rattle.mau_listing.specs.declared.solution.Solution.{Solution}
use Rattle.mau_listing.specs.Asked.{Asked, last_after, IsGiven, CanBeLast}
use Rattle.mau_listing.proofs.Growth.{given_is_last, listings_go_on}
use Rattle.mau_listing_tests.proofs.asking.next_of.Goals as goal

after_one : (P : Solution → Type 0) (last next : Option Solution) → IfSome last P → IfSome next P → IfSome (last_after last next) P
after_one P last None h k = h
after_one P last (Some x) h k = k

-- a listing goes on behind what it has given
some_last : (w : Bool) (s : SignatureOf) (nodes : List Node) (table : Table) (a : Asked) (o : Option Solution) → IfSome o (IsGiven w s nodes table a) → IfSome o (CanBeLast w s nodes table a)
some_last w s nodes table a None h = tt
some_last w s nodes table a (Some x) h = given_is_last w s nodes table a x h

pub returns-clause-kept : goal.returns-clause-kept
returns-clause-kept g c = λ a o can.
    let e = c.next.ensures in
    listings_go_on g.L.Lister.with_context c.args.sig.now c.args.store.now c.next.new.store c.args.sorts.now c.next.new.sorts e.extends e.kept e.over a o can

pub returns-clause-given : goal.returns-clause-given
returns-clause-given g c =
    let w = g.L.Lister.with_context in
    let a = g.L.Lister.asked c.args.listing.now in
    let last = g.L.Lister.given c.args.listing.now in
    let e = c.next.ensures in
    let go = listings_go_on w c.args.sig.now c.args.store.now c.next.new.store c.args.sorts.now c.next.new.sorts e.extends e.kept e.over a last c.requires.ready in
    record { askable = go.askable; settled = go.settled; over = go.over; given = some_last w c.args.sig.now c.next.new.store c.next.new.sorts a c.in_ok-found.found c.in_ok-found.ensures.solves }

pub returns-clause-ready : goal.returns-clause-ready
returns-clause-ready g c =
    let w = g.L.Lister.with_context in
    let s = c.args.sig.now in
    let new = c.next.new.store in
    let after = c.next.new.sorts in
    let a = g.L.Lister.asked c.args.listing.now in
    let last = g.L.Lister.given c.args.listing.now in
    let e = c.next.ensures in
    let go = listings_go_on w s c.args.store.now new c.args.sorts.now after e.extends e.kept e.over a last c.requires.ready in
    record {
      askable = go.askable;
      settled = go.settled;
      over = go.over;
      given = subst (λ o. IfSome o (CanBeLast w s new after a)) (sym c.in_ok-found.ensures.given) (after_one (CanBeLast w s new after a) last c.in_ok-found.found go.given (some_last w s new after a c.in_ok-found.found c.in_ok-found.ensures.solves));
    }
