use Rattle.std.proofs.Common.{length, sym, ap, ◌∙◌, subst}
use Rattle.mau_terms.specs.View.{tree_of}
use Rattle.mau_api.specs.Answers.{binding_in}
use Rattle.mau_deriving.specs.Listing.{IsSorted}
use Rattle.mau_deriving.proofs.ListedAll.{grown_by, given_at, values_long, binding_is, is_sorted, listing_on, gives_none, gives_some}
use Rattle.mau_deriving.proofs.listing.next_binding.Goals as goal

pub next-requires-clause-signature : goal.next-requires-clause-signature
next-requires-clause-signature g c = c.requires.listing.signature

pub next-requires-clause-ready : goal.next-requires-clause-ready
next-requires-clause-ready g c = c.requires.listing.ready

pub returns-in_err-solution-clause-grown : goal.returns-in_err-solution-clause-grown
returns-in_err-solution-clause-grown g c =
    grown_by c.args.sig.now c.args.store.now c.next.new.store c.args.table.now c.next.new.sorts (tree_of c.args.pattern.now) c.args.term (g.L.Lister.asked c.args.listing.now) c.requires.listing.is
    c.next.ensures.extends c.next.ensures.kept c.next.ensures.over c.next.ensures.entries c.next.ensures.table c.next.ensures.closed

pub told-requires-clause-one_each : goal.told-requires-clause-one_each
told-requires-clause-one_each g c =
    ap length c.items.ensures
    ∙ values_long c.args.sig.now c.next.new.store c.next.new.sorts (tree_of c.args.pattern.now) c.args.term g.L.Lister.with_context g.met.L.WholeLister.whole (g.L.Lister.asked c.args.listing.now) c.requires.listing.is
    c.in-Some.solution (given_at g.L.Lister.with_context c.args.sig.now c.next.new.store c.next.new.sorts (g.L.Lister.asked c.args.listing.now) c.in_ok-solution.field-0 c.in-Some.solution c.in-Some.is c.in_ok-solution.ensures.solves)

pub returns-in_err-told-in-Some-clause-grown : goal.returns-in_err-told-in-Some-clause-grown
returns-in_err-told-in-Some-clause-grown g c =
    grown_by c.args.sig.now c.args.store.now c.next.new.store c.args.table.now c.next.new.sorts (tree_of c.args.pattern.now) c.args.term (g.L.Lister.asked c.args.listing.now) c.requires.listing.is
    c.next.ensures.extends c.next.ensures.kept c.next.ensures.over c.next.ensures.entries c.next.ensures.table c.next.ensures.closed

pub returns-in_ok-told-in-Some-clause-grown : goal.returns-in_ok-told-in-Some-clause-grown
returns-in_ok-told-in-Some-clause-grown g c =
    grown_by c.args.sig.now c.args.store.now c.next.new.store c.args.table.now c.next.new.sorts (tree_of c.args.pattern.now) c.args.term (g.L.Lister.asked c.args.listing.now) c.requires.listing.is
    c.next.ensures.extends c.next.ensures.kept c.next.ensures.over c.next.ensures.entries c.next.ensures.table c.next.ensures.closed

pub returns-in-None-clause-grown : goal.returns-in-None-clause-grown
returns-in-None-clause-grown g c =
    grown_by c.args.sig.now c.args.store.now c.next.new.store c.args.table.now c.next.new.sorts (tree_of c.args.pattern.now) c.args.term (g.L.Lister.asked c.args.listing.now) c.requires.listing.is
    c.next.ensures.extends c.next.ensures.kept c.next.ensures.over c.next.ensures.entries c.next.ensures.table c.next.ensures.closed

pub returns-in_ok-told-in-Some-clause-next : goal.returns-in_ok-told-in-Some-clause-next
returns-in_ok-told-in-Some-clause-next g c = λ known xs is left.
    gives_some c.args.sig.now g.L.Lister.with_context c.args.store.now c.next.new.store c.args.table.now c.next.new.sorts (tree_of c.args.pattern.now) c.args.term (g.L.Lister.asked c.args.listing.now)
    (g.L.Lister.given c.args.listing.now) (g.L.Lister.is_for c.args.listing.now c.args.sig.now) c.requires.listing
    (grown_by c.args.sig.now c.args.store.now c.next.new.store c.args.table.now c.next.new.sorts (tree_of c.args.pattern.now) c.args.term (g.L.Lister.asked c.args.listing.now) c.requires.listing.is
    c.next.ensures.extends c.next.ensures.kept c.next.ensures.over c.next.ensures.entries c.next.ensures.table c.next.ensures.closed)
    known xs left c.in_ok-solution.field-0 (c.in_ok-solution.ensures.next known is) c.in-Some.solution c.in-Some.is (binding_in c.next.new.store c.new.result)
    (ap (binding_in c.next.new.store) c.new.ensures
    ∙ binding_is c.args.sig.now c.next.new.store c.next.new.sorts (tree_of c.args.pattern.now) c.args.term g.L.Lister.with_context g.met.L.WholeLister.whole (g.L.Lister.asked c.args.listing.now) c.requires.listing.is
    c.in-Some.solution (given_at g.L.Lister.with_context c.args.sig.now c.next.new.store c.next.new.sorts (g.L.Lister.asked c.args.listing.now) c.in_ok-solution.field-0 c.in-Some.solution c.in-Some.is c.in_ok-solution.ensures.solves)
    c.in_ok-told-in-Some.told.items c.in_ok-told-in-Some.ensures.variables (c.in_ok-told-in-Some.ensures.values ∙ c.items.ensures))
    (g.L.Lister.given c.next.new.self) c.in_ok-solution.ensures.given

pub returns-in_ok-told-in-Some-clause-sorted : goal.returns-in_ok-told-in-Some-clause-sorted
returns-in_ok-told-in-Some-clause-sorted g c =
    subst (IsSorted c.args.sig.now c.next.new.store c.next.new.sorts (tree_of c.args.pattern.now)) (sym c.new.ensures)
    (is_sorted c.args.sig.now c.next.new.store c.next.new.sorts (tree_of c.args.pattern.now) c.args.term g.L.Lister.with_context g.met.L.WholeLister.whole (g.L.Lister.asked c.args.listing.now) c.requires.listing.is
    c.in-Some.solution (given_at g.L.Lister.with_context c.args.sig.now c.next.new.store c.next.new.sorts (g.L.Lister.asked c.args.listing.now) c.in_ok-solution.field-0 c.in-Some.solution c.in-Some.is c.in_ok-solution.ensures.solves)
    c.in_ok-told-in-Some.told.items c.in_ok-told-in-Some.ensures.variables (c.in_ok-told-in-Some.ensures.values ∙ c.items.ensures))

pub returns-in_ok-told-in-Some-clause-listing : goal.returns-in_ok-told-in-Some-clause-listing
returns-in_ok-told-in-Some-clause-listing g c =
    listing_on c.args.sig.now g.L.Lister.with_context c.args.store.now c.next.new.store c.args.table.now c.next.new.sorts (tree_of c.args.pattern.now) c.args.term (g.L.Lister.asked c.args.listing.now)
    (g.L.Lister.given c.args.listing.now) (g.L.Lister.is_for c.args.listing.now c.args.sig.now) c.requires.listing
    (grown_by c.args.sig.now c.args.store.now c.next.new.store c.args.table.now c.next.new.sorts (tree_of c.args.pattern.now) c.args.term (g.L.Lister.asked c.args.listing.now) c.requires.listing.is
    c.next.ensures.extends c.next.ensures.kept c.next.ensures.over c.next.ensures.entries c.next.ensures.table c.next.ensures.closed)
    (g.L.Lister.asked c.next.new.self) c.next.ensures.asked c.in_ok-solution.field-0 (g.L.Lister.given c.next.new.self) c.in_ok-solution.ensures.given c.in_ok-solution.ensures.solves
    (g.L.Lister.is_for c.next.new.self c.args.sig.now) c.next.ensures.signature

pub returns-in-None-clause-next : goal.returns-in-None-clause-next
returns-in-None-clause-next g c = λ known xs is left.
    gives_none c.args.sig.now g.L.Lister.with_context c.args.store.now c.next.new.store c.args.table.now c.next.new.sorts (tree_of c.args.pattern.now) c.args.term (g.L.Lister.asked c.args.listing.now)
    (g.L.Lister.given c.args.listing.now) (g.L.Lister.is_for c.args.listing.now c.args.sig.now) c.requires.listing
    (grown_by c.args.sig.now c.args.store.now c.next.new.store c.args.table.now c.next.new.sorts (tree_of c.args.pattern.now) c.args.term (g.L.Lister.asked c.args.listing.now) c.requires.listing.is
    c.next.ensures.extends c.next.ensures.kept c.next.ensures.over c.next.ensures.entries c.next.ensures.table c.next.ensures.closed)
    known xs left c.in_ok-solution.field-0 (c.in_ok-solution.ensures.next known is) c.in-None.is

pub returns-in-None-clause-listing : goal.returns-in-None-clause-listing
returns-in-None-clause-listing g c =
    listing_on c.args.sig.now g.L.Lister.with_context c.args.store.now c.next.new.store c.args.table.now c.next.new.sorts (tree_of c.args.pattern.now) c.args.term (g.L.Lister.asked c.args.listing.now)
    (g.L.Lister.given c.args.listing.now) (g.L.Lister.is_for c.args.listing.now c.args.sig.now) c.requires.listing
    (grown_by c.args.sig.now c.args.store.now c.next.new.store c.args.table.now c.next.new.sorts (tree_of c.args.pattern.now) c.args.term (g.L.Lister.asked c.args.listing.now) c.requires.listing.is
    c.next.ensures.extends c.next.ensures.kept c.next.ensures.over c.next.ensures.entries c.next.ensures.table c.next.ensures.closed)
    (g.L.Lister.asked c.next.new.self) c.next.ensures.asked c.in_ok-solution.field-0 (g.L.Lister.given c.next.new.self) c.in_ok-solution.ensures.given c.in_ok-solution.ensures.solves
    (g.L.Lister.is_for c.next.new.self c.args.sig.now) c.next.ensures.signature
