use Rattle.std.proofs.Common.{false, IfOk, IfSome, sym, subst}
use Rattle.mau_store.specs.Trees.{tree_at}
use Rattle.mau_listing.specs.Asked.{IsGiven, CanGoOn}
use Rattle.mau_listing.proofs.Growth.{listings_go_on}
use Rattle.mau_api.specs.Programs.{equation_of}
use Rattle.mau_api.proofs.KeepsDerived.{listings_keep_derived}
use Rattle.mau_reduce.proofs.PlainTables.{table_after}
use Rattle.mau_reduce.proofs.Valued.{heads_of}
use Rattle.mau_reduce.proofs.Candidates.{none_next, one_next, candidate_next, goes_on_after}
use Rattle.mau_reduce.proofs.trying.next_candidate.Goals as goal

pub returns-clause-none : goal.returns-clause-none
returns-clause-none g c = λ hooks B derived. none_next c.args.program.now c.requires.reducible (equation_of c.args.equation.now) c.requires.left c.args.store.now c.next-found.new.store c.args.table.now c.args.term c.requires.term.within.normal c.requires.term.bare c.requires.settled g.L.Lister.with_context c.requires.contexts (g.L.Lister.asked c.args.listing.now) c.requires.asked (g.L.Lister.given c.args.listing.now) hooks B derived c.next-found.result (c.next-found.ensures.next derived.known derived.declared)

pub returns-clause-some : goal.returns-clause-some
returns-clause-some g c = λ hooks B derived. one_next c.args.program.now c.requires.reducible (equation_of c.args.equation.now) c.requires.left c.args.store.now c.next-found.new.store c.args.table.now c.args.term c.requires.term.within.normal c.requires.term.bare c.requires.settled g.L.Lister.with_context c.requires.contexts (g.L.Lister.asked c.args.listing.now) c.requires.asked (g.L.Lister.given c.args.listing.now) hooks B derived c.next-found.result (c.next-found.ensures.next derived.known derived.declared)

pub returns-clause-candidate : goal.returns-clause-candidate
returns-clause-candidate g c = candidate_next c.args.program.now c.requires.reducible (equation_of c.args.equation.now) c.requires.left c.args.store.now c.next-found.new.store c.args.table.now c.args.term c.requires.term.within.normal c.requires.term.bare c.requires.settled g.L.Lister.with_context c.requires.contexts (g.L.Lister.asked c.args.listing.now) c.requires.asked (g.L.Lister.given c.args.listing.now) c.requires.sort_table c.next-found.new.sorts c.next-found.result (c.next-found.ensures.next c.requires.sort_table.known c.requires.sort_table.declared) c.next-found.ensures.solves

pub returns-clause-ready : goal.returns-clause-ready
returns-clause-ready g c =
    goes_on_after g.L.Lister.with_context c.args.program.now.sig c.next-found.new.store c.next-found.new.sorts (g.L.Lister.asked c.next-found.new.self) (g.L.Lister.given c.args.listing.now) (g.L.Lister.given c.next-found.new.self) c.next-found.result
    (subst (λ a. CanGoOn g.L.Lister.with_context c.args.program.now.sig c.next-found.new.store c.next-found.new.sorts a (g.L.Lister.given c.args.listing.now)) (sym c.next-found.ensures.asked)
    (listings_go_on g.L.Lister.with_context c.args.program.now.sig c.args.store.now c.next-found.new.store c.args.table.now c.next-found.new.sorts c.next-found.ensures.extends c.next-found.ensures.kept c.next-found.ensures.over (g.L.Lister.asked c.args.listing.now) (g.L.Lister.given c.args.listing.now) c.requires.ready))
    c.next-found.ensures.given (subst (λ a. IfOk c.next-found.result (λ o. IfSome o (IsGiven g.L.Lister.with_context c.args.program.now.sig c.next-found.new.store c.next-found.new.sorts a))) (sym c.next-found.ensures.asked) c.next-found.ensures.solves)

pub returns-clause-sort_table : goal.returns-clause-sort_table
returns-clause-sort_table g c = table_after c.args.program.now.sig c.args.store.now c.next-found.new.store c.args.table.now c.next-found.new.sorts c.requires.sort_table c.next-found.ensures.over c.next-found.ensures.table c.next-found.ensures.closed

pub returns-clause-derived : goal.returns-clause-derived
returns-clause-derived g c = λ hooks limit derived.
    listings_keep_derived c.args.program.now hooks limit false (heads_of c.args.program.now c.requires.reducible hooks) c.requires.reducible.accepted c.args.store.now c.next-found.new.store c.has_nodes.ensures c.next-found.ensures.extends
    c.args.table.now c.next-found.new.sorts c.next-found.ensures.kept derived (tree_at c.args.store.now (g.L.Lister.asked c.args.listing.now).subject.0) c.next-found.ensures.entries c.next-found.ensures.over (c.next-found.ensures.table derived.known derived.declared) (c.next-found.ensures.closed derived.closed)
