use Rattle.std.proofs.Common.{IfSome, sym, subst}
use Rattle.std.specs.Option.{option_map}
use Rattle.mau_terms.specs.View.{tree_of}
use Rattle.mau_sorts.specs.HasSort.{Known}
use Rattle.std.specs.Prelude.{List, []}
use Rattle.mau_listing.specs.Asked.{asks, question_in, matcher_in, IsTableOf}
use Rattle.mau_listing.specs.Matcher.{Matcher}
use Rattle.mau_api.specs.Answers.{binding_in}
use Rattle.mau_api.specs.Remaining.{AreLeftOf}
use Rattle.mau_deriving.specs.Listing.{IsSorted, GivesNext}
use Rattle.mau_deriving.proofs.ListedAll.{grown_same, IsInLoop, loop_begun, grown_still, loop_on, loop_ends, all_still}
use Rattle.mau_deriving.proofs.listing.all_bindings.Goals as goal

pub returns-in_err-listing-clause-grown : goal.returns-in_err-listing-clause-grown
returns-in_err-listing-clause-grown g c = grown_same c.args.sig.now c.args.store.now c.args.table.now c.args.term.0 c.requires.ready.over

pub loop-init : goal.loop-init
loop-init g c =
    subst (IsInLoop g.L.Lister.with_context c.args.sig.now c.args.store.now c.args.store.now c.args.table.now c.args.table.now (tree_of c.args.pattern.now) c.args.term (g.L.Lister.asked c.in_ok-listing.listing)
    (g.L.Lister.given c.in_ok-listing.listing) (g.L.Lister.is_for c.in_ok-listing.listing c.args.sig.now)) (sym c.new-found.ensures.items)
    (loop_begun g.L.Lister.with_context c.args.sig.now c.args.store.now c.args.table.now (tree_of c.args.pattern.now) c.args.term c.requires.ready (g.L.Lister.asked c.in_ok-listing.listing) c.in_ok-listing.ensures.asked
    (g.L.Lister.given c.in_ok-listing.listing) c.in_ok-listing.ensures.given (g.L.Lister.is_for c.in_ok-listing.listing c.args.sig.now) c.in_ok-listing.ensures.signature)

pub next_binding-requires-clause-listing : goal.next_binding-requires-clause-listing
next_binding-requires-clause-listing g c = c.loop.invariant.listing

pub returns-in_err-binding-clause-grown : goal.returns-in_err-binding-clause-grown
returns-in_err-binding-clause-grown g c =
    grown_still g.L.Lister.with_context c.args.sig.now c.args.store.now c.loop.store c.next_binding.new.store c.args.table.now c.loop.table c.next_binding.new.table (tree_of c.args.pattern.now) c.args.term
    c.requires.ready.askable.subject.there (g.L.Lister.asked c.loop.listing) (g.L.Lister.given c.loop.listing) (g.L.Lister.is_for c.loop.listing c.args.sig.now) c.loop.found.items c.loop.invariant c.next_binding.ensures.grown

pub returns-in_err-push-in-Some-clause-grown : goal.returns-in_err-push-in-Some-clause-grown
returns-in_err-push-in-Some-clause-grown g c =
    grown_still g.L.Lister.with_context c.args.sig.now c.args.store.now c.loop.store c.next_binding.new.store c.args.table.now c.loop.table c.next_binding.new.table (tree_of c.args.pattern.now) c.args.term
    c.requires.ready.askable.subject.there (g.L.Lister.asked c.loop.listing) (g.L.Lister.given c.loop.listing) (g.L.Lister.is_for c.loop.listing c.args.sig.now) c.loop.found.items c.loop.invariant c.next_binding.ensures.grown

pub returns-in-None-clause-grown : goal.returns-in-None-clause-grown
returns-in-None-clause-grown g c =
    grown_still g.L.Lister.with_context c.args.sig.now c.args.store.now c.loop.store c.next_binding.new.store c.args.table.now c.loop.table c.next_binding.new.table (tree_of c.args.pattern.now) c.args.term
    c.requires.ready.askable.subject.there (g.L.Lister.asked c.loop.listing) (g.L.Lister.given c.loop.listing) (g.L.Lister.is_for c.loop.listing c.args.sig.now) c.loop.found.items c.loop.invariant c.next_binding.ensures.grown

pub returns-in-None-clause-sorted : goal.returns-in-None-clause-sorted
returns-in-None-clause-sorted g c =
    all_still g.L.Lister.with_context c.args.sig.now c.args.store.now c.loop.store c.next_binding.new.store c.args.table.now c.loop.table c.next_binding.new.table (tree_of c.args.pattern.now) c.args.term
    c.requires.ready.askable.subject.there (g.L.Lister.asked c.loop.listing) (g.L.Lister.given c.loop.listing) (g.L.Lister.is_for c.loop.listing c.args.sig.now) c.loop.found.items c.loop.invariant c.next_binding.ensures.grown

pub returns-in-None-clause-all : goal.returns-in-None-clause-all
returns-in-None-clause-all g c =
    loop_ends g.L.Lister.with_context c.args.sig.now c.args.store.now c.loop.store c.next_binding.new.store c.args.table.now c.loop.table c.next_binding.new.table (tree_of c.args.pattern.now) c.args.term
    c.requires.ready.askable.subject.there (g.L.Lister.asked c.loop.listing) (g.L.Lister.given c.loop.listing) (g.L.Lister.is_for c.loop.listing c.args.sig.now) c.loop.found.items c.loop.invariant c.next_binding.ensures.grown
    (option_map (matcher_in c.next_binding.new.store) (g.L.Lister.given c.next_binding.new.listing))
    (subst (λ o. (known : Known) (xs : List Matcher) → IsTableOf c.args.sig.now known c.loop.store c.loop.table →
    AreLeftOf g.L.Lister.with_context c.args.sig.now known (question_in c.loop.store (asks (tree_of c.args.pattern.now) [] c.args.term)) (option_map (matcher_in c.loop.store) (g.L.Lister.given c.loop.listing)) xs →
    GivesNext g.L.Lister.with_context c.args.sig.now known (question_in c.loop.store (asks (tree_of c.args.pattern.now) [] c.args.term)) (option_map (binding_in c.next_binding.new.store) o)
    (option_map (matcher_in c.next_binding.new.store) (g.L.Lister.given c.next_binding.new.listing)) xs) c.in-None.is c.in_ok-binding.ensures.next)

pub loop-preserved : goal.loop-preserved
loop-preserved g c =
    subst (IsInLoop g.L.Lister.with_context c.args.sig.now c.args.store.now c.next_binding.new.store c.args.table.now c.next_binding.new.table (tree_of c.args.pattern.now) c.args.term (g.L.Lister.asked c.next_binding.new.listing)
    (g.L.Lister.given c.next_binding.new.listing) (g.L.Lister.is_for c.next_binding.new.listing c.args.sig.now)) (sym c.in_ok-push-in-Some.ensures.items)
    (loop_on g.L.Lister.with_context c.args.sig.now c.args.store.now c.loop.store c.next_binding.new.store c.args.table.now c.loop.table c.next_binding.new.table (tree_of c.args.pattern.now) c.args.term
    c.requires.ready.askable.subject.there (g.L.Lister.asked c.loop.listing) (g.L.Lister.given c.loop.listing) (g.L.Lister.is_for c.loop.listing c.args.sig.now) c.loop.found.items c.loop.invariant c.next_binding.ensures.grown
    c.in-Some.binding (g.L.Lister.given c.next_binding.new.listing)
    (subst (λ o. (known : Known) (xs : List Matcher) → IsTableOf c.args.sig.now known c.loop.store c.loop.table →
    AreLeftOf g.L.Lister.with_context c.args.sig.now known (question_in c.loop.store (asks (tree_of c.args.pattern.now) [] c.args.term)) (option_map (matcher_in c.loop.store) (g.L.Lister.given c.loop.listing)) xs →
    GivesNext g.L.Lister.with_context c.args.sig.now known (question_in c.loop.store (asks (tree_of c.args.pattern.now) [] c.args.term)) (option_map (binding_in c.next_binding.new.store) o)
    (option_map (matcher_in c.next_binding.new.store) (g.L.Lister.given c.next_binding.new.listing)) xs) c.in-Some.is c.in_ok-binding.ensures.next)
    (subst (λ o. IfSome o (IsSorted c.args.sig.now c.next_binding.new.store c.next_binding.new.table (tree_of c.args.pattern.now))) c.in-Some.is c.in_ok-binding.ensures.sorted)
    (g.L.Lister.asked c.next_binding.new.listing) (g.L.Lister.is_for c.next_binding.new.listing c.args.sig.now) c.in_ok-binding.ensures.listing)

pub returns-clause-grown : goal.returns-clause-grown
returns-clause-grown g c = c.loop.invariant.grown
