use Rattle.std.proofs.Common.{◌≡◌, List, [], map, true, false, None, sym, ◌∙◌}
use Rattle.mau_terms.specs.View.{tree_of}
use Rattle.mau_sorts.specs.HasSort.{Known}
use Rattle.mau_listing.specs.Asked.{asks, question_in, IsTableOf}
use Rattle.mau_listing.specs.Matcher.{Matcher}
use Rattle.mau_api.specs.Answers.{binding_in}
use Rattle.mau_api.specs.Remaining.{AreLeftOf}
use Rattle.mau_deriving.specs.Listing.{bound_by}
use Rattle.mau_deriving.proofs.Lawful.{bare_one, plain_one}
use Rattle.mau_deriving.proofs.Asked.{can_list, only_store, listing_asks, constant_asks, constant_sorted, ok_inside, ok_both}
use Rattle.mau_deriving.proofs.questions.questions.Goals as goal

pub is_constant-requires : goal.is_constant-requires
is_constant-requires g c = c.requires.asked.term.within.there

pub of_constant-requires-clause-head : goal.of_constant-requires-clause-head
of_constant-requires-clause-head g c = bare_one c.args.program.now c.requires.lawful c.requires.signature c.args.at c.args.membership.now c.requires.there

pub of_constant-requires-clause-term : goal.of_constant-requires-clause-term
of_constant-requires-clause-term g c = c.requires.asked.term.within

pub returns-then-is_constant-clause-asks : goal.returns-then-is_constant-clause-asks
returns-then-is_constant-clause-asks g c = λ hooks limit f ts d e.
    ok_both c.of_constant.result _ _ _
    (λ found same other. constant_asks c.args.program.now c.requires.lawful c.requires.signature c.args.at c.args.membership.now c.requires.there c.args.store.now c.of_constant.new.store c.args.table.now c.args.table.now c.args.term
    c.requires.asked (c.is_constant.ensures.0 c.if-is_constant.true) found.items same other hooks limit f ts e)
    c.of_constant.ensures.same c.of_constant.ensures.other

pub returns-then-is_constant-clause-sorted : goal.returns-then-is_constant-clause-sorted
returns-then-is_constant-clause-sorted g c =
    ok_both c.of_constant.result _ _ _
    (λ found same other. constant_sorted c.args.program.now c.requires.lawful c.requires.signature c.args.at c.args.membership.now c.requires.there c.args.store.now c.of_constant.new.store c.args.table.now c.args.table.now c.args.term
    c.requires.asked (c.is_constant.ensures.0 c.if-is_constant.true) found.items same other)
    c.of_constant.ensures.same c.of_constant.ensures.other

pub returns-then-is_constant-clause-grown : goal.returns-then-is_constant-clause-grown
returns-then-is_constant-clause-grown g c = only_store c.args.program.now.sig c.args.store.now c.of_constant.new.store c.args.table.now c.args.term.0 c.of_constant.ensures.extends c.requires.asked.over

pub all_bindings-requires-clause-pattern : goal.all_bindings-requires-clause-pattern
all_bindings-requires-clause-pattern g c = bare_one c.args.program.now c.requires.lawful c.requires.signature c.args.at c.args.membership.now c.requires.there

pub all_bindings-requires-clause-ready : goal.all_bindings-requires-clause-ready
all_bindings-requires-clause-ready g c =
    can_list g.L.Lister.with_context c.args.program.now.sig c.args.store.now c.args.table.now c.args.term c.requires.asked
    (λ k. let e : true ≡ false = sym (c.is_constant.ensures.1 k) ∙ c.if-is_constant.false in absurd (cc)) (tree_of c.args.membership.now.left)
    (bare_one c.args.program.now c.requires.lawful c.requires.signature c.args.at c.args.membership.now c.requires.there)
    (plain_one c.args.program.now c.requires.lawful c.requires.signature c.args.at c.args.membership.now c.requires.there)

pub returns-clause-asks : goal.returns-clause-asks
returns-clause-asks g c = λ hooks limit f ts d e.
    ok_inside Known (List Matcher) (λ known xs. IsTableOf c.args.program.now.sig known c.args.store.now c.args.table.now)
    (λ known xs. AreLeftOf g.L.Lister.with_context c.args.program.now.sig known (question_in c.args.store.now (asks (tree_of c.args.membership.now.left) [] c.args.term)) None xs)
    c.all_bindings.result (λ found known xs. map (binding_in c.all_bindings.new.store) found.items ≡ map (bound_by (tree_of c.args.membership.now.left)) xs) _
    (λ found all. listing_asks c.args.program.now c.requires.lawful c.requires.signature c.args.at c.args.membership.now c.requires.there c.args.store.now c.all_bindings.new.store c.args.table.now c.args.table.now c.args.term
    c.requires.asked (λ k. let e : true ≡ false = sym (c.is_constant.ensures.1 k) ∙ c.if-is_constant.false in absurd (cc)) g.L.Lister.with_context g.met.L.WholeLister.whole found.items all hooks limit f ts d e)
    c.all_bindings.ensures.all

pub returns-clause-sorted : goal.returns-clause-sorted
returns-clause-sorted g c = c.all_bindings.ensures.sorted

pub returns-clause-grown : goal.returns-clause-grown
returns-clause-grown g c = c.all_bindings.ensures.grown
