use Rattle.std.proofs.Common.{◌≡◌, ◌<◌, List, [], All, Contains, length, get_or, false, Some, sym, ap, ◌∙◌, subst}
use Rattle.std.specs.Option.{option_map}
use Rattle.std.proofs.lemmas.List.{get_or_default}
use Rattle.std.proofs.lemmas.List.Elements.{Contains-get_or}
use Rattle.mau_terms.specs.View.{tree_of}
use Rattle.mau_terms.specs.declared.ids.TermId.{TermId}
use Rattle.mau_signature.specs.Signature.{theory_at}
use Rattle.mau_store.specs.View.{numbers}
use Rattle.mau_sorts.specs.Table.{IsSettled}
use Rattle.mau_canon.specs.Standing.{StandWithin}
use Rattle.mau_listing.specs.declared.solution.Solution.{Solution}
use Rattle.mau_listing.specs.Places.{under_all}
use Rattle.mau_listing.specs.Question.{IsSolution}
use Rattle.mau_listing.specs.Next.{matcher_cmp, IsLeastBehind}
use Rattle.mau_listing.specs.Asked.{BySort, IsGiven, question_in, matcher_in}
use Rattle.mau_listing.specs.Finite.{count_left}
use Rattle.mau_plain.specs.Least.{IsLeastOf}
use Rattle.mau_trial.specs.Tried.{IsFor, ArePlacesOf, asked_in, without_context}
use Rattle.mau_plain.specs.Behind.{IsTriedBehind}
use Rattle.mau_trial.proofs.Among.{contains_none}
use Rattle.mau_trial.proofs.AtEach.{each_long}
use Rattle.mau_trial.proofs.Among.{all_one}
use Rattle.mau_plain.proofs.Nexts.{is_given, is_least, leaves_fewer}
use Rattle.mau_plain.proofs.listing.PlainListingLister.next.Goals as goal

pub least_of-requires-clause-each : goal.least_of-requires-clause-each
least_of-requires-clause-each c =
    let s = c.args.sig.now in
    let t = c.args.self.now.trial in
    let tried = subst (All (IsTriedBehind s c.tried_lists.new.store c.tried_lists.new.sorts t c.deref.result.now)) (sym c.deref-3.ensures.value) c.in_ok-tried.ensures.tried in
    λ k d h. each_long (IsFor s.hierarchy c.tried_lists.new.sorts t.bound.items) c.deref.result.now (get_or c.deref-3.result.now k d) (tried k d h).tried.each ∙ ap (λ ps. length ps) (c.deref.ensures.value ∙ sym c.deref-2.ensures.value)

pub returns-in-None-clause-next : goal.returns-in-None-clause-next
returns-in-None-clause-next c = λ known table x is behind.
    let found = c.in_ok-tried.ensures.all known table x is behind in
    contains_none found.0 (subst (λ ls. Contains ls found.0) (sym c.deref-3.ensures.value ∙ c.in-None.ensures.none) found.1)

places_are : (c : goal.After-drop-places-2) → ArePlacesOf c.args.sig.now (tree_of c.args.self.now.trial.pattern) c.in_ok-places.places.items
places_are c = record {
  variables = c.in_ok-places.ensures.variables;
  under = c.in_ok-places.ensures.places;
  operators = c.in_ok-places.ensures.operators;
}

-- the list of the solution's values
abbrev the_list : goal.After-drop-places-2 → List TermId
the_list c = get_or c.in_ok-tried.tried.items c.in-Some.i []

is_there : (c : goal.After-drop-places-2) → Contains c.in_ok-tried.tried.items (the_list c)
is_there c = Contains-get_or c.in_ok-tried.tried.items c.in-Some.i [] (subst (λ ls. c.in-Some.i < length ls) c.deref-3.ensures.value c.in-Some.ensures.some)

solution_is : (c : goal.After-drop-places-2) → c.in_ok-solution-in-Some.solution ≡ without_context (the_list c)
solution_is c =
    c.in_ok-solution-in-Some.ensures
    ∙ ap without_context (c.index.ensures ∙ get_or_default c.in_ok-tried.tried.items c.in-Some.i _ [] (subst (λ ls. c.in-Some.i < length ls) c.deref-3.ensures.value c.in-Some.ensures.some))

tried_is : (c : goal.After-drop-places-2) → IsTriedBehind c.args.sig.now c.tried_lists.new.store c.tried_lists.new.sorts c.args.self.now.trial c.in_ok-places.places.items (the_list c)
tried_is c =
    subst (λ ps. IsTriedBehind c.args.sig.now c.tried_lists.new.store c.tried_lists.new.sorts c.args.self.now.trial ps (the_list c)) c.deref.ensures.value
    (all_one (IsTriedBehind c.args.sig.now c.tried_lists.new.store c.tried_lists.new.sorts c.args.self.now.trial c.deref.result.now) c.in_ok-tried.tried.items (the_list c) c.in_ok-tried.ensures.tried (is_there c))

within_is : (c : goal.After-drop-places-2) → StandWithin (theory_at c.args.sig.now) c.tried_lists.new.store (numbers (the_list c))
within_is c = all_one (λ l. StandWithin (theory_at c.args.sig.now) c.tried_lists.new.store (numbers l)) c.in_ok-tried.tried.items (the_list c) c.in_ok-tried.ensures.within (is_there c)

settled_is : (c : goal.After-drop-places-2) → All (IsSettled c.tried_lists.new.sorts) (numbers (the_list c))
settled_is c = all_one (λ l. All (IsSettled c.tried_lists.new.sorts) (numbers l)) c.in_ok-tried.tried.items (the_list c) c.in_ok-tried.ensures.settled (is_there c)

least_is : (c : goal.After-drop-places-2) → IsLeastOf (theory_at c.args.sig.now) (under_all c.in_ok-places.places.items) c.tried_lists.new.store c.in_ok-tried.tried.items (the_list c)
least_is c =
    subst (λ ls. IsLeastOf (theory_at c.args.sig.now) (under_all c.in_ok-places.places.items) c.tried_lists.new.store ls (get_or ls c.in-Some.i [])) c.deref-3.ensures.value
    (subst (λ ps. IsLeastOf (theory_at c.args.sig.now) (under_all ps) c.tried_lists.new.store c.deref-3.result.now (get_or c.deref-3.result.now c.in-Some.i [])) c.deref-2.ensures.value c.in-Some.ensures.least)

pub returns-clause-next : goal.returns-clause-next
returns-clause-next c = λ known table.
    let s = c.args.sig.now in
    let old = c.args.store.now in
    let new = c.tried_lists.new.store in
    let least =
    is_least s c.is_lawful.ensures.lawful old new c.tried_lists.ensures.extends c.has_nodes.ensures c.args.sorts.now c.tried_lists.new.sorts c.tried_lists.ensures.kept c.tried_lists.ensures.over c.args.self.now.trial c.requires.ready
    c.in_ok-places.places.items (places_are c) (the_list c) (within_is c) (settled_is c) (tried_is c) known (c.tried_lists.ensures.table known table) c.in_ok-tried.tried.items (least_is c)
    (λ x is behind. let found = c.in_ok-tried.ensures.all known table x is behind in (found.0, found.1, found.2)) in
    let t = c.args.self.now.trial in
    subst (λ (x : Solution). IsLeastBehind (IsSolution false s (BySort s known) (question_in old (asked_in t))) (matcher_cmp (theory_at s) (tree_of t.pattern)) (option_map (matcher_in old) t.last) (matcher_in new x)) (sym (solution_is c)) least

pub returns-clause-solves : goal.returns-clause-solves
returns-clause-solves c =
    let s = c.args.sig.now in
    subst (IsGiven false s c.tried_lists.new.store c.tried_lists.new.sorts (asked_in c.args.self.now.trial)) (sym (solution_is c))
    (is_given s c.is_lawful.ensures.lawful c.args.store.now c.tried_lists.new.store c.tried_lists.ensures.extends c.has_nodes.ensures c.args.sorts.now c.tried_lists.new.sorts c.tried_lists.ensures.kept c.tried_lists.ensures.over c.args.self.now.trial c.requires.ready
    c.in_ok-places.places.items (places_are c) (the_list c) (within_is c) (settled_is c) (tried_is c))

pub returns-clause-falls : goal.returns-clause-falls
returns-clause-falls c =
    let s = c.args.sig.now in
    let old = c.args.store.now in
    let new = c.tried_lists.new.store in
    let t = c.args.self.now.trial in
    subst (λ (x : Solution). count_left s new (asked_in t) (Some x) < count_left s old (asked_in t) t.last) (sym (c.in_ok-copy-in-Some.ensures ∙ solution_is c))
    (leaves_fewer s c.is_lawful.ensures.lawful old new c.tried_lists.ensures.extends c.has_nodes.ensures c.args.sorts.now c.tried_lists.new.sorts c.tried_lists.ensures.kept c.tried_lists.ensures.over t c.requires.ready
    c.in_ok-places.places.items (places_are c) (the_list c) (within_is c) (settled_is c) (tried_is c))
