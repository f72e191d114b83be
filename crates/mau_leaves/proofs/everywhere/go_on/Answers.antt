use Rattle.std.proofs.Common.{◌≡◌, ◌++◌, [], List, Option, IfSome, IfNone, true, false, map, refl, sym, ap, ◌∙◌, subst}
use Rattle.mau_evaluation.specs.Rules.{Place, places}
use Rattle.mau_terms.specs.declared.ids.TermId.{TermId}
use Rattle.mau_store.specs.Trees.{tree_at}
use Rattle.mau_rules.specs.Walk.{is_frozen_at, opened, places_left, IsPath}
use Rattle.mau_rules.proofs.Walking.{place_first}
use Rattle.mau_leaves.specs.Everywhere.{around_way, places_after, IsNextPlace}
use Rattle.mau_leaves.specs.declared.top.TopResults.{TopResults}
use Rattle.mau_leaves.proofs.everywhere.go_on.Goals as goal

no : {X : Type 0} → true ≡ false → X
no e = cc

yes : {X : Type 0} → false ≡ true → X
yes e = cc

pub returns-in-Ok-Some-clause-next : goal.returns-in-Ok-Some-clause-next
returns-in-Ok-Some-clause-next g c = λ e.
    let s = c.args.sig.now in
    let nodes = c.args.store.now in
    let way = c.next_place.new.way.items in
    let next = c.in-Ok-Some.next in
    let left = places_left (is_frozen_at s) (λ v. v) (map (opened nodes) way) in
    let found = subst (λ (o : Option TermId). IfSome o (λ n. places_after s nodes c.args.search.now.way.items c.args.search.now.at.place.term.0 ≡ places (is_frozen_at s) (around_way nodes way) (tree_at nodes n.0) ++ left)) c.in-Ok-Some.field-0-is (c.in-Ok-Some.ensures.some (λ v. v)) in
    subst (λ (at : TopResults _). IsNextPlace s nodes c.args.search.now (record { way = c.next_place.new.way; at = at; gone = c.args.search.now.gone })) (sym c.start_top.ensures.stands) (record {
      places = found ∙ ap (λ (ps : List Place). ps ++ left) (place_first (is_frozen_at s) (around_way nodes way) (tree_at nodes next.0));
      begins = refl;
      gone = refl;
    })

pub returns-in-Ok-Some-clause-none : goal.returns-in-Ok-Some-clause-none
returns-in-Ok-Some-clause-none g c = λ e. no e

pub returns-in-Ok-Some-clause-over : goal.returns-in-Ok-Some-clause-over
returns-in-Ok-Some-clause-over g c = λ e. no e

pub returns-in-Ok-Some-clause-path : goal.returns-in-Ok-Some-clause-path
returns-in-Ok-Some-clause-path g c = λ root path e.
    subst (λ (at : TopResults _). IsPath c.args.store.now root c.next_place.new.way.items at.place.term.0) (sym c.start_top.ensures.stands) (subst (λ (o : Option TermId). IfSome o (λ n. IsPath c.args.store.now root c.next_place.new.way.items n.0)) c.in-Ok-Some.field-0-is (c.in-Ok-Some.ensures.path root path))

pub returns-in-Ok-None-clause-next : goal.returns-in-Ok-None-clause-next
returns-in-Ok-None-clause-next g c = λ e. yes e

pub returns-in-Ok-None-clause-none : goal.returns-in-Ok-None-clause-none
returns-in-Ok-None-clause-none g c = λ e.
    subst (λ (o : Option TermId). IfNone o (places_after c.args.sig.now c.args.store.now c.args.search.now.way.items c.args.search.now.at.place.term.0 ≡ [])) c.in-Ok-None.field-0-is (c.in-Ok-None.ensures.none (λ v. v))

pub returns-in-Ok-None-clause-path : goal.returns-in-Ok-None-clause-path
returns-in-Ok-None-clause-path g c = λ root path e. yes e

pub returns-in-Ok-None-clause-over : goal.returns-in-Ok-None-clause-over
returns-in-Ok-None-clause-over g c = λ e. (refl, refl)
