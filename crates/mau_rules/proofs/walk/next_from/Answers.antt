use Rattle.std.proofs.Common.{◌≡◌, ◌++◌, ◌∷◌, [], ℕ, List, map, Option, IfSome, sym, ap, ◌∙◌, subst}
use Rattle.std.proofs.lemmas.List.{map-append}
use Rattle.mau_terms.specs.declared.ids.TermId.{TermId}
use Rattle.mau_store.specs.Trees.{tree_at}
use Rattle.mau_evaluation.specs.Rules.{Place, places}
use Rattle.mau_rules.specs.declared.walk.Open.{Open}
use Rattle.mau_rules.specs.Walk.{is_frozen_at, Opened, opened, around_last, around_all, places_behind, places_left, IsStep, IsPath}
use Rattle.mau_rules.proofs.Walking.{left_open, open_more}
use Rattle.mau_rules.proofs.Paths.{path_on, path_before, path_term}
use Rattle.mau_rules.proofs.walk.next_from.Goals as goal

pub entered-requires-clause-term : goal.entered-requires-clause-term
entered-requires-clause-term c =
    let w = c.requires.walk in
    path_term c.args.sig.now c.requires.lawful c.args.store.now c.len.ensures.nodes w.0 c.loop-next.way.items c.loop-next.top.term.0 w.1.begins (c.loop-next.invariant.path w.0 w.1.path)

pub returns-in-Some-clause-some : goal.returns-in-Some-clause-some
returns-in-Some-clause-some c = λ around.
    let z = is_frozen_at c.args.sig.now in
    let nodes = c.args.store.now in
    let os = map (opened nodes) c.loop-next.way.items in
    let t = tree_at nodes c.loop-next.top.term.0 in
    let found = subst (λ (o : Option (ℕ × TermId)). IfSome o (λ x. places_behind z (around_all around os) t c.loop-next.top.next
    ≡ places z (around_last (around_all around os) t x.0) (tree_at nodes x.1.0) ++ places_behind z (around_all around os) t x.0)) c.in-Some.is (c.entered.ensures.some (around_all around os)) in
    let more = ap (map (opened nodes)) c.in_ok-push.ensures.items ∙ map-append (opened nodes) c.loop-next.way.items (record { term = c.loop-next.top.term; next = c.in-Some.next } ∷ []) in
    c.loop-next.invariant.rest around
    ∙ (ap (λ (ps : List Place). ps ++ places_left z around os) found
    ∙ (open_more z around os t c.in-Some.next (tree_at nodes c.in-Some.child.0)
    ∙ ap (λ (ps : List Opened). places z (around_all around ps) (tree_at nodes c.in-Some.child.0) ++ places_left z around ps) (sym more)))

pub returns-in-Some-clause-path : goal.returns-in-Some-clause-path
returns-in-Some-clause-path c = λ root h.
    let nodes = c.args.store.now in
    let o : Open = record { term = c.loop-next.top.term; next = c.in-Some.next } in
    let step = subst (λ (x : Option (ℕ × TermId)). IfSome x (λ y. IsStep nodes (record { term = c.loop-next.top.term; next = y.0 }) y.1.0)) c.in-Some.is c.entered.ensures.step in
    subst (λ (os : List Open). IsPath nodes root os c.in-Some.child.0) (sym c.in_ok-push.ensures.items) (path_on nodes root c.loop-next.way.items o c.in-Some.child.0 (c.loop-next.invariant.path root h) step)

pub loop-next-preserved : goal.loop-next-preserved
loop-next-preserved c =
    let z = is_frozen_at c.args.sig.now in
    let nodes = c.args.store.now in
    let before = c.in-Some-pop.before in
    let left = c.pop.new.self.items in
    let items : c.loop-next.way.items ≡ left ++ before ∷ [] = c.in-Some-pop.ensures.items in
    let more = ap (map (opened nodes)) items ∙ map-append (opened nodes) left (before ∷ []) in
    record {
      path = λ root h. path_before nodes root left before c.loop-next.top.term.0 (subst (λ (os : List Open). IsPath nodes root os c.loop-next.top.term.0) items (c.loop-next.invariant.path root h));
      rest = λ around.
          let os = map (opened nodes) c.loop-next.way.items in
          c.loop-next.invariant.rest around
          ∙ (ap (λ (ps : List Place). ps ++ places_left z around os) (c.in_default.ensures.none (around_all around os))
          ∙ (ap (λ (ps : List Opened). places_left z around ps) more ∙ left_open z around (map (opened nodes) left) (tree_at nodes before.term.0) before.next));
    }
