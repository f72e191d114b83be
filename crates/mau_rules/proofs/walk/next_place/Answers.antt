use Rattle.std.proofs.Common.{◌≡◌, ◌++◌, ◌∷◌, [], List, Bool, map, IfOk, IfSome, IfNone, sym, ap, ◌∙◌, subst}
use Rattle.std.proofs.lemmas.List.{map-append}
use Rattle.mau_store.specs.Trees.{tree_at}
use Rattle.mau_evaluation.specs.Rules.{Place, places}
use Rattle.mau_rules.specs.declared.walk.Open.{Open}
use Rattle.mau_rules.specs.Walk.{is_frozen_at, Opened, opened, around_all, below_unless, places_left, IsPath}
use Rattle.mau_rules.proofs.Walking.{left_open}
use Rattle.mau_rules.proofs.Paths.{path_before}
use Rattle.mau_rules.proofs.walk.next_place.Goals as goal

pub returns-then-not-skip-clause-some : goal.returns-then-not-skip-clause-some
returns-then-not-skip-clause-some c = λ around.
    let z = is_frozen_at c.args.sig.now in
    let nodes = c.args.store.now in
    let before = map (opened nodes) c.args.way.now.items in
    let after = map (opened nodes) c.next_from.new.way.items in
    subst (λ (b : Bool). IfOk c.next_from.result (λ o. IfSome o (λ next. below_unless b z (around_all around before) (tree_at nodes c.args.term.0) ++ places_left z around before
    ≡ places z (around_all around after) (tree_at nodes next.0) ++ places_left z around after))) (sym c.if-not-skip.true) (c.next_from.ensures.some around)

pub next_from-requires-in-Some-clause-walk : goal.next_from-requires-in-Some-clause-walk
next_from-requires-in-Some-clause-walk c =
    let w = c.requires.walk in
    let nodes = c.args.store.now in (
      w.0,
      record {
        begins = w.1.begins;
        path = path_before nodes w.0 c.pop.new.self.items c.in-Some.before c.args.term.0 (subst (λ (os : List Open). IsPath nodes w.0 os c.args.term.0) c.in-Some.ensures.items w.1.path);
      },
    )

pub returns-in-Some-clause-some : goal.returns-in-Some-clause-some
returns-in-Some-clause-some c = λ around.
    let z = is_frozen_at c.args.sig.now in
    let nodes = c.args.store.now in
    let before = map (opened nodes) c.args.way.now.items in
    let left = map (opened nodes) c.pop.new.self.items in
    let last = c.in-Some.before in
    let after = map (opened nodes) c.next_from-in-Some.new.way.items in
    let more = ap (map (opened nodes)) c.in-Some.ensures.items ∙ map-append (opened nodes) c.pop.new.self.items (last ∷ []) in
    let whole =
    ap (λ (b : Bool). below_unless b z (around_all around before) (tree_at nodes c.args.term.0) ++ places_left z around before) c.if-not-skip.false
    ∙ (ap (λ (os : List Opened). places_left z around os) more ∙ left_open z around left (tree_at nodes last.term.0) last.next) in
    subst (λ (ps : List Place). IfOk c.next_from-in-Some.result (λ o. IfSome o (λ next. ps ≡ places z (around_all around after) (tree_at nodes next.0) ++ places_left z around after))) (sym whole) (c.next_from-in-Some.ensures.some around)

pub returns-in-Some-clause-none : goal.returns-in-Some-clause-none
returns-in-Some-clause-none c = λ around.
    let z = is_frozen_at c.args.sig.now in
    let nodes = c.args.store.now in
    let before = map (opened nodes) c.args.way.now.items in
    let left = map (opened nodes) c.pop.new.self.items in
    let last = c.in-Some.before in
    let more = ap (map (opened nodes)) c.in-Some.ensures.items ∙ map-append (opened nodes) c.pop.new.self.items (last ∷ []) in
    let whole =
    ap (λ (b : Bool). below_unless b z (around_all around before) (tree_at nodes c.args.term.0) ++ places_left z around before) c.if-not-skip.false
    ∙ (ap (λ (os : List Opened). places_left z around os) more ∙ left_open z around left (tree_at nodes last.term.0) last.next) in
    subst (λ (ps : List Place). IfOk c.next_from-in-Some.result (λ o. IfNone o (ps ≡ []))) (sym whole) (c.next_from-in-Some.ensures.none around)

pub returns-in-Some-clause-path : goal.returns-in-Some-clause-path
returns-in-Some-clause-path c = λ root h.
    let nodes = c.args.store.now in
    c.next_from-in-Some.ensures.path root (path_before nodes root c.pop.new.self.items c.in-Some.before c.args.term.0 (subst (λ (os : List Open). IsPath nodes root os c.args.term.0) c.in-Some.ensures.items h))
