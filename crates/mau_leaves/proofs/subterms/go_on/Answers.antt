use Rattle.std.proofs.Common.{◌≡◌, ◌++◌, ◌∷◌, [], ℕ, Bool, All, Option, IfSome, IfNone, sym, ap, ◌∙◌, subst}
use Rattle.std.proofs.lemmas.List.Elements.{All-push, All-pop}
use Rattle.mau_terms.specs.declared.ids.TermId.{TermId}
use Rattle.mau_store.specs.Trees.{tree_at}
use Rattle.mau_rules.specs.declared.walk.Open.{Open}
use Rattle.mau_rules.specs.Walk.{IsStep}
use Rattle.mau_leaves.specs.Subterms.{subterms, subterms_from, terms_after, IsOpenSubject, IsSpot}
use Rattle.mau_leaves.proofs.Subtrees.{after_entered, after_left, argument_subject}
use Rattle.mau_leaves.proofs.SubtermTurns.{enters_spot, leaves_spot}
use Rattle.mau_leaves.proofs.subterms.go_on.Goals as goal

pub returns-in-Ok-clause-turn : goal.returns-in-Ok-clause-turn
returns-in-Ok-clause-turn g c = λ p hooks rule b.
    let s = c.args.search.now in
    let nodes = c.args.store.now in
    let from = c.args.from in
    let t = tree_at nodes from.term.0 in
    let o : Open = record { term = from.term; next = c.in-Some.next } in
    let child = c.in-Some.child in
    let u = tree_at nodes child.0 in
    let next = c.push.new.self.items in
    let parts = subst (λ (x : Option (ℕ × TermId)). IfSome x (λ y. subterms_from t from.next ≡ subterms (tree_at nodes y.1.0) ++ subterms_from t y.0)) c.in-Some.is c.next_argument.ensures.some in
    let whole = after_entered nodes s.way.items t from.next o next u parts c.in-Ok.ensures.items in
    let below = c.if-not-search.false in
    let same = ap (λ (w : Bool). terms_after w nodes s.way.items t from.next) below ∙ (whole ∙ ap (λ (w : Bool). u ∷ terms_after w nodes next u 0) (sym below)) in
    enters_spot g.L.Lister.asked g.L.Lister.given p hooks rule s.whole s.bound.items nodes s.below s.way.items from s.spot c.requires.at next child same

pub returns-in-Ok-clause-subterms : goal.returns-in-Ok-clause-subterms
returns-in-Ok-clause-subterms g c = λ w p m rule table lawful h.
    let s = c.args.search.now in
    let nodes = c.args.store.now in
    let o : Open = record { term = c.args.from.term; next = c.in-Some.next } in
    let child = c.in-Some.child in
    let step = subst (λ (x : Option (ℕ × TermId)). IfSome x (λ y. IsStep nodes (record { term = c.args.from.term; next = y.0 }) y.1.0)) c.in-Some.is c.next_argument.ensures.step in
    let at = subst (IsSpot g.L.Lister.asked g.L.Lister.given g.L.Lister.is_for w p m rule s.bound.items nodes table) c.requires.at h.spot in
    record {
      usable = h.usable;
      values = h.values;
      spot = argument_subject p.sig lawful nodes c.next_argument.ensures.nodes table o child.0 step at;
      way = subst (All (IsOpenSubject p.sig nodes table)) (sym c.in-Ok.ensures.items) (All-push (IsOpenSubject p.sig nodes table) s.way.items o h.way at);
    }

pub returns-in-Some-pop-clause-turn : goal.returns-in-Some-pop-clause-turn
returns-in-Some-pop-clause-turn g c = λ p hooks rule b.
    let s = c.args.search.now in
    let nodes = c.args.store.now in
    let from = c.args.from in
    let t = tree_at nodes from.term.0 in
    let around = c.in-Some-pop.around in
    let next = c.pop.new.self.items in
    let none = subst (λ (x : Option (ℕ × TermId)). IfNone x (subterms_from t from.next ≡ [])) c.in-None.is c.next_argument.ensures.none in
    let whole = after_left nodes s.way.items t from.next around next none c.in-Some-pop.ensures.items in
    let below = c.if-not-search.false in
    let same = ap (λ (w : Bool). terms_after w nodes s.way.items t from.next) below ∙ (whole ∙ ap (λ (w : Bool). terms_after w nodes next (tree_at nodes around.term.0) around.next) (sym below)) in
    leaves_spot g.L.Lister.asked g.L.Lister.given p hooks rule s.whole s.bound.items nodes s.below s.way.items from s.spot c.requires.at next around same

pub returns-in-Some-pop-clause-subterms : goal.returns-in-Some-pop-clause-subterms
returns-in-Some-pop-clause-subterms g c = λ w p m rule table lawful h.
    let s = c.args.search.now in
    let parts = All-pop (IsOpenSubject p.sig c.args.store.now table) s.way.items c.pop.new.self.items c.pop.result c.pop.ensures.items h.way in
    record {
      usable = h.usable;
      values = h.values;
      spot = subst (λ (x : Option Open). IfSome x (IsOpenSubject p.sig c.args.store.now table)) c.in-Some-pop.is parts.1;
      way = parts.0;
    }
