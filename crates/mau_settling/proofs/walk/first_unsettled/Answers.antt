use Rattle.std.proofs.Common.{List, All, Some, None, sym, ap, ◌∙◌, subst}
use Rattle.std.proofs.lemmas.List.Elements.{All-pop, All-push}
use Rattle.mau_settling.specs.Due.{IsPlaceIn}
use Rattle.mau_settling.specs.declared.walk.Place.{Place}
use Rattle.mau_settling.proofs.Due.{place_begins}
use Rattle.mau_settling.proofs.walk.first_unsettled.Goals.{in-None+else-is_settled+in_ok-push-in-None, in-Some+in_ok-found-in-Some+in_default}
use Rattle.mau_settling.proofs.walk.first_unsettled.Goals as goal

pub returns-in-Some-2-clause-path : goal.returns-in-Some-2-clause-path
returns-in-Some-2-clause-path c =
    let popped = All-pop (IsPlaceIn c.args.store.now c.args.table.now c.args.root.0) c.loop.path.items c.pop.new.self.items (Some c.in-Some.place) c.in-Some.ensures.items c.loop.invariant in
    c.in_ok-found-in-Some.ensures.path c.args.root.0 popped.0 popped.1

pub loop-preserved : goal.loop-preserved
loop-preserved c = elim c.match-pop.branch [
  | in-None+else-is_settled+in_ok-push-in-None w ↦
      subst (λ (zs : List Place). All (IsPlaceIn c.args.store.now c.args.table.now c.args.root.0) zs) (sym (ap (λ (v : _). v.items) w.path-is ∙ w.in_ok-push-in-None.ensures.items))
      (All-push (IsPlaceIn c.args.store.now c.args.table.now c.args.root.0) c.pop.new.self.items _
      (All-pop (IsPlaceIn c.args.store.now c.args.table.now c.args.root.0) c.loop.path.items c.pop.new.self.items None w.in-None.ensures.items c.loop.invariant).0
      (place_begins c.args.store.now c.args.table.now c.args.root.0 c.requires.root))
  | in-Some+in_ok-found-in-Some+in_default w ↦
      let popped = All-pop (IsPlaceIn c.args.store.now c.args.table.now c.args.root.0) c.loop.path.items c.pop.new.self.items (Some w.in-Some.place) w.in-Some.ensures.items c.loop.invariant in
      subst (λ (zs : List Place). All (IsPlaceIn c.args.store.now c.args.table.now c.args.root.0) zs) (sym (ap (λ (v : _). v.items) w.path-is))
      (w.in_ok-found-in-Some.ensures.path c.args.root.0 popped.0 popped.1)
]
