use Rattle.std.proofs.Common.{◌≡◌, ◌∷◌, ◌++◌, [], None, refl, rules}
use Rattle.mau_stratrun.proofs.Settled.{same_kept, is_defined, term_below, values_below, facts_now, kept_now, begins_now, settled_now}
use Rattle.mau_stratrun.proofs.cursor.settle.Goals as goal

pub enter_yield-requires-clause-empty : goal.enter_yield-requires-clause-empty
enter_yield-requires-clause-empty g c = ((c.requires.facts.1).state).no_values

pub enter_yield-requires-clause-defined : goal.enter_yield-requires-clause-defined
enter_yield-requires-clause-defined g c =
    is_defined (g.X.Leaves.world c.args.leaves.now) (g.met.X.Leaves.laws c.args.leaves.now c.requires.ready) c.requires.facts.0 c.args.interner.now c.args.bodies.now c.args.kept.now c.requires.facts.1 c.requires.facts.2 c.in-Some.yielded c.in-Some.is c.args.config c.requires.config

pub returns-in-Err : goal.returns-in-Err
returns-in-Err g c = record {
  settled = λ forms h k.
      let below = term_below (g.X.Leaves.world c.args.leaves.now) (g.met.X.Leaves.laws c.args.leaves.now c.requires.ready) forms c.args.interner.now c.args.bodies.now c.args.kept.now h k c.in-Some.yielded c.in-Some.is c.args.config c.requires.config in
      let values = values_below (g.X.Leaves.world c.args.leaves.now) (g.met.X.Leaves.laws c.args.leaves.now c.requires.ready) forms c.args.interner.now c.args.bodies.now c.args.kept.now h k c.in-Some.yielded c.in-Some.is c.args.config c.requires.config in
      let m = c.enter_yield.ensures.goes (g.X.Leaves.world c.args.leaves.now).setting forms h.state h.has_bodies below values in
      record { facts = facts_now (g.X.Leaves.world c.args.leaves.now) (g.met.X.Leaves.laws c.args.leaves.now c.requires.ready) forms c.args.interner.now c.args.bodies.now c.args.kept.now h k c.in-Some.yielded c.in-Some.is c.args.config c.requires.config c.enter_yield.new.interner m; grows = m.grows; kept = kept_now (g.X.Leaves.world c.args.leaves.now) (g.met.X.Leaves.laws c.args.leaves.now c.requires.ready) forms c.args.interner.now c.args.bodies.now c.args.kept.now h k c.in-Some.yielded c.in-Some.is c.args.config c.requires.config c.enter_yield.new.interner m; same = refl; settled = tt };
}

pub returns-then-is_err : goal.returns-then-is_err
returns-then-is_err g c = record {
  settled = λ forms h k.
      let below = term_below (g.X.Leaves.world c.args.leaves.now) (g.met.X.Leaves.laws c.args.leaves.now c.requires.ready) forms c.args.interner.now c.args.bodies.now c.args.kept.now h k c.in-Some.yielded c.in-Some.is c.args.config c.requires.config in
      let values = values_below (g.X.Leaves.world c.args.leaves.now) (g.met.X.Leaves.laws c.args.leaves.now c.requires.ready) forms c.args.interner.now c.args.bodies.now c.args.kept.now h k c.in-Some.yielded c.in-Some.is c.args.config c.requires.config in
      let m = c.enter_yield.ensures.goes (g.X.Leaves.world c.args.leaves.now).setting forms h.state h.has_bodies below values in
      let items : c.push.new.self.items ≡ c.args.kept.now.given.items = search rules in
      record {
        facts = facts_now (g.X.Leaves.world c.args.leaves.now) (g.met.X.Leaves.laws c.args.leaves.now c.requires.ready) forms c.args.interner.now c.args.bodies.now c.args.kept.now h k c.in-Some.yielded c.in-Some.is c.args.config c.requires.config c.enter_yield.new.interner m;
        grows = m.grows;
        kept = same_kept (g.X.Leaves.world c.args.leaves.now) forms c.enter_yield.new.interner c.args.kept.now (record { config = c.args.kept.now.config; given = c.push.new.self; pending = c.args.kept.now.pending; cursor = c.args.kept.now.cursor }) refl items refl refl
            (kept_now (g.X.Leaves.world c.args.leaves.now) (g.met.X.Leaves.laws c.args.leaves.now c.requires.ready) forms c.args.interner.now c.args.bodies.now c.args.kept.now h k c.in-Some.yielded c.in-Some.is c.args.config c.requires.config c.enter_yield.new.interner m);
        same = refl;
        settled = tt;
      };
}

pub returns : goal.returns
returns g c = record {
  settled = λ forms h k.
      let below = term_below (g.X.Leaves.world c.args.leaves.now) (g.met.X.Leaves.laws c.args.leaves.now c.requires.ready) forms c.args.interner.now c.args.bodies.now c.args.kept.now h k c.in-Some.yielded c.in-Some.is c.args.config c.requires.config in
      let values = values_below (g.X.Leaves.world c.args.leaves.now) (g.met.X.Leaves.laws c.args.leaves.now c.requires.ready) forms c.args.interner.now c.args.bodies.now c.args.kept.now h k c.in-Some.yielded c.in-Some.is c.args.config c.requires.config in
      let m = c.enter_yield.ensures.goes (g.X.Leaves.world c.args.leaves.now).setting forms h.state h.has_bodies below values in
      let items : c.push.new.self.items ≡ c.args.kept.now.given.items ++ c.in-Ok.number ∷ [] = search rules in
      let q = c.in-Ok.ensures.config (g.X.Leaves.world c.args.leaves.now).setting forms h.state h.has_bodies below values in
      record {
        facts = facts_now (g.X.Leaves.world c.args.leaves.now) (g.met.X.Leaves.laws c.args.leaves.now c.requires.ready) forms c.args.interner.now c.args.bodies.now c.args.kept.now h k c.in-Some.yielded c.in-Some.is c.args.config c.requires.config c.enter_yield.new.interner m;
        grows = m.grows;
        kept = settled_now (g.X.Leaves.world c.args.leaves.now) (g.met.X.Leaves.laws c.args.leaves.now c.requires.ready) forms c.args.interner.now c.args.bodies.now c.args.kept.now h k c.in-Some.yielded c.in-Some.is c.args.config c.requires.config c.enter_yield.new.interner m c.args.own c.args.rest.0 c.in-Ok.number c.requires.parts c.in-Ok.ensures.number q
            (record { config = c.args.kept.now.config; given = c.push.new.self; pending = None; cursor = c.args.kept.now.cursor }) refl items refl refl;
        same = refl;
        settled = (c.in-Ok.ensures.number, begins_now (g.X.Leaves.world c.args.leaves.now) (g.met.X.Leaves.laws c.args.leaves.now c.requires.ready) forms c.args.interner.now c.args.bodies.now c.args.kept.now h k c.in-Some.yielded c.in-Some.is c.args.config c.requires.config c.enter_yield.new.interner m c.args.own c.args.rest.0 c.in-Ok.number c.requires.parts c.in-Ok.ensures.number q);
      };
}
