use Rattle.std.proofs.Common.{◌≡◌, ◌-◌, ◌+◌, ◌<◌, [], ◌∷◌, length, drop, get_or, sym, ap, ◌∙◌, arith}
use Rattle.std.proofs.lemmas.Option.{slice_get_within, get_or_from_slice_get}
use Rattle.std.proofs.Math.Seq.{drop-length}
use Rattle.mau_strat.specs.declared.configs.Bound.{Bound}
use Rattle.mau_strat.specs.Sharing.{list_at}
use Rattle.mau_stratrun.proofs.Adding.{grows_itself, grows_through, goes_nowhere, goes_through, grown_state, bound_goes, last_part}
use Rattle.mau_stratrun.proofs.cursor.put_values.Goals as goal

pub loop-place-init : goal.loop-place-init
loop-place-init c =
    let whole : length c.args.values.now ≡ length c.args.values.now - 0 = omega arith in
    record {
      id = slice_get_within c.args.interner.now.bindings 0 [] c.requires;
      list = get_or_from_slice_get c.args.interner.now.bindings 0 [] [] c.requires ∙ (sym (drop-length c.args.values.now) ∙ ap (λ n. drop n c.args.values.now) whole);
      grows = grows_itself c.args.interner.now;
      goes = λ g forms term h a. goes_nowhere g forms c.args.interner.now term c.args.values.now h;
    }

pub loop-place-preserved : goal.loop-place-preserved
loop-place-preserved c =
    let none : Bound = record { variable = record { index = 0; sort = 0 }; value = record { 0 = 0 } } in
    let values = c.args.values.now in
    let place = c.loop-place.place in
    let within : place < length values = omega arith in
    let before : length values - 1 - place < length values = omega arith in
    let first = get_or values (length values - 1 - place) none in
    let list = ap (λ xs. first ∷ xs) c.loop-place.invariant.list ∙ last_part values place none within in
    record {
      id = slice_get_within c.add_bound.new.self.bindings c.in_ok-id.id.0 (first ∷ list_at c.loop-place.interner.bindings c.loop-place.id.0) c.in_ok-id.ensures.ok;
      list = get_or_from_slice_get c.add_bound.new.self.bindings c.in_ok-id.id.0 (first ∷ list_at c.loop-place.interner.bindings c.loop-place.id.0) [] c.in_ok-id.ensures.ok ∙ list;
      grows = grows_through c.args.interner.now c.loop-place.interner c.add_bound.new.self c.loop-place.invariant.grows c.add_bound.ensures.grows;
      goes = λ g forms term h a.
          let old = c.loop-place.invariant.goes g forms term h a in
          let state = grown_state g forms c.loop-place.interner c.add_bound.new.self old.state c.add_bound.ensures.grows c.add_bound.ensures.interned (c.add_bound.ensures.within g.terms _ (old.state).within (a (length values - 1 - place) none before)) in
          goes_through g forms c.args.interner.now forms c.loop-place.interner forms c.add_bound.new.self term values old
          (bound_goes g forms c.loop-place.interner c.add_bound.new.self term values (first ∷ list_at c.loop-place.interner.bindings c.loop-place.id.0) (length values - (place + 1)) state c.add_bound.ensures.grows c.add_bound.ensures.adds list);
    }

pub returns-in_err-id-clause-goes : goal.returns-in_err-id-clause-goes
returns-in_err-id-clause-goes c g forms term h a =
    let none : Bound = record { variable = record { index = 0; sort = 0 }; value = record { 0 = 0 } } in
    let values = c.args.values.now in
    let place = c.loop-place.place in
    let within : place < length values = omega arith in
    let before : length values - 1 - place < length values = omega arith in
    let first = get_or values (length values - 1 - place) none in
    let list = ap (λ xs. first ∷ xs) c.loop-place.invariant.list ∙ last_part values place none within in
    let old = c.loop-place.invariant.goes g forms term h a in
    let state = grown_state g forms c.loop-place.interner c.add_bound.new.self old.state c.add_bound.ensures.grows c.add_bound.ensures.interned (c.add_bound.ensures.within g.terms _ (old.state).within (a (length values - 1 - place) none before)) in
    goes_through g forms c.args.interner.now forms c.loop-place.interner forms c.add_bound.new.self term values old
    (bound_goes g forms c.loop-place.interner c.add_bound.new.self term values (first ∷ list_at c.loop-place.interner.bindings c.loop-place.id.0) (length values - (place + 1)) state c.add_bound.ensures.grows c.add_bound.ensures.adds list)
