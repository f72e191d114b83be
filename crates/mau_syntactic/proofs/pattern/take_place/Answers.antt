use Rattle.std.proofs.Common.{◌≡◌, Some, slice_get, length, vec_len, rules, eqb-true, refl, sym, ap, ◌∙◌}
use Rattle.std.proofs.lemmas.Option.{slice_get_read, slice_get_past}
use Rattle.mau_syntactic.proofs.Taken.{placed_first, placed_again, other_value, no_value}
use Rattle.mau_syntactic.proofs.pattern.take_place.Goals as goal

pub returns-then-place-len-clause-taken : goal.returns-then-place-len-clause-taken
returns-then-place-len-clause-taken c = λ _.
    let whole : vec_len c.args.values.now ≡ length c.args.values.now.items = search rules in
    placed_first c.args.store.now c.args.place c.args.id c.args.values.now.items c.push.new.self.items (c.if-place-len.true ∙ c.len-2.ensures ∙ whole) c.in_ok-push.ensures.items

value_at_place : (c : goal.After-eq) → slice_get c.args.values.now.items c.args.place ≡ Some c.in-Some.value.now
value_at_place c =
    ap (λ xs. slice_get xs c.args.place) (sym c.deref.ensures.value)
    ∙ slice_get_read c.deref.result.now _ c.args.place c.in-Some.value.now refl c.in-Some.ensures.lookup.3.0 c.in-Some.ensures.lookup.1

pub returns-in-Some-clause-taken : goal.returns-in-Some-clause-taken
returns-in-Some-clause-taken c = λ e.
    placed_again c.args.store.now c.args.place c.args.id c.in-Some.value.now c.args.values.now.items (value_at_place c) (eqb-true c.in-Some.value.now.0 c.args.id.0 (sym c.eq.ensures ∙ e))

pub returns-in-Some-clause-refused : goal.returns-in-Some-clause-refused
returns-in-Some-clause-refused c = λ e.
    let whole : vec_len c.args.values.now ≡ length c.args.values.now.items = search rules in (
      λ k. c.if-place-len.false (k ∙ sym (c.len-2.ensures ∙ whole)),
      other_value c.args.store.now c.len.ensures.nodes c.args.place c.args.id c.in-Some.value.now c.args.values.now.items (value_at_place c) (sym c.eq.ensures ∙ e) c.requires.values c.requires.there,
    )

pub returns-in-None-clause-refused : goal.returns-in-None-clause-refused
returns-in-None-clause-refused c = λ e.
    let whole : vec_len c.args.values.now ≡ length c.args.values.now.items = search rules in (
      λ k. c.if-place-len.false (k ∙ sym (c.len-2.ensures ∙ whole)),
      no_value c.args.store.now c.args.place c.args.values.now.items _
          (ap (λ xs. slice_get xs c.args.place) (sym c.deref.ensures.value) ∙ slice_get_past c.deref.result.now c.args.place c.in-None.ensures.lookup.3),
    )
