use Rattle.std.proofs.Common.{◌≡◌, ◌<◌, [], ◌∷◌, ◌++◌, length, replicate, sym, ◌∙◌, ap, inl, inr, ⊎_elim, subst}
use Rattle.mau_signature.specs.declared.decl.Decl.{Decl}
use Rattle.std.specs.Prelude.{Some, slice_index_or}
use Rattle.mau_signature.specs.Keys.{operator_of_key}
use Rattle.mau_signature.specs.Faults.{Given, HasSorts}
use Rattle.mau_signature.proofs.Grouped.{IsGrouped, found-key, held_within, at_group, own_group, judged, one_grouped, none_grouped, same_read}
use Rattle.mau_signature.proofs.build.group_all.Goals as goal

pub loop-decl-init : goal.loop-decl-init
loop-decl-init c =
    let g : Given = record { hierarchy = c.args.poset.now; declarations = c.args.decls.items; numerals = c.args.numerals } in
    subst (λ rest. IsGrouped g c.args.names.now [] c.in_ok-groups.groups.items 0 rest) (sym c.into_iter-decl-iterator.ensures.into_iter_gives.0)
    (none_grouped g c.args.names.now c.in_ok-groups.groups.items (c.in_ok-groups.ensures ∙ ap (λ n. replicate n []) c.len.ensures.counted))

pub unreachable-requires : goal.unreachable-requires
unreachable-requires c =
    let whole = c.loop-decl.invariant.whole ∙ ap (λ r. c.loop-decl.yielded ++ r) c.in-Some.ensures.steps.0 in
    let e = c.in-None-place.ensures.found
    ∙ found-key c.args.poset.now c.loop-decl.yielded c.in-Some.decl c.next.new.self.rest.items c.args.decls.items c.args.names.now (operator_of_key c.in_ok-key.key) whole c.requires.names c.in_ok-key.ensures in
    cc

pub judge-requires-clause-earlier : goal.judge-requires-clause-earlier
judge-requires-clause-earlier c =
    let g : Given = record { hierarchy = c.args.poset.now; declarations = c.args.decls.items; numerals = c.args.numerals } in
    at_group (λ ds. (k : _) (d : Decl) → k < length ds → HasSorts c.args.poset.now (slice_index_or ds k d)) c.loop-decl.groups.items c.in-Some-place.place c.index.result.now c.loop-decl.invariant.sorts
    (held_within g c.args.names.now c.loop-decl.yielded c.loop-decl.groups.items c.loop-decl.number c.loop-decl.decl-iterator.rest.items c.in-Some-place.place c.loop-decl.invariant c.in-Some-place.ensures.within)
    c.index.ensures

pub returns-in-Err-clause-fault : goal.returns-in-Err-clause-fault
returns-in-Err-clause-fault c =
    let g : Given = record { hierarchy = c.args.poset.now; declarations = c.args.decls.items; numerals = c.args.numerals } in
    let whole = c.loop-decl.invariant.whole ∙ ap (λ r. c.loop-decl.yielded ++ r) c.in-Some.ensures.steps.0 in
    let among = found-key c.args.poset.now c.loop-decl.yielded c.in-Some.decl c.next.new.self.rest.items c.args.decls.items c.args.names.now (operator_of_key c.in_ok-key.key) whole c.requires.names c.in_ok-key.ensures in
    let own = own_group g c.args.names.now c.loop-decl.yielded c.loop-decl.groups.items c.loop-decl.number c.loop-decl.decl-iterator.rest.items c.in-Some.decl (operator_of_key c.in_ok-key.key) c.in-Some-place.place c.index.result.now
    c.loop-decl.invariant among c.in_ok-key.ensures c.in-Some-place.ensures.value c.index.ensures in
    ⊎_elim
    (λ memory. inl memory)
    (λ fault. inr (record {
      before = c.loop-decl.yielded;
      declaration = c.in-Some.decl;
      after = c.next.new.self.rest.items;
      declared = whole;
      faultless = c.loop-decl.invariant.faultless;
      first = judged g c.args.names.now c.loop-decl.yielded c.loop-decl.groups.items c.loop-decl.number c.loop-decl.decl-iterator.rest.items c.in-Some.decl c.index.result.now (Some c.in-Err.fault)
          c.loop-decl.invariant c.requires.names own fault;
    }))
    c.in-Err.ensures.fault

pub loop-decl-preserved : goal.loop-decl-preserved
loop-decl-preserved c =
    let g : Given = record { hierarchy = c.args.poset.now; declarations = c.args.decls.items; numerals = c.args.numerals } in
    let same : c.index_mut.result.now ≡ c.index.result.now =
    same_read c.loop-decl.groups.items c.in-Some-place.place c.index_mut.result.now c.index.result.now
    (held_within g c.args.names.now c.loop-decl.yielded c.loop-decl.groups.items c.loop-decl.number c.loop-decl.decl-iterator.rest.items c.in-Some-place.place c.loop-decl.invariant c.in-Some-place.ensures.within)
    c.index_mut.ensures.value c.index.ensures in
    one_grouped g c.args.names.now c.loop-decl.yielded c.loop-decl.groups.items c.loop-decl.number c.loop-decl.decl-iterator.rest.items c.next.new.self.rest.items c.in-Some.decl
    (operator_of_key c.in_ok-key.key) c.in-Some-place.place c.index.result.now c.add.new.self
    c.loop-decl.invariant c.len.ensures.distinct c.requires.names c.requires.sorts c.in-Some.ensures.steps.0 c.in_ok-key.ensures c.in-Some-place.ensures.value c.in-Some-place.ensures.within
    c.index.ensures (c.in_ok-add.ensures ∙ ap (λ ds. ds ++ c.in-Some.decl ∷ []) same) c.in-Ok.ensures.faultless
