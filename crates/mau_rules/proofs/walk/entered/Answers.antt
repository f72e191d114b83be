use Rattle.std.proofs.Common.{◌+◌, get_or, refl, sym, ◌∙◌, arith}
use Rattle.std.proofs.lemmas.List.{length-map}
use Rattle.std.proofs.lemmas.Option.{slice_get-get_or}
use Rattle.mau_terms.specs.declared.ids.TermId.{TermId}
use Rattle.mau_store.specs.View.{numbers}
use Rattle.mau_reduce.proofs.KindsKept.{under_term}
use Rattle.mau_rules.specs.Walk.{is_frozen_at}
use Rattle.mau_rules.proofs.Walking.{number_there, none_past, frozen_next, entered_next}
use Rattle.mau_rules.proofs.walk.entered.Goals as goal

pub loop-place-init : goal.loop-place-init
loop-place-init c = λ around. refl

pub is_frozen-requires : goal.is_frozen-requires
is_frozen-requires c =
    (under_term c.args.sig.now c.requires.lawful c.args.store.now c.in-App.ensures.nodes c.args.at.term.0 c.in-App.op.0 c.requires.term.bare.0 (numbers c.in-App.args.now) c.in-App.ensures.node
    record { within = c.requires.term.within; bare = c.requires.term.bare.1 }).0.operator

pub returns-then-not-is_frozen-clause-some : goal.returns-then-not-is_frozen-clause-some
returns-then-not-is_frozen-clause-some c = λ around.
    let n = c.loop-place.place in
    let d : TermId = record { 0 = 0 } in
    let there = number_there c.in-App.args.now n (get_or c.in-App.args.now n d) (slice_get-get_or c.in-App.args.now n d c.loop-place-test.true) in
    c.loop-place.invariant around
    ∙ entered_next (is_frozen_at c.args.sig.now) around c.args.store.now c.in-App.ensures.nodes c.args.at.term.0 c.in-App.op.0 (numbers c.in-App.args.now) c.in-App.ensures.node n (get_or c.in-App.args.now n d).0 (n + 1) there (omega arith)
    (sym (c.is_frozen.ensures n (omega arith)) ∙ c.if-not-is_frozen.true)

pub returns-then-not-is_frozen-clause-step : goal.returns-then-not-is_frozen-clause-step
returns-then-not-is_frozen-clause-step c =
    let n = c.loop-place.place in
    let d : TermId = record { 0 = 0 } in
    record {
      operator = c.in-App.op.0;
      ids = numbers c.in-App.args.now;
      at = c.in-App.ensures.node;
      place = n;
      next = omega arith;
      argument = number_there c.in-App.args.now n (get_or c.in-App.args.now n d) (slice_get-get_or c.in-App.args.now n d c.loop-place-test.true);
    }

pub loop-place-preserved : goal.loop-place-preserved
loop-place-preserved c = λ around.
    let n = c.loop-place.place in
    let d : TermId = record { 0 = 0 } in
    let there = number_there c.in-App.args.now n (get_or c.in-App.args.now n d) (slice_get-get_or c.in-App.args.now n d c.loop-place-test.true) in
    c.loop-place.invariant around
    ∙ frozen_next (is_frozen_at c.args.sig.now) around c.args.store.now c.in-App.ensures.nodes c.args.at.term.0 c.in-App.op.0 (numbers c.in-App.args.now) c.in-App.ensures.node n (get_or c.in-App.args.now n d).0 (n + 1) there (omega arith)
    (sym (c.is_frozen.ensures n (omega arith)) ∙ c.if-not-is_frozen.false)

pub returns-after-loop-place-clause-none : goal.returns-after-loop-place-clause-none
returns-after-loop-place-clause-none c = λ around.
    c.loop-place.invariant around
    ∙ none_past (is_frozen_at c.args.sig.now) around c.args.store.now c.in-App.ensures.nodes c.args.at.term.0 c.in-App.op.0 (numbers c.in-App.args.now) c.in-App.ensures.node c.loop-place.place
    (omega (arith, length-map c.in-App.args.now (λ (t : TermId). t.0), c.loop-place-test.false))
