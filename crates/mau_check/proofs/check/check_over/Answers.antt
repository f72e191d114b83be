use Rattle.std.proofs.Common.{◌+◌, take, sym, subst}
use Rattle.std.proofs.lemmas.List.{take_all}
use Rattle.mau_logic.specs.Says.{said, all_said}
use Rattle.mau_logic.specs.Justified.{IsJustified}
use Rattle.mau_check.specs.Said.{IsSaid, AreSaid}
use Rattle.mau_check.proofs.Checked.{said_push, justified_more, first_found, all_justified}
use Rattle.mau_check.proofs.Equals.{are_kept_extended}
use Rattle.mau_check.proofs.Growing.{extends_trans}
use Rattle.mau_check.proofs.HolesFilled.{marks_extended}
use Rattle.mau_check.proofs.check.check_over.Goals as goal

pub decide-requires-clause-kept : goal.decide-requires-clause-kept
decide-requires-clause-kept g c =
    (c.requires.kept.0, are_kept_extended c.args.program.now.sig c.args.store.now c.loop-i.store c.loop-i.invariant.extends c.args.kept.now c.requires.kept.0 c.requires.kept.1)

pub decide-requires-clause-said : goal.decide-requires-clause-said
decide-requires-clause-said g c =
    let before = all_said c.requires.kept.0 (take c.loop-i.i c.args.facts.now) in
    (before, subst (λ xs. AreSaid c.args.program.now.sig c.loop-i.store xs before) (sym c.deref.ensures.value) (c.loop-i.invariant.said c.requires.kept.0 c.requires.kept.1))

pub decide-requires-clause-marks : goal.decide-requires-clause-marks
decide-requires-clause-marks g c = marks_extended c.args.store.now c.loop-i.store c.args.marks.now c.loop-i.invariant.extends c.requires.marks

pub returns-in-Ok-None : goal.returns-in-Ok-None
returns-in-Ok-None g c terms h =
    let p = c.args.program.now in
    let ops = g.N.Natives.operators c.args.natives.now in
    let facts = c.args.facts.now in
    let i = c.loop-i.i in
    let before = all_said terms (take i facts) in
    let kept = are_kept_extended p.sig c.args.store.now c.loop-i.store c.loop-i.invariant.extends c.args.kept.now terms h in
    let told = subst (λ xs. AreSaid p.sig c.loop-i.store xs before) (sym c.deref.ensures.value) (c.loop-i.invariant.said terms h) in
    let none = rw c.in-Ok-None.field-0-is at (c.in-Ok-None.ensures.decided terms before kept told) in
    first_found p ops terms facts i c.index-facts-i.result c.loop-i-test.true (c.loop-i.invariant.justified terms h) (λ j. none (subst (IsJustified p ops terms before) (sym c.index-facts-i.is) j))

pub loop-i-preserved : goal.loop-i-preserved
loop-i-preserved g c =
    let p = c.args.program.now in
    let ops = g.N.Natives.operators c.args.natives.now in
    let facts = c.args.facts.now in
    let i = c.loop-i.i in
    let old = c.loop-i.store in
    let new = c.decide.new.store in
    let one = c.in-Ok-Some.one in
    record {
      extends = extends_trans c.args.store.now old new c.loop-i.invariant.extends c.decide.ensures.extends;
      plain = c.decide.ensures.plain;
      said = λ terms h.
          let before = all_said terms (take i facts) in
          let kept = are_kept_extended p.sig c.args.store.now old c.loop-i.invariant.extends c.args.kept.now terms h in
          let told = subst (λ xs. AreSaid p.sig old xs before) (sym c.deref.ensures.value) (c.loop-i.invariant.said terms h) in
          let found = rw c.in-Ok-Some.field-0-is at (c.in-Ok-Some.ensures.decided terms before kept told) in
          subst (λ xs. AreSaid p.sig new xs (all_said terms (take (i + 1) facts))) (sym c.in_ok-push.ensures.items)
          (said_push p.sig old new c.decide.ensures.extends terms facts i c.index-facts-i.result c.loop-i.said.items one c.loop-i-test.true (c.loop-i.invariant.said terms h)
          (subst (λ f. IsSaid p.sig new one (said terms before f)) c.index-facts-i.is found.1));
      justified = λ terms h.
          let before = all_said terms (take i facts) in
          let kept = are_kept_extended p.sig c.args.store.now old c.loop-i.invariant.extends c.args.kept.now terms h in
          let told = subst (λ xs. AreSaid p.sig old xs before) (sym c.deref.ensures.value) (c.loop-i.invariant.said terms h) in
          let found = rw c.in-Ok-Some.field-0-is at (c.in-Ok-Some.ensures.decided terms before kept told) in
          justified_more p ops terms facts i c.index-facts-i.result c.loop-i-test.true (c.loop-i.invariant.justified terms h) (subst (IsJustified p ops terms before) c.index-facts-i.is found.0);
    }

pub returns : goal.returns
returns g c terms h =
    let p = c.args.program.now in
    let facts = c.args.facts.now in (
      all_justified p (g.N.Natives.operators c.args.natives.now) terms facts c.loop-i.i c.loop-i-test.false (c.loop-i.invariant.justified terms h),
      subst (λ fs. AreSaid p.sig c.loop-i.store c.loop-i.said.items (all_said terms fs)) (take_all c.loop-i.i facts c.loop-i-test.false) (c.loop-i.invariant.said terms h),
    )
