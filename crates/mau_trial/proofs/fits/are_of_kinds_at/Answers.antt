use Rattle.std.proofs.Common.{◌≡◌, length, take, add-one, sym, subst, arith, rules}
use Rattle.mau_signature.specs.Signature.{theory_at}
use Rattle.mau_canon.proofs.Standing.{stand_at}
use Rattle.mau_trial.specs.Tried.{HoldsAtEach, IsOfKindAt}
use Rattle.mau_trial.proofs.OfKind.{take_whole}
use Rattle.mau_trial.proofs.AtEach.{each_more, each_at, each_long}
use Rattle.mau_trial.proofs.fits.are_of_kinds_at.Goals as goal

pub returns-then-values-places : goal.returns-then-values-places
returns-then-values-places c = (
  λ h. absurd (search rules),
  λ all.
      let e : length c.args.values.now ≡ length c.args.places.now = each_long (IsOfKindAt c.args.sig.now c.args.store.now) c.args.places.now c.args.values.now all in
      absurd (search rules),
)

pub is_of_kind_at-requires-clause-value : goal.is_of_kind_at-requires-clause-value
is_of_kind_at-requires-clause-value c = stand_at (theory_at c.args.sig.now) c.args.store.now c.args.values.now c.loop-i.i (record { 0 = 0 }) (omega arith) c.requires.values

pub returns-then-not-is_of_kind_at : goal.returns-then-not-is_of_kind_at
returns-then-not-is_of_kind_at c = (
  λ h. absurd (search rules),
  λ all.
      let one = c.is_of_kind_at.ensures.1 (each_at (IsOfKindAt c.args.sig.now c.args.store.now) c.args.places.now c.args.values.now c.loop-i.i _ _ c.loop-i-test.true all) in
      absurd (search rules),
)

pub loop-i-preserved : goal.loop-i-preserved
loop-i-preserved c =
    let R = IsOfKindAt c.args.sig.now c.args.store.now in
    subst (λ n. HoldsAtEach R (take n c.args.places.now) (take n c.args.values.now)) (sym (add-one c.loop-i.i))
    (each_more R c.args.places.now c.args.values.now c.loop-i.i _ _ c.loop-i-test.true (omega arith) c.loop-i.invariant (c.is_of_kind_at.ensures.0 (search rules)))

pub returns : goal.returns
returns c =
    let R = IsOfKindAt c.args.sig.now c.args.store.now in (
      λ h.
          subst (λ ps. HoldsAtEach R ps c.args.values.now) (take_whole c.args.places.now c.loop-i.i (omega arith))
          (subst (HoldsAtEach R (take c.loop-i.i c.args.places.now)) (take_whole c.args.values.now c.loop-i.i (omega arith)) c.loop-i.invariant),
      λ all. search rules,
    )
