use Rattle.std.proofs.Common.{◌≡◌, [], length, take, add-one, sym, subst, arith, rules}
use Rattle.mau_terms.specs.declared.ids.VarId.{VarId}
use Rattle.mau_terms.specs.declared.ids.TermId.{TermId}
use Rattle.mau_trial.specs.Tried.{HoldsAtEach, IsFor}
use Rattle.mau_trial.proofs.OfKind.{take_whole}
use Rattle.mau_trial.proofs.AtEach.{each_more, each_at, each_long}
use Rattle.mau_syntactic.specs.Sorted.{as_place}
use Rattle.mau_syntactic.proofs.solution.have_sorts.Goals as goal

pub returns-then-values-variables : goal.returns-then-values-variables
returns-then-values-variables c = (
  λ h. absurd (search rules),
  λ all.
      let R : VarId → TermId → Type 0 = λ x v. IsFor c.args.sig.now.hierarchy c.args.sorts.now [] (as_place x) v in
      let e : length c.args.values.now ≡ length c.args.variables.now = each_long R c.args.variables.now c.args.values.now all in
      absurd (search rules),
)

pub returns-then-not-is_for : goal.returns-then-not-is_for
returns-then-not-is_for c = (
  λ h. absurd (search rules),
  λ all.
      let R : VarId → TermId → Type 0 = λ x v. IsFor c.args.sig.now.hierarchy c.args.sorts.now [] (as_place x) v in
      let one = c.is_for.ensures.1 (each_at R c.args.variables.now c.args.values.now c.loop-i.i _ _ c.loop-i-test.true all) in
      absurd (search rules),
)

pub loop-i-preserved : goal.loop-i-preserved
loop-i-preserved c =
    let R : VarId → TermId → Type 0 = λ x v. IsFor c.args.sig.now.hierarchy c.args.sorts.now [] (as_place x) v in
    subst (λ n. HoldsAtEach R (take n c.args.variables.now) (take n c.args.values.now)) (sym (add-one c.loop-i.i))
    (each_more R c.args.variables.now c.args.values.now c.loop-i.i _ _ c.loop-i-test.true (omega arith) c.loop-i.invariant (c.is_for.ensures.0 (search rules)))

pub returns : goal.returns
returns c =
    let R : VarId → TermId → Type 0 = λ x v. IsFor c.args.sig.now.hierarchy c.args.sorts.now [] (as_place x) v in (
      λ h.
          subst (λ xs. HoldsAtEach R xs c.args.values.now) (take_whole c.args.variables.now c.loop-i.i (omega arith))
          (subst (HoldsAtEach R (take c.loop-i.i c.args.variables.now)) (take_whole c.args.values.now c.loop-i.i (omega arith)) c.loop-i.invariant),
      λ all. search rules,
    )
