use Rattle.std.proofs.Common.{get_or, refl, sym, ◌∙◌, subst, arith}
use Rattle.mau_sorts.specs.SortSets.{IsIn}
use Rattle.mau_sorts.specs.Derived.{sets}
use Rattle.mau_sorts.proofs.Derivations.{AllIn-length, AllIn-at, AllIn-from, sets_length, set_read, set_over, in_more}
use Rattle.mau_sorts.proofs.derive.all_have.Goals as goal

pub returns-then-args-sorts : goal.returns-then-args-sorts
returns-then-args-sorts c = (
  λ yes. absurd (cc yes),
  λ all. absurd (c.if-args-sorts.true (sym (sets_length c.args.args.now) ∙ AllIn-length c.args.poset.now (sets c.args.args.now) c.args.sorts.now all)),
)

pub has-requires-clause-over : goal.has-requires-clause-over
has-requires-clause-over c = set_over c.args.poset.now c.args.args.now c.loop-i.i c.index-args-i.result c.requires.args c.loop-i-test.true c.index-args-i.is

pub returns-then-not-has : goal.returns-then-not-has
returns-then-not-has c = (
  λ yes. absurd (cc yes),
  λ all. absurd
      (let here = AllIn-at c.args.poset.now (sets c.args.args.now) c.args.sorts.now c.loop-i.i c.index-args-i.result.now all (omega (arith, sets_length c.args.args.now)) in
      let e = c.has.ensures.1 (subst (λ x. IsIn c.args.poset.now x (get_or c.args.sorts.now c.loop-i.i 0)) (sym (set_read c.args.args.now c.loop-i.i c.index-args-i.result c.index-args-i.result.now c.loop-i-test.true c.index-args-i.is)) here) in
      let f = c.if-not-has.true in cc (e, f)),
)

pub loop-i-preserved : goal.loop-i-preserved
loop-i-preserved c =
    in_more c.args.poset.now (sets c.args.args.now) c.args.sorts.now c.loop-i.i c.loop-i.invariant
    (λ d. subst (λ x. IsIn c.args.poset.now x (get_or c.args.sorts.now c.loop-i.i 0))
    (set_read c.args.args.now c.loop-i.i c.index-args-i.result d c.loop-i-test.true c.index-args-i.is) (c.has.ensures.0 c.if-not-has.false))

pub returns : goal.returns
returns c = (
  λ yes. AllIn-from c.args.poset.now (sets c.args.args.now) c.args.sorts.now (sets_length c.args.args.now ∙ c.if-args-sorts.false)
      (λ i d below. c.loop-i.invariant i d (omega (arith, sets_length c.args.args.now))),
  λ all. refl,
)
