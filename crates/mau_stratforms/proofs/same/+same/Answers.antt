use Rattle.std.proofs.Common.{◌<◌, map, length, sym, ◌∙◌, ap, arith}
use Rattle.mau_program.specs.Depth.{depth}
use Rattle.mau_program.specs.Strategies.{strategy_of}
use Rattle.mau_program.specs.declared.strategies.PartUse.{PartUse}
use Rattle.mau_program.specs.declared.strategies.StrategyForm.{StrategyForm}
use Rattle.mau_program.proofs.Parts.{at_most_all, at_most_uses}
use Rattle.mau_stratforms.specs.Meanings.{meaning_of}
use Rattle.mau_stratforms.specs.Parts.{part_of}
use Rattle.mau_stratforms.proofs.Sames.{same_at, part_rewrites_same, label_bys_same}
use Rattle.mau_stratforms.proofs.same.+same.Goals as goal

pub same_all-same-requires : goal.same_all-same-requires
same_all-same-requires t c = (omega (arith, at_most_all c.args.a.now c.loop-i.i c.index-a-i.result c.loop-i-test.true, ap depth c.index-a-i.is), tt)

pub same_all-returns-then-not-same : goal.same_all-returns-then-not-same
same_all-returns-then-not-same t c = (
  λ h. cc,
  λ e.
      let h : c.loop-i.i < length c.args.a.now = omega arith in
      let k : c.loop-i.i < length c.args.b.now = omega arith in
      sym c.if-not-same.true ∙ c.same.ensures.1 (same_at meaning_of c.args.a.now c.args.b.now c.loop-i.i c.index-a-i.result c.index-b-i.result h k c.index-a-i.is c.index-b-i.is e),
)

pub same_form-returns-then-same_test : goal.same_form-returns-then-same_test
same_form-returns-then-same_test t c =
    let a = c.in-PartRewrite-PartRewrite in
    let whole = part_rewrites_same a.k a.l a.p a.q a.c a.d a.us.items a.vs.items (c.same_test-in-PartRewrite-PartRewrite.ensures.0 c.if-same_test.true) in
    let us = ap (map part_of) c.deref-then-same_test.ensures.value in
    let vs = ap (map part_of) c.deref-then-same_test-2.ensures.value in
    let first = ap (λ (f : StrategyForm). meaning_of (strategy_of f)) a.is-0 in
    let second = ap (λ (f : StrategyForm). meaning_of (strategy_of f)) a.is-1 in (
      λ h. first ∙ (whole.0 (sym us ∙ (c.same_uses.ensures.0 h ∙ vs)) ∙ sym second),
      λ e. c.same_uses.ensures.1 (us ∙ (whole.1 (sym first ∙ (e ∙ second)) ∙ sym vs)),
    )

pub same_form-returns-then-same_label : goal.same_form-returns-then-same_label
same_form-returns-then-same_label t c =
    let a = c.in-LabelBy-LabelBy in
    let whole = label_bys_same a.l a.m a.xs a.ys a.ss.items a.ts.items (c.same_label-in-LabelBy-LabelBy.ensures.0 c.if-same_label.true) in
    let ss = ap (map meaning_of) c.deref-then-same_label.ensures.value in
    let ts = ap (map meaning_of) c.deref-then-same_label-2.ensures.value in
    let first = ap (λ (f : StrategyForm). meaning_of (strategy_of f)) a.is-0 in
    let second = ap (λ (f : StrategyForm). meaning_of (strategy_of f)) a.is-1 in (
      λ h. first ∙ (whole.0 (sym ss ∙ (c.same_all.ensures.0 h ∙ ts)) ∙ sym second),
      λ e. c.same_all.ensures.1 (ss ∙ (whole.1 (sym first ∙ (e ∙ second)) ∙ sym ts)),
    )

pub same_uses-same_use-requires : goal.same_uses-same_use-requires
same_uses-same_use-requires t c =
    (omega (arith, at_most_uses c.args.a.now c.loop-i.i c.index-a-i.result c.loop-i-test.true, ap (λ (u : PartUse). depth u.strategy) c.index-a-i.is), tt)

pub same_uses-returns-then-not-same_use : goal.same_uses-returns-then-not-same_use
same_uses-returns-then-not-same_use t c = (
  λ h. cc,
  λ e.
      let h : c.loop-i.i < length c.args.a.now = omega arith in
      let k : c.loop-i.i < length c.args.b.now = omega arith in
      sym c.if-not-same_use.true ∙ c.same_use.ensures.1 (same_at part_of c.args.a.now c.args.b.now c.loop-i.i c.index-a-i.result c.index-b-i.result h k c.index-a-i.is c.index-b-i.is e),
)
