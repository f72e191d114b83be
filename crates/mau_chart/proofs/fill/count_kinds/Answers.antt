use Rattle.std.proofs.Common.{◌≡◌, ℕ, ◌+◌, ◌<◌, ◌≤◌, ◌⊎◌, inl, inr, min, max, List, get_or, Some, sym, ◌∙◌, ap, arith}
use Rattle.std.specs.List.{slice_get}
use Rattle.std.proofs.lemmas.Bool.{cases_lt}
use Rattle.std.proofs.lemmas.Option.{slice_get-get_or, slice_get_within}
use Rattle.mau_chart.specs.declared.grammar.Production.{Production}
use Rattle.mau_chart.proofs.Step.{some_one}
use Rattle.mau_chart.proofs.fill.count_kinds.Goals as goal

module _ (ps : List Production) (j old one new most : ℕ) (form : Production) (ef : slice_get ps j ≡ Some form) (eo : one ≡ min (form.kind + 1) most) (en : new ≡ max one old) where
  above_more : ((k : ℕ) (p : Production) → k < j → slice_get ps k ≡ Some p → min (p.kind + 1) most ≤ old) → (k : ℕ) (p : Production) → k < j + 1 → slice_get ps k ≡ Some p → min (p.kind + 1) most ≤ new
  above_more above k p h e = by (cases_lt k j)
    where
      by : (k < j) ⊎ (j ≤ k) → min (p.kind + 1) most ≤ new
      by (inl l) = let b = above k p l e in omega (arith, b, en)
      by (inr l) =
          let z : k ≡ j = omega (arith, l, h) in
          let same : p ≡ form = some_one p form (sym e ∙ ap (slice_get ps) z ∙ ef) in
          let kind : p.kind ≡ form.kind = ap (λ v. v.kind) same in
          omega (arith, kind, eo, en)

  least_more : (m : ℕ) → old ≤ m → min (form.kind + 1) most ≤ m → new ≤ m
  least_more m h l = omega (arith, h, l, eo, en)

pub loop-k-preserved : goal.loop-k-preserved
loop-k-preserved c =
    let ps = c.args.productions.now in
    let j = c.loop-k.k in
    let form = get_or ps j c.index-productions-k.result in
    let there : slice_get ps j ≡ Some form = slice_get-get_or ps j c.index-productions-k.result c.loop-k-test.true in
    record {
      above = above_more ps j c.loop-k.count c.saturating_add.result c.max-count.result 18446744073709551615 form there c.saturating_add.ensures c.max-count.ensures c.loop-k.invariant.above;
      least = λ m f. least_more ps j c.loop-k.count c.saturating_add.result c.max-count.result 18446744073709551615 form there c.saturating_add.ensures c.max-count.ensures m (c.loop-k.invariant.least m f) (f j form there);
    }

pub returns-clause-above : goal.returns-clause-above
returns-clause-above c k p e = c.loop-k.invariant.above k p (omega (arith, slice_get_within c.args.productions.now k p e, c.loop-k-test.false)) e
