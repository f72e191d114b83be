use Rattle.std.proofs.Common.{◌≡◌, ◌∷◌, ◌<◌, ◌∙◌, sym, ap, ap₂, subst, ◌+◌, map, drop, take, length, ℕ, arith}
use Rattle.std.proofs.Math.Seq.{take-length}
use Rattle.mau_poset.specs.Order.{Hierarchy}
use Rattle.mau_signature.specs.Signature.{declarations_at}
use Rattle.mau_print.specs.Layouts.{layout_of, layout_by}
use Rattle.mau_print.specs.Beforehand.{IsProductionFor}
use Rattle.mau_print.proofs.Produced.{written_there, first_of, count_more, layouts_more}
use Rattle.mau_print.proofs.making.layouts.Goals as goal

pub layout_by-requires-clause-production : goal.layout_by-requires-clause-production
layout_by-requires-clause-production c = λ w.
    let s = c.args.sig.now in
    let g = c.args.grammar.now in
    let d = c.index-decls-0.result in
    let ds = c.declarations-decls.result.now in
    let e : declarations_at s (c.loop-i.i + 1) ≡ d ∷ drop 1 ds = sym c.declarations-decls.ensures.value ∙ first_of ds d c.declarations-decls.ensures.some c.index-decls-0.is in
    let low : c.loop-i.i < length s.declarations = omega (arith, c.operators-i-end.ensures.value) in
    subst (λ (h : Hierarchy). IsProductionFor h g d c.loop-i.at) (sym c.poset.ensures.value)
    (subst (λ (n : ℕ). IsProductionFor s.hierarchy g d n) (sym c.loop-i.invariant.0) (written_there s g c.loop-i.i d (drop 1 ds) c.requires.grammar low e w))

pub loop-i-preserved : goal.loop-i-preserved
loop-i-preserved c =
    let s = c.args.sig.now in
    let g = c.args.grammar.now in
    let d = c.index-decls-0.result in
    let ds = c.declarations-decls.result.now in
    let i = c.loop-i.i in
    let e : declarations_at s (i + 1) ≡ d ∷ drop 1 ds = sym c.declarations-decls.ensures.value ∙ first_of ds d c.declarations-decls.ensures.some c.index-decls-0.is in
    let low : i < length s.declarations = omega (arith, c.operators-i-end.ensures.value) in (
      ap₂ (λ a b. a + b) c.loop-i.invariant.0 (c.productions_count.ensures.value s.hierarchy (i + 1) (drop 1 ds)) ∙ sym (count_more s i d (drop 1 ds) e),
      omega (arith, c.productions_count.ensures.few, c.loop-i.invariant.1),
      λ owned k. c.in_ok-push.ensures.items ∙ layouts_more s g owned i d (drop 1 ds) _ _ low e (c.loop-i.invariant.2 owned k) (c.in_ok-layout_by.ensures owned k ∙ ap (λ h. layout_by h g owned d) c.poset.ensures.value),
    )

pub returns : goal.returns
returns c = λ owned k.
    let s = c.args.sig.now in
    let all : c.loop-i.i ≡ length s.declarations = omega (arith, c.operators-i-end.ensures.value) in
    c.loop-i.invariant.2 owned k ∙ ap (λ n. map (layout_of s.hierarchy c.args.grammar.now owned) (take n s.declarations)) all ∙ ap (map (layout_of s.hierarchy c.args.grammar.now owned)) (take-length s.declarations)
