use Rattle.std.proofs.Common.{◌+◌, [], ◌∷◌, map, fold, ap, ap₂, sym, ◌∙◌, add-one}
use Rattle.std.specs.List.{range_with_len}
use Rattle.std.proofs.lemmas.List.{map-append}
use Rattle.std.proofs.lemmas.List.Sums.{fold-append}
use Rattle.mau_terms.specs.Vars.{with_pair}
use Rattle.mau_docheck.specs.Holes.{hole_pair}
use Rattle.mau_docheck.proofs.Ranges.{range_suc}
use Rattle.mau_docheck.proofs.holes.add_holes.Goals as goal

pub loop-i-preserved : goal.loop-i-preserved
loop-i-preserved c =
    let a = c.args.poset.now.sorts in
    let i = c.loop-i.i in
    let all = ap (λ k. map hole_pair (range_with_len a k)) (add-one i) ∙ ap (map hole_pair) (range_suc a i) ∙ map-append hole_pair (range_with_len a i) ((a + i) ∷ []) in
    c.in_ok-add.ensures.pairs
    ∙ ap₂ (λ xs s. with_pair xs (hole_pair (s + i))) c.loop-i.invariant c.sorts.ensures.value
    ∙ sym (ap (fold with_pair c.args.vars.now) all ∙ fold-append with_pair c.args.vars.now (map hole_pair (range_with_len a i)) (hole_pair (a + i) ∷ []))
