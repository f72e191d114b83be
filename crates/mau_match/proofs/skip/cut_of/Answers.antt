use Rattle.std.proofs.Common.{◌≡◌, Some, take, drop, sym, ◌∙◌, ap, arith}
use Rattle.std.specs.Option.{option_map}
use Rattle.mau_match.specs.Skipped.{rest_of}
use Rattle.mau_match.proofs.Places.{terms}
use Rattle.mau_match.proofs.Skipping.{cut_first, cut_less}
use Rattle.mau_match.proofs.skip.cut_of.Goals as goal

pub loop-cut-init : goal.loop-cut-init
loop-cut-init c = record {
  cut = cut_first c.args.store.now c.args.items.now c.args.list.now c.requires.sorted c.args.from c.args.least c.requires.rest c.requires.room c.requires.some c.requires.few;
  within = omega (arith, c.requires.some);
}

pub loop-cut-preserved : goal.loop-cut-preserved
loop-cut-preserved c =
    let nodes = c.args.store.now in
    let items = c.args.items.now in
    let list = c.args.list.now in
    let cut = c.loop-cut.cut in
    let rest : Some (terms nodes (drop c.in-Some.after items)) ≡ rest_of (terms nodes (take cut list)) (terms nodes items) = ap (option_map (λ n. terms nodes (drop n items))) (sym c.in-Some.is) ∙ c.rest_from.ensures.rest in
    record {
      cut = cut_less nodes items list c.requires.sorted c.args.least cut c.in-Some.after (omega (arith, c.loop-cut-test.true)) c.loop-cut.invariant.within (omega (arith, c.loop-cut.invariant.within, c.requires.few)) (sym rest) (omega (arith, c.if-items-after.false)) c.loop-cut.invariant.cut;
      within = omega (arith, c.loop-cut.invariant.within);
    }
