use Rattle.std.proofs.Common.{◌≡◌, ◌<◌, ◌+◌, ◌++◌, ◌∷◌, [], length, take, sym, ap, ◌∙◌, arith, rules}
use Rattle.std.specs.Vec.{vec_len}
use Rattle.std.proofs.lemmas.List.{take_all}
use Rattle.mau_cond.proofs.Pairs.{zipped_length, pairs_next}
use Rattle.mau_cond.proofs.bound.Bound.pairs.Goals as goal

pub returns : goal.returns
returns c =
    let i = c.self.inside in
    let long : vec_len i.variables ≡ length i.variables.items = search rules in
    let same : length i.variables.items ≡ length c.args.self.now = zipped_length i.variables.items i.values.items c.self.invariant ∙ ap length c.self.view_is in
    c.loop-index.invariant ∙ take_all c.loop-index.index c.args.self.now (omega (arith, c.loop-index-test.false, c.len-index-end.ensures, long, same))

pub loop-index-preserved : goal.loop-index-preserved
loop-index-preserved c =
    let i = c.self.inside in
    let n = c.loop-index.index in
    let x = c.index.result.now in
    let y = c.index-in-loop-index.result.now in
    let long : vec_len i.variables ≡ length i.variables.items = search rules in
    let within : n < length i.variables.items = omega (arith, c.loop-index-test.true, c.len-index-end.ensures, long) in
    c.in_ok-push.ensures.items
    ∙ (ap (λ z. z ++ (x, y) ∷ []) (c.loop-index.invariant ∙ ap (take n) (sym c.self.view_is))
    ∙ (pairs_next i.variables.items i.values.items n x y within c.self.invariant c.index.ensures c.index-in-loop-index.ensures ∙ ap (take (n + 1)) c.self.view_is))
