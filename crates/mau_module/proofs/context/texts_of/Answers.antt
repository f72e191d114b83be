use Rattle.std.proofs.Common.{◌++◌, ◌∷◌, [], take, ap, ap₂, sym, ◌∙◌, add-one, arith, ◌<◌, length}
use Rattle.std.proofs.Math.Seq.{take-suc}
use Rattle.std.proofs.lemmas.Option.{get_or_from_slice_get}
use Rattle.mau_module.proofs.context.texts_of.Goals as goal

pub loop-number-preserved : goal.loop-number-preserved
loop-number-preserved c =
    let n = c.loop-number.number in
    let l : n < length c.args.names.now = omega (arith, c.len-number-end.ensures.count, c.loop-number-test.true) in
    let e = get_or_from_slice_get c.args.names.now n c.in-Some.name.now [] (sym (rw c.in-Some.is at c.get.ensures)) in
    c.in_ok-push-in-Some.ensures.items ∙ ap₂ (λ xs x. xs ++ x ∷ []) c.loop-number.invariant (c.in_ok-new-in-Some.ensures ∙ sym e)
    ∙ sym (ap (λ k. take k c.args.names.now) (add-one n) ∙ take-suc c.args.names.now n [] l)
