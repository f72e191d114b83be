use Rattle.std.proofs.Common.{◌<◌, [], length, arith, sym, ap₂, ◌∙◌}
use Rattle.std.proofs.lemmas.List.Sums.{fold_more}
use Rattle.std.proofs.lemmas.Option.{get_or_from_slice_get}
use Rattle.mau_declare.specs.Names.{with_name}
use Rattle.mau_module.proofs.include.add_names.Goals as goal

pub loop-number-preserved : goal.loop-number-preserved
loop-number-preserved c =
    let n = c.loop-number.number in
    let l : n < length c.args.more.now = omega (arith, c.len-number-end.ensures.count, c.loop-number-test.true) in
    let e = get_or_from_slice_get c.args.more.now n c.in-Some.name.now [] (sym (rw c.in-Some.is at c.get.ensures)) in
    c.in_ok-add-in-Some.ensures.names ∙ ap₂ with_name c.loop-number.invariant (sym e) ∙ sym (fold_more with_name c.args.names.now c.args.more.now n [] l)
