use Rattle.std.proofs.Common.{refl, ◌<◌, sym, ◌∙◌, ap, ap₂, Some, length, arith}
use Rattle.std.proofs.lemmas.Option.{slice_get_read}
use Rattle.mau_chart.specs.declared.grammar.Item.TheVariants.{Part}
use Rattle.mau_chart.proofs.Step.{lift_only}
use Rattle.mau_chart.proofs.fill.lift_of.Goals as goal

pub returns-else-number-productions-clause-some : goal.returns-else-number-productions-clause-some
returns-else-number-productions-clause-some c =
    let ps = c.args.productions.now in
    let d = c.index-productions-number.result in
    let n : c.in-Part.number < length ps = omega arith in
    record {
      number = c.in-Part.number;
      form = d;
      part = c.in-Part.is ∙ ap (Part c.in-Part.number) c.if-dot-ne0.false;
      its = slice_get_read ps (length ps) c.in-Part.number d refl n c.index-productions-number.is;
      whole = c.head_of.ensures.item;
      op = c.head_of.ensures.op;
    }

pub returns-else-number-productions-clause-only : goal.returns-else-number-productions-clause-only
returns-else-number-productions-clause-only c to o h =
    let ps = c.args.productions.now in
    let d = c.index-productions-number.result in
    let n : c.in-Part.number < length ps = omega arith in
    let w = lift_only ps c.args.item to o c.in-Part.number c.in-Part.dot d h c.in-Part.is (slice_get_read ps (length ps) c.in-Part.number d refl n c.index-productions-number.is) in
    ap₂ (λ x y. Some (x, y)) (c.head_of.ensures.item ∙ sym w.1) (c.head_of.ensures.op ∙ sym w.2)
