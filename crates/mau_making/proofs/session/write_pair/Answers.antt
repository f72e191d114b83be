use Rattle.std.proofs.Common.{◌*◌, ◌++◌, ap, ◌∙◌}
use Rattle.std.specs.Prelude.{decimal}
use Rattle.mau_making.proofs.Made.{two, last}
use Rattle.mau_making.proofs.session.write_pair.Goals as goal

pub returns : goal.returns
returns c =
    let o = c.args.out.now.items in
    let first = two o _ _ c.write_text.new.out.items c.write_elements.new.out.items c.in_ok-write_text.ensures c.in_ok-write_elements.ensures in
    let second = two o _ _ c.write_elements.new.out.items c.write_text-2.new.out.items first c.in_ok-write_text-2.ensures in
    let third = two o _ (decimal (100 * c.args.number)) c.write_text-2.new.out.items c.write_number.new.out.items second
    (c.in_ok-write_number.ensures ∙ ap (λ k. c.write_text-2.new.out.items ++ decimal (100 * k)) c.from.ensures) in
    last c.write_text-3.result o _ _ c.write_number.new.out.items c.write_text-3.new.out.items third c.write_text-3.ensures
