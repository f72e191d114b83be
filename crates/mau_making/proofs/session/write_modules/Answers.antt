use Rattle.mau_making.proofs.Made.{two, last}
use Rattle.mau_making.proofs.session.write_modules.Goals as goal

pub returns : goal.returns
returns c =
    let o = c.args.out.now.items in
    let first = two o _ _ c.write_text.new.out.items c.write_elements.new.out.items c.in_ok-write_text.ensures c.in_ok-write_elements.ensures in
    let second = two o _ _ c.write_elements.new.out.items c.write_text-2.new.out.items first c.in_ok-write_text-2.ensures in
    last c.write_text-3.result o _ _ c.write_text-2.new.out.items c.write_text-3.new.out.items second c.write_text-3.ensures
