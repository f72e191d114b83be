use Rattle.std.proofs.Common.{take, sym, ap, ◌∙◌}
use Rattle.mau_modtext.specs.Sides.{place_or}
use Rattle.mau_modtext.specs.Attributes as Attributes
use Rattle.mau_modtext.proofs.Readings.{ap2, along}
use Rattle.mau_modtext.proofs.attributes.attribute_list.Goals as goal

pub returns-in-Some : goal.returns-in-Some
returns-in-Some c =
    along c.read_inside.result
    (ap2 (Attributes.list_inside c.args.stop c.args.words.now c.in-Some.end)
    (c.place_or-close.ensures ∙ ap (place_or c.args.stop) c.behind-in-Some.ensures)
    (c.front-inside.ensures ∙ ap2 take c.saturating_sub.ensures c.behind.ensures)
    ∙ ap (Attributes.attribute_list c.args.stop c.args.words.now) (sym c.in-Some.is))
    c.read_inside.ensures
