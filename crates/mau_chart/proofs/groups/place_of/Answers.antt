use Rattle.std.proofs.Common.{◌∙◌, ap, refl, length}
use Rattle.std.proofs.lemmas.Option.{slice_get_read}
use Rattle.mau_chart.proofs.groups.place_of.Goals as goal

pub returns-then-is : goal.returns-then-is
returns-then-is c =
    (c.index-groups-w.result, slice_get_read c.args.groups.now (length c.args.groups.now) c.loop-w.w c.index-groups-w.result refl c.loop-w-test.true c.index-groups-w.is, ap (λ g. g.item) c.index-groups-w.is ∙ c.is.ensures.0 c.if-is.true)
