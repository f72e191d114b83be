use Rattle.mau_strattext.proofs.Cuts.{not_allowed}
use Rattle.std.proofs.Common.{sym, ◌∙◌}
use Rattle.mau_strattext.proofs.cut.cut_at.Goals as goal

pub returns-then-not-is_allowed : goal.returns-then-not-is_allowed
returns-then-not-is_allowed c =
    not_allowed c.args.words.now c.args.place c.args.behind c.place.result c.args.kind c.requires.within (sym c.is_allowed.ensures ∙ c.if-not-is_allowed.true) c.place.ensures
