use Rattle.std.proofs.Common.{sym, ◌∙◌, arith}
use Rattle.std.proofs.lemmas.Str.{IsCharBoundary-after_ascii}
use Rattle.mau_parse.proofs.KindsListed.{cut_colon}
use Rattle.mau_parse.proofs.readings.push_cut.Goals as goal

pub range_from-requires : goal.range_from-requires
range_from-requires c h =
    let colon = cut_colon c.args.word.now c.args.colon (sym c.is_cut.ensures ∙ c.if-is_cut.true) in
    IsCharBoundary-after_ascii c.args.word.now c.args.colon c.utf8.word c.requires.within (omega (arith, colon))
