use Rattle.std.proofs.Common.{◌∙◌, sym, ap, subst, All}
use Rattle.mau_parse.specs.Readings.{all_seen}
use Rattle.mau_parse.specs.Listed.{IsKnown}
use Rattle.mau_parse.proofs.LeavesListed.{readings_known}
use Rattle.mau_parse.proofs.leaves.push_leaves.Goals as goal

pub push_variables-requires-clause-known : goal.push_variables-requires-clause-known
push_variables-requires-clause-known c =
    let rs = all_seen c.deref.result.now in
    subst (λ ps. All (IsKnown ps) rs) (sym c.requires.pairs)
    (readings_known c.args.grammar.now c.args.words.now c.args.i rs c.requires.within (ap all_seen c.deref.ensures.value ∙ c.in_ok-found.ensures.ok))
