use Rattle.std.proofs.Common.{subst, Some}
use Rattle.mau_terms.specs.Tree.{numeral}
use Rattle.mau_check.specs.Kept.{IsKept}
use Rattle.mau_prove.proofs.Standing.{some_grown}
use Rattle.mau_prove.proofs.lines.add_numeral.Goals as goal

pub returns-in-Ok-Some : goal.returns-in-Ok-Some
returns-in-Ok-Some c =
    let s = c.args.program.now.sig in
    let new = c.numeral.new.store in
    c.keep_once.ensures s (some_grown s c.args.lines.now.store new c.in-Ok-Some.ensures.extends c.args.lines.now.kept.items c.requires)
    (numeral c.args.value, subst (λ k. IsKept s new k (Some (numeral c.args.value))) c.in-Ok-Some.field-0-is c.in-Ok-Some.ensures.kept)
