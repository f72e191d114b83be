use Rattle.std.proofs.Common.{subst}
use Rattle.mau_logic.specs.Lines.{pair_of, is_hole}
use Rattle.mau_check.specs.Kept.{IsKept}
use Rattle.mau_check.specs.LineTerms.{variable_by}
use Rattle.mau_prove.proofs.Standing.{some_grown, one_of}
use Rattle.mau_prove.proofs.lines.add_written.Goals as goal

pub returns-in-Ok-Some : goal.returns-in-Ok-Some
returns-in-Ok-Some c =
    let s = c.args.program.now.sig in
    let new = c.add_variable.new.store in
    let w = c.as_str.result.now in
    let t = variable_by c.args.lines.now.vars (is_hole w) (pair_of s c.args.program.now.sorts w) in
    c.keep.ensures s (some_grown s c.args.lines.now.store new c.in-Ok-Some.ensures.extends c.args.lines.now.kept.items c.requires.stand)
    (one_of s new c.in-Ok-Some.kept t (subst (λ k. IsKept s new k t) c.in-Ok-Some.field-0-is c.in-Ok-Some.ensures.kept))
