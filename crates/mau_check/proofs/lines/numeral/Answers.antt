use Rattle.std.proofs.Common.{arith}
use Rattle.mau_check.proofs.Lined.{kept_numeral, no_numeral}
use Rattle.mau_check.proofs.lines.numeral.Goals as goal

pub returns-in-None-clause-kept : goal.returns-in-None-clause-kept
returns-in-None-clause-kept c w = no_numeral c.args.sig.now c.args.value c.in-None.ensures w

pub returns-clause-kept : goal.returns-clause-kept
returns-clause-kept c = kept_numeral c.args.sig.now c.intern.new.self _ c.in_ok-id.id c.in-Some.kind c.args.value (omega (arith, c.ranges.value.fits)) c.in-Some.ensures c.in_ok-id.ensures.ok c.in_ok-id.ensures.tree
