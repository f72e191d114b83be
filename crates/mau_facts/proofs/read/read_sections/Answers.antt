use Rattle.std.proofs.Common.{sym, subst}
use Rattle.mau_facts.specs.Fronts.{IsReadTo}
use Rattle.mau_facts.proofs.OneMore.{read_more}
use Rattle.mau_facts.proofs.read.read_sections.Goals as goal

pub loop-line-preserved : goal.loop-line-preserved
loop-line-preserved c =
    subst (IsReadTo c.args.bytes.now c.in-Some.after.now) (sym c.in_ok-add-in-Ok.ensures)
    (read_more c.args.bytes.now c.loop-line.rest.now c.in-Some.line.now c.in-Some.after.now c.loop-line.progress c.loop-line.invariant c.in-Some.ensures.0 c.in-Some.ensures.1 c.in-Ok.entry c.in-Ok.ensures)
