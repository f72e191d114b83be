use Rattle.std.proofs.Common.{refl, arith}
use Rattle.mau_facts.proofs.HeadFaults.{text_fault}
use Rattle.mau_facts.proofs.read.read_text.Goals as goal

pub returns-in-None : goal.returns-in-None
returns-in-None c =
    let line = rw c.min.ensures at c.line_of.ensures in
    text_fault c.args.size c.args.bytes.now c.args.rest.now c.line_of.result (omega (arith, c.ranges.size.fits)) c.requires (c.in-None.ensures.none.0 refl) line
