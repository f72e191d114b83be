use Rattle.std.proofs.Common.{sym, subst, ◌∙◌}
use Rattle.mau_facts.specs.Faults.{IsFault}
use Rattle.mau_facts.proofs.SectionFaults.{stop_is_fault}
use Rattle.mau_facts.proofs.Openings.{document_found}
use Rattle.mau_facts.proofs.read.read_behind.Goals as goal

pub returns-in_ok-from_slice-in-Ok : goal.returns-in_ok-from_slice-in-Ok
returns-in_ok-from_slice-in-Ok c =
    document_found c.args.bytes.now c.args.text.now c.args.rest.now c.new.result c.in-Ok.sections c.requires.0 c.requires.1 c.in-Ok.ensures (c.new.ensures ∙ c.in_ok-from_slice-in-Ok.ensures.items)

pub returns-in-Err-At : goal.returns-in-Err-At
returns-in-Err-At c =
    let stop = rw c.in-Err-At.field-0-is at c.in-Err-At.ensures in
    let line = rw c.in-Err-At.field-0-is at c.line_of.ensures in
    let fault = rw c.in-Err-At.field-0-is at c.at.ensures in
    subst (IsFault c.args.bytes.now) (sym fault)
    (stop_is_fault c.args.bytes.now c.args.text.now c.args.rest.now c.in-Err-At.place c.line_of.result c.in-Err-At.fault c.requires.0 c.requires.1 stop line)
