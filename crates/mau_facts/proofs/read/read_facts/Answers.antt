use Rattle.std.proofs.Common.{sym, subst}
use Rattle.mau_facts.specs.Faults.{IsFault}
use Rattle.mau_facts.proofs.HeadFaults.{first_fault, second_fault}
use Rattle.mau_facts.proofs.Openings.{opening_of}
use Rattle.mau_facts.proofs.read.read_facts.Goals as goal

pub returns-in_default-clause-fault : goal.returns-in_default-clause-fault
returns-in_default-clause-fault c = first_fault c.args.bytes.now c.in_default.ensures.none

pub read_text-requires : goal.read_text-requires
read_text-requires c = opening_of c.args.bytes.now c.in-Some.rest.now c.in-Ok.rest.now c.in-Ok.size c.in-Some.ensures.some c.in-Ok.ensures

pub returns-in-Err-Fault-clause-fault : goal.returns-in-Err-Fault-clause-fault
returns-in-Err-Fault-clause-fault c =
    let bad = rw c.in-Err-Fault.field-0-is at c.in-Err-Fault.ensures in
    let fault = rw c.in-Err-Fault.field-0-is at c.at.ensures in
    subst (IsFault c.args.bytes.now) (sym fault) (second_fault c.args.bytes.now c.in-Some.rest.now c.in-Some.ensures.some c.in-Err-Fault.fault bad)
