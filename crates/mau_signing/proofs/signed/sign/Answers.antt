use Rattle.mau_signature.specs.Faults.{given}
use Rattle.mau_signing.proofs.Refusing.{refused_by}
use Rattle.mau_signing.proofs.Signing.{at_declaration, at_operator, all_read}
use Rattle.mau_signing.proofs.signed.sign.Goals as goal

pub returns-in-Err-clause-refused : goal.returns-in-Err-clause-refused
returns-in-Err-clause-refused c =
    let a = c.args in
    refused_by (at_declaration a.names.now (given a.poset a.named.now a.numerals) a.conflict c.requires.poset) c.in-Err.fault c.in-Err.ensures.at_fault

pub returns-in-Ok-accept_signature-clause-ok : goal.returns-in-Ok-accept_signature-clause-ok
returns-in-Ok-accept_signature-clause-ok c =
    let a = c.args in
    all_read a.names.now (given a.poset a.named.now a.numerals) a.conflict c.requires.poset
    c.in-Ok.signature c.in-Ok.ensures.ok c.in-Ok.ensures.faultless c.in-Ok.ensures.no_conflict
    c.in-Ok-accept_signature.ensures.ok c.in-Ok-accept_signature.ensures.few

pub returns-in-Err-accept_signature-clause-refused :
    goal.returns-in-Err-accept_signature-clause-refused
returns-in-Err-accept_signature-clause-refused c =
    let a = c.args in
    refused_by
    (at_operator a.names.now (given a.poset a.named.now a.numerals) a.conflict c.requires.poset
    c.in-Ok.signature c.in-Ok.ensures.ok c.in-Ok.ensures.faultless c.in-Ok.ensures.no_conflict)
    c.in-Err-accept_signature.fault c.in-Err-accept_signature.ensures.at_fault
