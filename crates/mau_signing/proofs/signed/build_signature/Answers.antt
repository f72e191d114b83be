use Rattle.std.proofs.Common.{◌≡◌, ◌⊎◌, sym, subst}
use Rattle.mau_signature.specs.declared.fault.SigFault.TheVariants.{NoMemory}
use Rattle.mau_signature.specs.Faults.{given, IsFaultless}
use Rattle.mau_signature.specs.FaultOf.{IsFaultOf}
use Rattle.mau_signing.proofs.Declaring.{build_fault, told_fault, told_refusal, alone_refusal}
use Rattle.mau_signing.proofs.signed.build_signature.Goals as goal

pub returns-in-Some-clause-at_fault : goal.returns-in-Some-clause-at_fault
returns-in-Some-clause-at_fault c =
    let a = c.args in
    alone_refusal (given a.poset a.named.now a.numerals) a.conflict c.in-Some.declaration c.declaration_fault.result c.in-Some.is
    (subst (λ ds. IsFaultless (given a.poset ds a.numerals) ds) (sym c.requires.named) c.in-Ok.ensures.faultless)
    c.declaration_fault.ensures.text

pub returns-in-Err-clause-at_fault : goal.returns-in-Err-clause-at_fault
returns-in-Err-clause-at_fault c =
    let a = c.args in
    let e = c.in-Err.ensures in
    let f = c.in-Err.fault in
    let found : (f ≡ NoMemory) ⊎ IsFaultOf (given a.poset a.named.now a.numerals) f =
    subst (λ ds. (f ≡ NoMemory) ⊎ IsFaultOf (given a.poset ds a.numerals) f) (sym c.requires.named)
    (build_fault (given a.poset a.decls.items a.numerals) f e.arity e.kind_mismatch e.attr_conflict e.bad_strat e.id_not_constant) in
    told_refusal (given a.poset a.named.now a.numerals) a.conflict c.told.result c.declaration_fault-in-Err.result
    c.declaration_fault-in-Err.ensures.text c.declaration_fault-in-Err.ensures.memory
    (told_fault (given a.poset a.named.now a.numerals) a.conflict f c.told.result c.told.ensures.first c.told.ensures.conflict found)
