use Rattle.mau_program.specs.LawfulPrograms.{IsLawfulProgram}
use Rattle.mau_module.specs.Lawful.{program_of}
use Rattle.mau_module.specs.Libraries.{IsNext}
use Rattle.mau_module.specs.Included.{numeral_kind, numerals_of}
use Rattle.mau_module.specs.Framed.{all_parts}
use Rattle.mau_module.specs.Flattened.{hierarchy_in}
use Rattle.mau_module.proofs.Plain.{declared_plain}
use Rattle.mau_module.proofs.Faulted.{no_signature}
use Rattle.std.proofs.lemmas.Result.{IfOk-weaker}
use Rattle.mau_module.proofs.library.Library.flatten.Goals as goal

pub returns-in-Err-sign_over-clause-fault : goal.returns-in-Err-sign_over-clause-fault
returns-in-Err-sign_over-clause-fault c =
    no_signature c.args.self.now c.args.words.now c.args.raw.now c.in-Ok.frame c.in-Ok.ensures.ok c.in-Ok-declared.elements c.in-Ok.ensures.framed c.in-Ok-declared.ensures.ok
    c.in-Err-sign_over.fault c.in-Err-sign_over.ensures.refused

pub returns-clause-lawful : goal.returns-clause-lawful
returns-clause-lawful c = IfOk-weaker c.module_in.result (IsNext c.args.self.now) (λ m. IsLawfulProgram (program_of m)) (λ m next. next.made.lawful) c.module_in.ensures.next

pub sign_over-requires-clause-plain : goal.sign_over-requires-clause-plain
sign_over-requires-clause-plain c = λ d i.
    let ms = c.args.self.now in
    let f = c.in-Ok.frame in
    let e = c.in-Ok-declared.elements in
    let h = hierarchy_in ms f e in
    declared_plain c.args.words.now f.names c.args.raw.now.elements e c.in-Ok-declared.ensures.ok h (numeral_kind h (numerals_of f.names (all_parts ms f.parts))) d i
