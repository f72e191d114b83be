use Rattle.std.proofs.Common.{◌≡◌, length, Ok, Err, sym, ap, subst}
use Rattle.mau_definition.specs.Definitions.{around, DefinitionJudged, DefinitionRead, parts_read}
use Rattle.mau_definition.proofs.LawfulRead.{lawful_read}
use Rattle.mau_definition.proofs.Told.{fault_then}
use Rattle.mau_definition.proofs.definition.read_definition.Goals as goal

pub returns-in-Ok-judge-clause-read : goal.returns-in-Ok-judge-clause-read
returns-in-Ok-judge-clause-read c =
    let d = c.in-Ok.definition in
    parts_read d (Ok d) c.in-Ok.ensures.reads (subst (λ n. DefinitionJudged n d (Ok d)) (ap length c.items-fragments.ensures) c.in-Ok-judge.ensures.accepted)

pub returns-in-Ok-judge-clause-lawful : goal.returns-in-Ok-judge-clause-lawful
returns-in-Ok-judge-clause-lawful c =
    lawful_read (around c.args.words.now c.args.context.now c.args.labels.now c.args.names.now) c.args.raw.now c.in-Ok.definition c.in-Ok.ensures.reads c.in-Ok.ensures.typed c.in-Ok-judge.ensures.bound

pub returns-in-Err-judge-clause-fault : goal.returns-in-Err-judge-clause-fault
returns-in-Err-judge-clause-fault c =
    let d = c.in-Ok.definition in
    let a = around c.args.words.now c.args.context.now c.args.labels.now c.args.names.now in
    let n = length c.items-fragments.result.now in
    fault_then (λ f. DefinitionJudged n d (Err f)) (λ f. DefinitionRead a c.args.raw.now (Err f))
    (λ f j. parts_read d (Err f) c.in-Ok.ensures.reads (subst (λ n. DefinitionJudged n d (Err f)) (ap length c.items-fragments.ensures) j)) c.in-Err-judge.fault c.in-Err-judge.ensures.fault

pub returns-in-Err-clause-fault : goal.returns-in-Err-clause-fault
returns-in-Err-clause-fault c =
    c.unread_fault.ensures (around c.args.words.now c.args.context.now c.args.labels.now c.args.names.now) c.args.raw.now (sym (ap length c.items-fragments.ensures)) c.in-Err.ensures.fault
