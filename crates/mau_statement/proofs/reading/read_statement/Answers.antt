use Rattle.std.proofs.Common.{◌≤◌, length, Ok, Err, ap, subst, arith}
use Rattle.mau_signature.specs.Signature.{theory_at}
use Rattle.mau_statement.specs.Statements.{Judged, PartsUnread, StatementRead, parts_read, part_unread}
use Rattle.mau_statement.specs.declared.TheConstants.{MAX_FRAGMENTS}
use Rattle.mau_statement.specs.Lawful.{HasNoFault}
use Rattle.mau_statement.proofs.Handed.{returned, handed}
use Rattle.mau_statement.proofs.Lawfulness.{lawful_statement}
use Rattle.mau_statement.proofs.reading.read_statement.Goals as goal

pub returns-in_err-judge-in-Ok-clause-fault : goal.returns-in_err-judge-in-Ok-clause-fault
returns-in_err-judge-in-Ok-clause-fault c =
    let ws = c.args.words.now in
    let x = c.args.context.now in
    let raw = c.args.raw.now in
    let s = c.in-Ok.statement in
    let over = c.signature.result.now in
    let fs = c.items-fragments.result.now in
    returned (λ f. Judged (theory_at over) (length fs) s (Err f)) (λ f. StatementRead ws x raw (Err f))
    c.from_residual.result c.in_err-judge-in-Ok.field-0.0 c.from_residual.ensures.1 c.in_err-judge-in-Ok.ensures.fault
    (λ f j. parts_read s (Err f) c.in-Ok.ensures.reads
    (subst (λ h. Judged (theory_at h) (length raw.cond) s (Err f)) c.signature.ensures.value (subst (λ gs. Judged (theory_at over) (length gs) s (Err f)) c.items-fragments.ensures j)))

pub returns-in_ok-judge-in-Ok-clause-read : goal.returns-in_ok-judge-in-Ok-clause-read
returns-in_ok-judge-in-Ok-clause-read c =
    let raw = c.args.raw.now in
    let s = c.in-Ok.statement in
    let over = c.signature.result.now in
    parts_read s (Ok s) c.in-Ok.ensures.reads
    (subst (λ h. Judged (theory_at h) (length raw.cond) s (Ok s)) c.signature.ensures.value (subst (λ gs. Judged (theory_at over) (length gs) s (Ok s)) c.items-fragments.ensures c.in_ok-judge-in-Ok.ensures.accepted))

pub returns-in-Err-clause-fault : goal.returns-in-Err-clause-fault
returns-in-Err-clause-fault c =
    let ws = c.args.words.now in
    let x = c.args.context.now in
    let raw = c.args.raw.now in
    let few : length raw.cond ≤ MAX_FRAGMENTS = omega (arith, c.if-fragments-gt-MAX_FRAGMENTS.false, ap length c.items-fragments.ensures) in
    handed (PartsUnread ws x raw) (λ f. StatementRead ws x raw (Err f)) (λ f u. part_unread f u few) c.in-Err.fault c.in-Err.ensures.fault

pub returns-in_ok-judge-in-Ok-clause-lawful : goal.returns-in_ok-judge-in-Ok-clause-lawful
returns-in_ok-judge-in-Ok-clause-lawful c =
    let s = c.in-Ok.statement in
    lawful_statement c.args.context.now.signature s (subst (λ h. HasNoFault h s) c.signature.ensures.value c.in_ok-judge-in-Ok.ensures.faultless)
