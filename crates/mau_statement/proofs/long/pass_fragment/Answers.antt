use Rattle.std.proofs.Common.{arith}
use Rattle.mau_statement.specs.Conditions.{FragmentUnread}
use Rattle.mau_statement.specs.Long.{IsNeverRead}
use Rattle.mau_statement.proofs.Handed.{handed}
use Rattle.mau_statement.proofs.Again.{never_read, passed, overrun}
use Rattle.mau_statement.proofs.long.pass_fragment.Goals as goal

pub returns-in-Err-clause-fault : goal.returns-in-Err-clause-fault
returns-in-Err-clause-fault c =
    let ws = c.args.words.now in
    let x = c.args.context.now in
    let raw = c.args.raw.now in
    handed (FragmentUnread ws x raw c.args.vars.now) (λ f. IsNeverRead ws x raw) (λ f u ns. never_read ws x raw c.args.vars.now ns f u) c.in-Err.fault c.in-Err.ensures.fault

pub returns-then-len-gt-MAX_VARIABLES-clause-passed : goal.returns-then-len-gt-MAX_VARIABLES-clause-passed
returns-then-len-gt-MAX_VARIABLES-clause-passed c = λ ns raws p.
    overrun c.args.words.now c.args.context.now c.args.raw.now ns raws c.args.vars.now c.read_fragment.new.vars c.in-Ok.field-0 c.in-Ok.ensures.fragment
    c.args.many c.new.result (omega (arith, c.if-len-gt-MAX_VARIABLES.true, c.len.ensures.counted)) p

pub returns-clause-passed : goal.returns-clause-passed
returns-clause-passed c = λ ns raws p.
    passed c.args.words.now c.args.context.now c.args.raw.now ns raws c.args.vars.now c.read_fragment.new.vars c.in-Ok.field-0 c.in-Ok.ensures.fragment
    c.args.many (omega (arith, c.if-len-gt-MAX_VARIABLES.false, c.len.ensures.counted)) p
