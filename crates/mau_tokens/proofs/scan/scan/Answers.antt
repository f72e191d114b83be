use Rattle.std.proofs.Common.{sym, subst, arith}
use Rattle.mau_tokens.specs.Code.{EndsPiece}
use Rattle.mau_tokens.proofs.Prefix.{Completes, completes_fault, completes_passed, completes_taken, completes_too_long, completes_text, ends_within, taken_within}
use Rattle.mau_tokens.proofs.scan.scan.Goals as goal

pub returns-in-Err-clause-fault : goal.returns-in-Err-clause-fault
returns-in-Err-clause-fault c _ = completes_fault 1024 _ c.loop-start.start c.loop-start.tokens.items c.in-Err.fault c.loop-start.invariant.done c.in-Err.ensures.fault

pub loop-start-preserved-in-Ok-Passed : goal.loop-start-preserved-in-Ok-Passed
loop-start-preserved-in-Ok-Passed c =
    let bs = c.args.bytes.now in
    let start = c.loop-start.start in
    let piece = subst (EndsPiece bs start) c.in-Ok-Passed.field-0-is c.in-Ok-Passed.ensures.ok in
    record { within = ends_within bs start c.in-Ok-Passed.end piece; done = completes_passed 1024 bs start c.in-Ok-Passed.end c.loop-start.tokens.items c.loop-start.invariant.done piece }

pub returns-then-end-start-clause-fault : goal.returns-then-end-start-clause-fault
returns-then-end-start-clause-fault c _ =
    let bs = c.args.bytes.now in
    let start = c.loop-start.start in
    let piece = subst (EndsPiece bs start) c.in-Ok-Token.field-0-is c.in-Ok-Token.ensures.ok in
    completes_too_long 1024 bs start c.in-Ok-Token.end c.loop-start.tokens.items c.loop-start.invariant.done piece c.if-end-start.true

pub loop-start-preserved : goal.loop-start-preserved
loop-start-preserved c =
    let bs = c.args.bytes.now in
    let start = c.loop-start.start in
    let piece = subst (EndsPiece bs start) c.in-Ok-Token.field-0-is c.in-Ok-Token.ensures.ok in
    record {
      within = taken_within bs start c.in-Ok-Token.end piece;
      done = subst (Completes 1024 bs c.in-Ok-Token.end) (sym c.in_ok-push-in-Ok-Token.ensures.items)
          (completes_taken 1024 bs start c.in-Ok-Token.end c.loop-start.tokens.items c.loop-start.invariant.done piece (omega arith));
    }

pub returns-clause-ok : goal.returns-clause-ok
returns-clause-ok c = completes_text 1024 c.args.bytes.now c.loop-start.start c.loop-start.tokens.items (omega arith) c.loop-start.invariant.done
