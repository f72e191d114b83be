use Rattle.std.proofs.Common.{Result, Ok, Err, sym, subst}
use Rattle.std.specs.Prelude.{IfOk, IfErr}
use Rattle.std.specs.Str.{IsValidUpTo}
use Rattle.mau_tokens.specs.declared.token.TokenFault.TheVariants.{NotUtf8, OpenComment, OpenString, TokenTooLong}
use Rattle.mau_tokens.specs.TokensOf.{not_utf8, utf8}
use Rattle.mau_tokens.proofs.Causes.{cause_in}
use Rattle.mau_tokens.proofs.SpansLemmas.{spans_of, small_of}
use Rattle.mau_tokens.proofs.scan.tokens.Goals as goal

of_ok : {T E : Type 0} (P Q : T → Type 0) (r : Result T E) → ((x : T) → P x → Q x) → IfOk r P → IfOk r Q
of_ok P Q (Ok x) h p = h x p
of_ok P Q (Err e) h p = tt

of_err : {T E : Type 0} (P Q : E → Type 0) (r : Result T E) → ((e : E) → P e → Q e) → IfErr r P → IfErr r Q
of_err P Q (Ok x) h p = tt
of_err P Q (Err e) h p = h e p

pub returns-in-Err-clause-fault : goal.returns-in-Err-clause-fault
returns-in-Err-clause-fault c _ = not_utf8 _ (subst (IsValidUpTo c.args.bytes.now) (sym c.valid_up_to.ensures) c.in-Err.ensures.cases.1)

pub returns-in-Ok-clause-ok : goal.returns-in-Ok-clause-ok
returns-in-Ok-clause-ok c = of_ok _ _ c.scan.result (λ found from. utf8 (Ok found.items) c.in-Ok.ensures.cases.1 from) c.scan.ensures.ok

pub returns-in-Ok-clause-spans : goal.returns-in-Ok-clause-spans
returns-in-Ok-clause-spans c = of_ok _ _ c.scan.result (λ found from. spans_of 1024 c.args.bytes.now found.items c.in-Ok.ensures.cases.1 from) c.scan.ensures.ok

pub returns-in-Ok-clause-short : goal.returns-in-Ok-clause-short
returns-in-Ok-clause-short c = of_ok _ _ c.scan.result (λ found from. small_of 1024 c.args.bytes.now found.items c.in-Ok.ensures.cases.1 from) c.scan.ensures.ok

pub returns-in-Ok-clause-fault : goal.returns-in-Ok-clause-fault
returns-in-Ok-clause-fault c = of_err _ _ c.scan.result (λ fault from other. utf8 (Err fault) c.in-Ok.ensures.cases.1 (from other)) c.scan.ensures.fault

pub returns-in-Ok-clause-not_utf8 : goal.returns-in-Ok-clause-not_utf8
returns-in-Ok-clause-not_utf8 c at is = absurd (cause_in c.args.bytes.now c.scan.result (NotUtf8 at) c.scan.ensures.fault is (λ e. cc))

pub returns-in-Ok-clause-open_comment : goal.returns-in-Ok-clause-open_comment
returns-in-Ok-clause-open_comment c at is = cause_in c.args.bytes.now c.scan.result (OpenComment at) c.scan.ensures.fault is (λ e. cc)

pub returns-in-Ok-clause-open_string : goal.returns-in-Ok-clause-open_string
returns-in-Ok-clause-open_string c at is = cause_in c.args.bytes.now c.scan.result (OpenString at) c.scan.ensures.fault is (λ e. cc)

pub returns-in-Ok-clause-too_long : goal.returns-in-Ok-clause-too_long
returns-in-Ok-clause-too_long c at is = cause_in c.args.bytes.now c.scan.result (TokenTooLong at) c.scan.ensures.fault is (λ e. cc)
