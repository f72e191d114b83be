use Rattle.std.proofs.Common.{◌≡◌, [], true, false, Ok, Err, sym, ap, subst, ◌∙◌, arith}
use Rattle.std.specs.Prelude.{MatchOption}
use Rattle.mau_program.specs.Trees.{call}
use Rattle.mau_statement.specs.Parts.{Pairs, is_empty, begin_of}
use Rattle.mau_strattext.specs.Setting.{setting_of}
use Rattle.mau_strattext.specs.Strategies.{IfTold, StrategyRead}
use Rattle.mau_strattext.specs.declared.fault.StratFault.TheVariants.{Unexpected}
use Rattle.mau_definition.specs.Calls.{call_size, call_tokens, is_call, CallRead, nothing_there, call_unread, no_call, words_behind, call_reads}
use Rattle.mau_definition.proofs.Told.{told_then}
use Rattle.mau_definition.proofs.CallWords.{behind_call, whole_call}
use Rattle.mau_definition.proofs.call.read_call.Goals as goal

pub returns-then-is_empty-clause-fault : goal.returns-then-is_empty-clause-fault
returns-then-is_empty-clause-fault c =
    let ws = c.args.words.now in
    subst (IfTold (λ f. (os : Pairs) → CallRead ws c.args.context.now c.args.names.now c.args.tokens.now c.args.vars.now os (Err f))) (sym c.first_word.ensures)
    (λ os. nothing_there (ap (is_empty ws) (sym c.call_tokens-size.ensures.tokens) ∙ (sym c.is_empty.ensures ∙ c.if-is_empty.true)))

pub returns-in-Err-clause-fault : goal.returns-in-Err-clause-fault
returns-in-Err-clause-fault c =
    let ws = c.args.words.now in
    let x = c.args.context.now in
    let names = c.args.names.now in
    let ns = c.args.vars.now in
    told_then (λ f. (os : Pairs) → StrategyRead (setting_of ws c.call_tokens-size.result.0.now x [] names) ns os (Err f))
    (λ f. (os : Pairs) → CallRead ws x names c.args.tokens.now ns os (Err f))
    (λ f u os. call_unread f (ap (is_empty ws) (sym c.call_tokens-size.ensures.tokens) ∙ (sym c.is_empty.ensures ∙ c.if-is_empty.false))
    (subst (λ ts. StrategyRead (setting_of ws ts x [] names) ns os (Err f)) c.call_tokens-size.ensures.tokens (u os))) c.in-Err.fault c.in-Err.ensures.fault

pub returns-in-Some-clause-fault : goal.returns-in-Some-clause-fault
returns-in-Some-clause-fault c =
    let ws = c.args.words.now in
    let ts = c.args.tokens.now in
    let x = c.args.context.now in
    let names = c.args.names.now in
    let ns = c.args.vars.now in
    let called : c.in-Ok.strategy ≡ call c.in-Ok-Some.call.name c.in-Ok-Some.call.args =
    subst (λ o. MatchOption o (is_call c.in-Ok.strategy ≡ false) (λ y. c.in-Ok.strategy ≡ call y.name y.args)) c.in-Ok-Some.field-0-is c.in-Ok-Some.ensures.call in
    let there = ap (is_empty ws) (sym c.call_tokens-size.ensures.tokens) ∙ (sym c.is_empty.ensures ∙ c.if-is_empty.false) in
    let read = subst (λ zs. StrategyRead (setting_of ws zs x [] names) ns c.read_front.new.vars (Ok (call c.in-Ok-Some.call.name c.in-Ok-Some.call.args))) c.call_tokens-size.ensures.tokens
    (subst (λ y. StrategyRead (setting_of ws c.call_tokens-size.result.0.now x [] names) ns c.read_front.new.vars (Ok y)) called c.in-Ok.ensures.read) in
    λ os. behind_call ws x names ts ns os c.read_front.new.vars c.in-Ok-Some.call.name c.in-Ok-Some.call.args c.call_tokens-size.result.1
    there read c.call_tokens-size.ensures.size c.in-Some.at c.in-Some.ensures.some

pub returns-in-Ok-Some-clause-read : goal.returns-in-Ok-Some-clause-read
returns-in-Ok-Some-clause-read c =
    let ws = c.args.words.now in
    let ts = c.args.tokens.now in
    let x = c.args.context.now in
    let names = c.args.names.now in
    let ns = c.args.vars.now in
    let called : c.in-Ok.strategy ≡ call c.in-Ok-Some.call.name c.in-Ok-Some.call.args =
    subst (λ o. MatchOption o (is_call c.in-Ok.strategy ≡ false) (λ y. c.in-Ok.strategy ≡ call y.name y.args)) c.in-Ok-Some.field-0-is c.in-Ok-Some.ensures.call in
    let there = ap (is_empty ws) (sym c.call_tokens-size.ensures.tokens) ∙ (sym c.is_empty.ensures ∙ c.if-is_empty.false) in
    let read = subst (λ zs. StrategyRead (setting_of ws zs x [] names) ns c.read_front.new.vars (Ok (call c.in-Ok-Some.call.name c.in-Ok-Some.call.args))) c.call_tokens-size.ensures.tokens
    (subst (λ y. StrategyRead (setting_of ws c.call_tokens-size.result.0.now x [] names) ns c.read_front.new.vars (Ok y)) called c.in-Ok.ensures.read) in
    whole_call ws x names ts ns ns c.read_front.new.vars c.in-Ok-Some.call.name c.in-Ok-Some.call.args c.call_tokens-size.result.1
    there read c.call_tokens-size.ensures.size (c.word_behind.ensures.none c.in-None.is)

pub returns-in-Ok-None-clause-fault : goal.returns-in-Ok-None-clause-fault
returns-in-Ok-None-clause-fault c =
    let ws = c.args.words.now in
    let ts = c.args.tokens.now in
    let x = c.args.context.now in
    let names = c.args.names.now in
    let ns = c.args.vars.now in
    let none : is_call c.in-Ok.strategy ≡ false =
    subst (λ o. MatchOption o (is_call c.in-Ok.strategy ≡ false) (λ y. c.in-Ok.strategy ≡ call y.name y.args)) c.in-Ok-None.field-0-is c.in-Ok-None.ensures.call in
    let there = ap (is_empty ws) (sym c.call_tokens-size.ensures.tokens) ∙ (sym c.is_empty.ensures ∙ c.if-is_empty.false) in
    let read = subst (λ zs. StrategyRead (setting_of ws zs x [] names) ns c.read_front.new.vars (Ok c.in-Ok.strategy)) c.call_tokens-size.ensures.tokens c.in-Ok.ensures.read in
    subst (IfTold (λ f. (os : Pairs) → CallRead ws x names ts ns os (Err f))) (sym c.first_word-in-Ok-None.ensures)
    (λ os. no_call c.read_front.new.vars c.in-Ok.strategy there read none)
