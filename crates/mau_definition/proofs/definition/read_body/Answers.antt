use Rattle.std.proofs.Common.{◌≡◌, false, true, Ok, Err, sym, ap, subst, ◌∙◌}
use Rattle.std.specs.Prelude.{IfOk}
use Rattle.mau_statement.specs.Parts.{Pairs}
use Rattle.mau_declare.specs.Words.{place_at}
use Rattle.mau_strattext.specs.Setting.{setting_of}
use Rattle.mau_strattext.specs.Strategies.{StrategyRead}
use Rattle.mau_strattext.specs.declared.fault.StratFault.TheVariants.{Unexpected}
use Rattle.mau_definition.specs.Definitions.{around, BodyRead, nothing_right, body_reads}
use Rattle.mau_definition.proofs.Told.{err_then, ok_then}
use Rattle.mau_definition.proofs.definition.read_body.Goals as goal

pub returns-then-is_empty-clause-fault : goal.returns-then-is_empty-clause-fault
returns-then-is_empty-clause-fault c =
    let a = around c.args.words.now c.args.context.now c.args.labels.now c.args.names.now in
    subst (λ n. BodyRead a c.args.tokens.now c.args.vars.now c.args.vars.now (Err (Unexpected n)))
    (sym (c.place.ensures ∙ ap (place_at c.args.words.now) c.first_index.ensures.index)) (nothing_right (sym c.is_empty.ensures ∙ c.if-is_empty.true))

pub returns-clause-read : goal.returns-clause-read
returns-clause-read c =
    let a = around c.args.words.now c.args.context.now c.args.labels.now c.args.names.now in
    ok_then (λ x. StrategyRead (setting_of a.words c.args.tokens.now a.context a.labels a.names) c.args.vars.now c.read_strategy.new.vars (Ok x))
    (λ x. BodyRead a c.args.tokens.now c.args.vars.now c.read_strategy.new.vars (Ok x))
    (λ x u. body_reads (Ok x) (sym c.is_empty.ensures ∙ c.if-is_empty.false) u) c.read_strategy.result c.read_strategy.ensures.read

pub returns-clause-fault : goal.returns-clause-fault
returns-clause-fault c =
    let a = around c.args.words.now c.args.context.now c.args.labels.now c.args.names.now in
    err_then (λ f. StrategyRead (setting_of a.words c.args.tokens.now a.context a.labels a.names) c.args.vars.now c.args.vars.now (Err f))
    (λ f. BodyRead a c.args.tokens.now c.args.vars.now c.args.vars.now (Err f))
    (λ f u. body_reads (Err f) (sym c.is_empty.ensures ∙ c.if-is_empty.false) u) c.read_strategy.result c.read_strategy.ensures.fault
