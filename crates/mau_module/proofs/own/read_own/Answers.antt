use Rattle.std.proofs.Common.{◌+◌, sym, ap, subst, ◌∙◌, Err, Ok, arith}
use Rattle.std.specs.Option.{option_copied}
use Rattle.mau_definition.specs.Definitions.{around}
use Rattle.mau_module.specs.Stated.{StatedRead, OwnRead, only_strats, none_left}
use Rattle.mau_module.specs.Made.{AreLawfulOver}
use Rattle.mau_module.proofs.Adding.{one_added, strats_lawful}
use Rattle.mau_module.proofs.Owns.{passed, read, refused, numbered}
use Rattle.std.proofs.Math.ListN.{drop_of_length-le}
use Rattle.mau_module.proofs.own.read_own.Goals as goal
use Rattle.mau_module.proofs.own.read_own.Goals.{in-Some+in-Ok+in_ok-add-in-Ok, in-None}

pub loop-element-init : goal.loop-element-init
loop-element-init c = record {
  few = omega arith;
  rest = λ r o. subst (λ a. OwnRead (around c.args.words.now c.args.context.now c.args.labels.now c.args.names.now) a 1 c.args.elements.now r) c.of_strats-own.ensures o;
  lawful = subst (AreLawfulOver c.args.context.now.signature) (sym c.of_strats-own.ensures) (strats_lawful c.args.context.now.signature c.args.strats.items);
}

pub loop-element-preserved : goal.loop-element-preserved
loop-element-preserved c =
    elim c.match-statement_in.branch [
      | in-Some+in-Ok+in_ok-add-in-Ok w ↦ record {
        few = omega (arith, w.before-is, c.loop-element.invariant.few);
        rest = λ r o. c.loop-element.invariant.rest r (read (around c.args.words.now c.args.context.now c.args.labels.now c.args.names.now) c.args.elements.now c.loop-element.own c.loop-element.before c.loop-element.element-index c.element-item.result
            (omega (arith, c.loop-element-test.true)) c.element-item.is r c.match-statement_in.own c.match-statement_in.before w.in-Some.raw.now w.in-Ok.statement (sym c.statement_in.ensures ∙ ap option_copied w.in-Some.is) w.in-Ok.ensures.read
            (w.own-is ∙ w.in_ok-add-in-Ok.ensures) w.before-is o);
        lawful = one_added c.args.context.now.signature c.loop-element.own c.match-statement_in.own w.in-Ok.statement (w.own-is ∙ w.in_ok-add-in-Ok.ensures) c.loop-element.invariant.lawful w.in-Ok.ensures.lawful;
      }
      | in-None w ↦ record {
        few = omega (arith, w.before-is, c.loop-element.invariant.few);
        rest = λ r o. c.loop-element.invariant.rest r (passed (around c.args.words.now c.args.context.now c.args.labels.now c.args.names.now) c.args.elements.now c.loop-element.own c.loop-element.before c.loop-element.element-index c.element-item.result
            (omega (arith, c.loop-element-test.true)) c.element-item.is r c.match-statement_in.own c.match-statement_in.before (sym c.statement_in.ensures ∙ ap option_copied w.in-None.is) w.own-is w.before-is o);
        lawful = subst (AreLawfulOver c.args.context.now.signature) (sym w.own-is) c.loop-element.invariant.lawful;
      }
    ]

pub returns-in-Err-clause-at_fault : goal.returns-in-Err-clause-at_fault
returns-in-Err-clause-at_fault c =
    numbered (c.loop-element.before + 1) (λ f. StatedRead (around c.args.words.now c.args.context.now c.args.labels.now c.args.names.now) c.in-Some.raw.now (Err f)) (λ i f. OwnRead (around c.args.words.now c.args.context.now c.args.labels.now c.args.names.now) (only_strats c.args.strats.items) 1 c.args.elements.now (Err (i, f)))
    (λ f s. c.loop-element.invariant.rest (Err (c.loop-element.before + 1, f)) (refused (around c.args.words.now c.args.context.now c.args.labels.now c.args.names.now) c.args.elements.now c.loop-element.own c.loop-element.before c.loop-element.element-index c.element-item.result
    (omega (arith, c.loop-element-test.true)) c.element-item.is c.in-Some.raw.now f (sym c.statement_in.ensures ∙ ap option_copied c.in-Some.is) s))
    c.in-Err.fault c.of_stated.result c.of_stated.ensures c.in-Err.ensures.fault

pub returns-clause-ok : goal.returns-clause-ok
returns-clause-ok c =
    c.loop-element.invariant.rest (Ok c.loop-element.own) (subst (λ xs. OwnRead (around c.args.words.now c.args.context.now c.args.labels.now c.args.names.now) c.loop-element.own (c.loop-element.before + 1) xs (Ok c.loop-element.own))
    (sym (drop_of_length-le c.args.elements.now (omega (arith, c.loop-element-test.false)))) (none_left c.loop-element.own (c.loop-element.before + 1)))
