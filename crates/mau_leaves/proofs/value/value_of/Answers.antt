use Rattle.std.proofs.Common.{map, false, Result, Ok, Err, sym, subst}
use Rattle.mau_store.specs.Trees.{tree_at}
use Rattle.mau_store.proofs.Growth.{extension_is_preorder}
use Rattle.mau_sorts.proofs.Settling.{kept_same}
use Rattle.mau_program.specs.declared.program.Program.{Program}
use Rattle.mau_api.specs.Programs.{program_over}
use Rattle.mau_api.specs.Terms.{IsTerm}
use Rattle.mau_api.specs.Answers.{uses_results, AreSettled, IsAllowed, mapped}
use Rattle.mau_api.specs.declared.results.EvalEnd.{EvalEnd}
use Rattle.mau_api.specs.declared.results.Reduced.{Reduced}
use Rattle.mau_rules.specs.Walk.{opened, around_all}
use Rattle.mau_leaves.specs.Answers.{GivesValue}
use Rattle.mau_leaves.specs.Values.{made_by}
use Rattle.mau_leaves.proofs.Limits.{value_known}
use Rattle.mau_leaves.proofs.Valued.{value_as, never_built}
use Rattle.mau_leaves.proofs.value.value_of.Goals as goal

pub returns-in-Err-clause-valued : goal.returns-in-Err-clause-valued
returns-in-Err-clause-valued g c =
    let p = c.args.program.now in
    never_built p (g.E.Evaluator.meanings c.args.evaluator.now) (around_all (λ v. v) (map (opened c.args.store.now) c.args.way.now) (made_by p.sig c.args.store.now c.args.rule.now c.args.term.0 c.args.solution.now c.args.bound.now)) c.args.limit c.placed.new.store c.in-Err.end c.in-Err.ensures.ends

pub evaluate-requires-clause-term : goal.evaluate-requires-clause-term
evaluate-requires-clause-term g c = subst (λ (p : Program). IsTerm p.sig c.placed.new.store c.in-Ok.whole.0) (sym c.requires.goes_by.program) c.in-Ok.ensures.term

pub returns-in-Ok-evaluate-clause-term : goal.returns-in-Ok-evaluate-clause-term
returns-in-Ok-evaluate-clause-term g c = subst (λ (p : Program). IsTerm p.sig c.evaluate.new.store c.in-Ok-evaluate.value.term.0) c.requires.goes_by.program c.in-Ok-evaluate.ensures.term

pub returns-in-Ok-evaluate-clause-settled : goal.returns-in-Ok-evaluate-clause-settled
returns-in-Ok-evaluate-clause-settled g c =
    subst (λ (p : Program). AreSettled p.sig c.evaluate.new.store (g.E.Evaluator.table c.evaluate.new.self) (tree_at c.evaluate.new.store c.in-Ok-evaluate.value.term.0)) c.requires.goes_by.program c.in-Ok-evaluate.ensures.settled

pub returns-in-Ok-evaluate-clause-valued : goal.returns-in-Ok-evaluate-clause-valued
returns-in-Ok-evaluate-clause-valued g c =
    let p = c.args.program.now in
    let m = g.E.Evaluator.meanings c.args.evaluator.now in
    let u = tree_at c.placed.new.store c.in-Ok.whole.0 in
    let w = around_all (λ v. v) (map (opened c.args.store.now) c.args.way.now) (made_by p.sig c.args.store.now c.args.rule.now c.args.term.0 c.args.solution.now c.args.bound.now) in
    let r : Result Reduced EvalEnd = Ok c.in-Ok-evaluate.value in
    let given : GivesValue (program_over p m.hooks) m.limit u c.evaluate.new.store (mapped (λ x. x.term) r) =
    value_known p m c.requires.goes_by.program c.requires.goes_by.defined (g.met.E.Evaluator.laws c.args.evaluator.now) u c.evaluate.new.store r (uses_results m false)
    (subst (λ b. IsAllowed m (uses_results m false) u b c.evaluate.new.store r) c.requires.limit c.in-Ok-evaluate.ensures.allowed) in
    subst (λ b. GivesValue (program_over p m.hooks) b w c.evaluate.new.store (mapped (λ x. x.term) r)) (sym c.requires.limit)
    (value_as p c.requires.runnable m w u c.in-Ok.ensures.value m.limit c.evaluate.new.store (mapped (λ x. x.term) r) given)

pub returns-in-Err-evaluate-clause-valued : goal.returns-in-Err-evaluate-clause-valued
returns-in-Err-evaluate-clause-valued g c =
    let p = c.args.program.now in
    let m = g.E.Evaluator.meanings c.args.evaluator.now in
    let u = tree_at c.placed.new.store c.in-Ok.whole.0 in
    let w = around_all (λ v. v) (map (opened c.args.store.now) c.args.way.now) (made_by p.sig c.args.store.now c.args.rule.now c.args.term.0 c.args.solution.now c.args.bound.now) in
    let r : Result Reduced EvalEnd = Err c.in-Err-evaluate.end in
    let given : GivesValue (program_over p m.hooks) m.limit u c.evaluate.new.store (mapped (λ x. x.term) r) =
    value_known p m c.requires.goes_by.program c.requires.goes_by.defined (g.met.E.Evaluator.laws c.args.evaluator.now) u c.evaluate.new.store r (uses_results m false)
    (subst (λ b. IsAllowed m (uses_results m false) u b c.evaluate.new.store r) c.requires.limit c.in-Err-evaluate.ensures.allowed) in
    subst (λ b. GivesValue (program_over p m.hooks) b w c.evaluate.new.store (mapped (λ x. x.term) r)) (sym c.requires.limit)
    (value_as p c.requires.runnable m w u c.in-Ok.ensures.value m.limit c.evaluate.new.store (mapped (λ x. x.term) r) given)

pub placed-requires-clause-lawful : goal.placed-requires-clause-lawful
placed-requires-clause-lawful g c = c.requires.runnable.reducible.lawful

pub returns-in-Ok-evaluate-clause-extends : goal.returns-in-Ok-evaluate-clause-extends
returns-in-Ok-evaluate-clause-extends g c = extension_is_preorder.transitive c.args.store.now c.placed.new.store c.evaluate.new.store c.in-Ok.ensures.extends c.evaluate.ensures.extends

pub returns-in-Err-evaluate-clause-extends : goal.returns-in-Err-evaluate-clause-extends
returns-in-Err-evaluate-clause-extends g c = extension_is_preorder.transitive c.args.store.now c.placed.new.store c.evaluate.new.store c.in-Ok.ensures.extends c.evaluate.ensures.extends

pub returns-in-Err-clause-fits : goal.returns-in-Err-clause-fits
returns-in-Err-clause-fits g c = g.met.E.Evaluator.grows c.args.evaluator.now c.args.store.now c.placed.new.store c.in-Err.ensures.extends c.requires.fits

pub evaluate-requires-clause-fits : goal.evaluate-requires-clause-fits
evaluate-requires-clause-fits g c = g.met.E.Evaluator.grows c.args.evaluator.now c.args.store.now c.placed.new.store c.in-Ok.ensures.extends c.requires.fits

pub returns-in-Err-clause-kept : goal.returns-in-Err-clause-kept
returns-in-Err-clause-kept g c = kept_same (g.E.Evaluator.table c.args.evaluator.now)
