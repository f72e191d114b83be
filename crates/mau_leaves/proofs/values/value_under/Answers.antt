use Rattle.std.proofs.Common.{◌≡◌, ℕ, false, Result, Ok, Err, IfOk, IfErr, sym, ap, subst}
use Rattle.mau_terms.specs.Norm.{norm}
use Rattle.mau_terms.specs.Subst.{instance}
use Rattle.mau_terms.specs.View.{tree_of}
use Rattle.mau_terms.specs.declared.ids.TermId.{TermId}
use Rattle.mau_signature.specs.Signature.{theory_at}
use Rattle.mau_store.specs.Trees.{tree_at}
use Rattle.mau_store.proofs.Growth.{extension_is_preorder}
use Rattle.mau_sorts.proofs.Settling.{kept_same}
use Rattle.mau_program.specs.declared.program.Program.{Program}
use Rattle.mau_evaluation.specs.Evaluation.{Binding, look_up, admit}
use Rattle.mau_api.specs.Programs.{program_over}
use Rattle.mau_api.specs.Terms.{IsTerm}
use Rattle.mau_api.specs.Answers.{binding_in, uses_results, AreSettled, IsAllowed, mapped}
use Rattle.mau_api.specs.declared.results.EvalEnd.{EvalEnd}
use Rattle.mau_api.specs.declared.results.Reduced.{Reduced}
use Rattle.mau_reduce.specs.Bindings.{bound_in}
use Rattle.mau_reduce.specs.Ends.{IsEnd}
use Rattle.mau_leaves.specs.Answers.{GivesValue}
use Rattle.mau_leaves.proofs.Limits.{value_known}
use Rattle.mau_leaves.proofs.Valued.{value_as, never_built}
use Rattle.mau_leaves.proofs.values.value_under.Goals as goal

pub instance-requires-clause-lawful : goal.instance-requires-clause-lawful
instance-requires-clause-lawful g c = c.requires.runnable.reducible.lawful

pub instance-requires-clause-values : goal.instance-requires-clause-values
instance-requires-clause-values g c = c.in-Ok.ensures.values c.args.program.now.sig c.args.store.now (g.E.Evaluator.table c.args.evaluator.now) c.requires.bound

pub returns-in-Err-instance-clause-valued : goal.returns-in-Err-instance-clause-valued
returns-in-Err-instance-clause-valued g c =
    let p = c.args.program.now in
    let nodes = c.args.store.now in
    let t = tree_of c.args.term.now in
    never_built p (g.E.Evaluator.meanings c.args.evaluator.now) (instance (look_up (binding_in nodes c.args.bound.now)) t) c.args.limit c.instance.new.store c.in-Err-instance.end
    (subst (λ (σ : Binding). (b : ℕ) → IsEnd (admit (theory_at p.sig) (instance (look_up σ) t) b) c.in-Err-instance.end) (c.in-Ok.ensures.bound nodes) c.in-Err-instance.ensures.ends)

pub returns-in-Ok-evaluate-clause-valued : goal.returns-in-Ok-evaluate-clause-valued
returns-in-Ok-evaluate-clause-valued g c =
    let p = c.args.program.now in
    let m = g.E.Evaluator.meanings c.args.evaluator.now in
    let nodes = c.args.store.now in
    let t = tree_of c.args.term.now in
    let u = tree_at c.instance.new.store c.in-Ok-instance.whole.0 in
    let w = instance (look_up (binding_in nodes c.args.bound.now)) t in
    let r : Result Reduced EvalEnd = Ok c.in-Ok-evaluate.value in
    let normal : u ≡ norm (theory_at p.sig) w = subst (λ (σ : Binding). u ≡ norm (theory_at p.sig) (instance (look_up σ) t)) (c.in-Ok.ensures.bound nodes) c.in-Ok-instance.ensures.value in
    let given : GivesValue (program_over p m.hooks) m.limit u c.evaluate.new.store (mapped (λ x. x.term) r) =
    value_known p m c.requires.goes_by.program c.requires.goes_by.defined (g.met.E.Evaluator.laws c.args.evaluator.now) u c.evaluate.new.store r (uses_results m false)
    (subst (λ b. IsAllowed m (uses_results m false) u b c.evaluate.new.store r) c.requires.limit c.in-Ok-evaluate.ensures.allowed) in
    subst (λ b. GivesValue (program_over p m.hooks) b w c.evaluate.new.store (mapped (λ x. x.term) r)) (sym c.requires.limit)
    (value_as p c.requires.runnable m w u normal m.limit c.evaluate.new.store (mapped (λ x. x.term) r) given)

pub returns-clause-valued : goal.returns-clause-valued
returns-clause-valued g c =
    let p = c.args.program.now in
    let m = g.E.Evaluator.meanings c.args.evaluator.now in
    let nodes = c.args.store.now in
    let t = tree_of c.args.term.now in
    let u = tree_at c.instance.new.store c.in-Ok-instance.whole.0 in
    let w = instance (look_up (binding_in nodes c.args.bound.now)) t in
    let r : Result Reduced EvalEnd = Err c.in-Err-evaluate.end in
    let normal : u ≡ norm (theory_at p.sig) w = subst (λ (σ : Binding). u ≡ norm (theory_at p.sig) (instance (look_up σ) t)) (c.in-Ok.ensures.bound nodes) c.in-Ok-instance.ensures.value in
    let given : GivesValue (program_over p m.hooks) m.limit u c.evaluate.new.store (mapped (λ x. x.term) r) =
    value_known p m c.requires.goes_by.program c.requires.goes_by.defined (g.met.E.Evaluator.laws c.args.evaluator.now) u c.evaluate.new.store r (uses_results m false)
    (subst (λ b. IsAllowed m (uses_results m false) u b c.evaluate.new.store r) c.requires.limit c.in-Err-evaluate.ensures.allowed) in
    subst (λ b. GivesValue (program_over p m.hooks) b w c.evaluate.new.store (mapped (λ x. x.term) r)) (sym c.requires.limit)
    (value_as p c.requires.runnable m w u normal m.limit c.evaluate.new.store (mapped (λ x. x.term) r) given)
