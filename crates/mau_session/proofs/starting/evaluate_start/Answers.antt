use Rattle.std.proofs.Common.{Bool, Result, Ok, Err, subst}
use Rattle.std.specs.Prelude.{IfErr}
use Rattle.std.proofs.lemmas.Result.{IfOk-weaker}
use Rattle.mau_terms.specs.Tree.{Tree}
use Rattle.mau_terms.specs.Bare.{IsLawful}
use Rattle.mau_terms.specs.Norm.{norm}
use Rattle.mau_terms.specs.View.{tree_of}
use Rattle.mau_signature.specs.Signature.{SignatureOf, terms_over, theory_at}
use Rattle.mau_store.specs.Trees.{StandsFor, tree_at}
use Rattle.mau_canon.specs.Within.{IsCause}
use Rattle.mau_canon.specs.declared.fault.BuildFault.TheVariants.{TooDeep, Overflow}
use Rattle.mau_evaluation.specs.Run.{End, stopped, too_deep, overflowed}
use Rattle.mau_api.specs.Meanings.{Meanings}
use Rattle.mau_api.specs.Answers.{uses_results}
use Rattle.mau_api.specs.Terms.{IsTerm}
use Rattle.mau_api.specs.declared.results.EvalEnd.{EvalEnd}
use Rattle.mau_api.specs.declared.results.EvalEnd.TheVariants as Ended
use Rattle.mau_results.specs.Results.{gives_value, ends_by, MayAnswer}
use Rattle.mau_results.proofs.Normals.{read_term, may_read, may_be_deep, may_overflow}
use Rattle.mau_session.specs.StrategyGains.{MayEndSo}
use Rattle.mau_session.proofs.starting.evaluate_start.Goals as goal

-- what may end the evaluation of one term may end that of the other
moved : (m : Meanings) (w : Bool) (s t : Tree) → ((e : End) → MayAnswer m w s (ends_by e) → MayAnswer m w t (ends_by e)) → (x : EvalEnd) → MayEndSo m w s x → MayEndSo m w t x
moved m w s t f Ended.Stopped h = f stopped h
moved m w s t f Ended.TooDeep h = f too_deep h
moved m w s t f Ended.Overflow h = f overflowed h
moved m w s t f Ended.NoMemory h = tt

on_err : {X E : Type 0} (P Q : E → Type 0) (r : Result X E) → ((e : E) → P e → Q e) → IfErr r P → IfErr r Q
on_err P Q (Ok x) f h = tt
on_err P Q (Err e) f h = f e h

pub evaluate_number-requires-clause-fits : goal.evaluate_number-requires-clause-fits
evaluate_number-requires-clause-fits g c = g.met.E.Evaluator.grows c.args.evaluator.now c.args.store.now c.build_bare.new.store c.build_bare.ensures.extends c.requires.fits

pub evaluate_number-requires-clause-term : goal.evaluate_number-requires-clause-term
evaluate_number-requires-clause-term g c =
    subst (λ (s : SignatureOf). IsTerm s c.build_bare.new.store c.in-Ok.number.0) c.requires.signature
    (read_term c.args.sig.now c.operators.ensures.lawful (tree_of c.args.term.now) c.requires.bare c.build_bare.new.store c.in-Ok.number.0 c.in-Ok.ensures.within c.in-Ok.ensures.ok)

pub returns-in-Ok-clause-value : goal.returns-in-Ok-clause-value
returns-in-Ok-clause-value g c =
    let m = g.E.Evaluator.meanings c.args.evaluator.now in
    let t = tree_of c.args.term.now in
    let lawful : IsLawful (terms_over m.program.sig) = subst (λ (s : SignatureOf). IsLawful (terms_over s)) c.requires.signature c.operators.ensures.lawful in
    let stands : StandsFor (theory_at m.program.sig) c.build_bare.new.store c.in-Ok.number.0 t =
    subst (λ (s : SignatureOf). StandsFor (theory_at s) c.build_bare.new.store c.in-Ok.number.0 t) c.requires.signature c.in-Ok.ensures.ok in
    IfOk-weaker c.evaluate_number.result _ _
    (λ v x. may_read m c.requires.meanings t (uses_results m (g.W.StepWatcher.wanted c.args.watcher.now)) lawful c.build_bare.new.store c.in-Ok.number.0 stands
    (gives_value (tree_at c.evaluate_number.new.store v.term.0) v.sort v.rewrites) x)
    c.evaluate_number.ensures.value

pub returns-in-Ok-clause-ends : goal.returns-in-Ok-clause-ends
returns-in-Ok-clause-ends g c =
    let m = g.E.Evaluator.meanings c.args.evaluator.now in
    let t = tree_of c.args.term.now in
    let w = uses_results m (g.W.StepWatcher.wanted c.args.watcher.now) in
    let s = tree_at c.build_bare.new.store c.in-Ok.number.0 in
    let lawful : IsLawful (terms_over m.program.sig) = subst (λ (s : SignatureOf). IsLawful (terms_over s)) c.requires.signature c.operators.ensures.lawful in
    let stands : StandsFor (theory_at m.program.sig) c.build_bare.new.store c.in-Ok.number.0 t =
    subst (λ (s : SignatureOf). StandsFor (theory_at s) c.build_bare.new.store c.in-Ok.number.0 t) c.requires.signature c.in-Ok.ensures.ok in
    on_err (MayEndSo m w s) (MayEndSo m w t) c.evaluate_number.result
    (moved m w s t (λ e x. may_read m c.requires.meanings t w lawful c.build_bare.new.store c.in-Ok.number.0 stands (ends_by e) x))
    c.evaluate_number.ensures.ends

pub returns-in-Err-TooDeep-clause-ends : goal.returns-in-Err-TooDeep-clause-ends
returns-in-Err-TooDeep-clause-ends g c =
    let m = g.E.Evaluator.meanings c.args.evaluator.now in
    let t = tree_of c.args.term.now in
    may_be_deep m c.requires.meanings t (uses_results m (g.W.StepWatcher.wanted c.args.watcher.now))
    (subst (λ (s : SignatureOf). IsCause (theory_at s) (norm (theory_at s) t) TooDeep) c.requires.signature
    (subst (IsCause (theory_at c.args.sig.now) (norm (theory_at c.args.sig.now) t)) c.in-Err-TooDeep.field-0-is c.in-Err-TooDeep.ensures.refused))

pub returns-in-Err-Overflow-clause-ends : goal.returns-in-Err-Overflow-clause-ends
returns-in-Err-Overflow-clause-ends g c =
    let m = g.E.Evaluator.meanings c.args.evaluator.now in
    let t = tree_of c.args.term.now in
    may_overflow m c.requires.meanings t (uses_results m (g.W.StepWatcher.wanted c.args.watcher.now))
    (subst (λ (s : SignatureOf). IsCause (theory_at s) (norm (theory_at s) t) Overflow) c.requires.signature
    (subst (IsCause (theory_at c.args.sig.now) (norm (theory_at c.args.sig.now) t)) c.in-Err-Overflow.field-0-is c.in-Err-Overflow.ensures.refused))
