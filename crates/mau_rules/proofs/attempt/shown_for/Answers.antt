use Rattle.std.proofs.Common.{◌≡◌, List, map, All, IfOk, IfSome, sym, ap, ◌∙◌, subst}
use Rattle.std.specs.List.{zip}
use Rattle.std.specs.Option.{option_map}
use Rattle.mau_terms.specs.View.{variable_of}
use Rattle.mau_terms.specs.declared.ids.VarId.{VarId}
use Rattle.mau_terms.specs.declared.ids.TermId.{TermId}
use Rattle.mau_signature.specs.Signature.{SignatureOf}
use Rattle.mau_program.specs.declared.program.Program.{Program}
use Rattle.mau_program.specs.declared.statements.Fragment.{Fragment}
use Rattle.mau_program.specs.declared.statements.Rule.{Rule}
use Rattle.mau_evaluation.specs.Evaluation.{look_up}
use Rattle.mau_api.specs.Told.{TellsCondition}
use Rattle.mau_api.specs.Answers.{IsAskable, IsValueOf, binding_in}
use Rattle.mau_reduce.proofs.Numbered.{at_index, one_at}
use Rattle.mau_rules.proofs.Shown.{lawful_rule, executable_here, fragments_here, askable_here, shown_at}
use Rattle.mau_rules.proofs.Named.{named_at}
use Rattle.mau_rules.proofs.Told.{behind_same, behind_told, untold_so}
use Rattle.mau_rules.proofs.attempt.shown_for.Goals as goal

pub bound_by-requires : goal.bound_by-requires
bound_by-requires g c =
    let rule = c.index-items-number.result in
    let at = at_index c.args.program.now.rules c.items.result.now c.args.number rule c.items.ensures c.requires.number c.index-items-number.is in
    let sides = (lawful_rule c.args.program.now c.requires.runnable c.args.number rule at).parts.sides in
    (sides.kind, sides.first)

pub solve-requires-clause-condition : goal.solve-requires-clause-condition
solve-requires-clause-condition g c =
    let p = c.args.program.now in
    let rule = c.index-items-number.result in
    let at = at_index p.rules c.items.result.now c.args.number rule c.items.ensures c.requires.number c.index-items-number.is in
    let exec = executable_here p c.requires.runnable c.args.number rule at c.requires.executable in
    let b = c.in-Ok.ensures in
    let lawful = lawful_rule p c.requires.runnable c.args.number rule at in
    let asked = askable_here p.sig rule lawful exec (fragments_here p c.requires.runnable c.args.number rule at exec) b.0 c.args.solution.now.values b.1 (c.requires.values rule at).one_each in
    subst (λ (s : SignatureOf). IsAskable s (map (λ (y : VarId × TermId). variable_of y.0) c.deref.result.now) c.items-2.result.now) (sym (ap (λ (q : Program). q.sig) c.requires.goes_by.program))
    (subst (λ (bs : List (VarId × TermId)). IsAskable p.sig (map (λ (y : VarId × TermId). variable_of y.0) bs) c.items-2.result.now) (sym (c.deref.ensures.value ∙ b.2))
    (subst (λ (cs : List Fragment). IsAskable p.sig (map (λ (y : VarId × TermId). variable_of y.0) (zip b.0 c.args.solution.now.values)) cs) (sym c.items-2.ensures) asked))

pub solve-requires-clause-bound : goal.solve-requires-clause-bound
solve-requires-clause-bound g c =
    let p = c.args.program.now in
    let rule = c.index-items-number.result in
    let at = at_index p.rules c.items.result.now c.args.number rule c.items.ensures c.requires.number c.index-items-number.is in
    let b = c.in-Ok.ensures in
    let values = (c.requires.values rule at).values b.0 b.1 in
    subst (λ (s : SignatureOf). All (IsValueOf s c.args.store.now (g.E.Evaluator.table c.args.evaluator.now)) c.deref.result.now) (sym (ap (λ (q : Program). q.sig) c.requires.goes_by.program))
    (subst (λ (bs : List (VarId × TermId)). All (IsValueOf p.sig c.args.store.now (g.E.Evaluator.table c.args.evaluator.now)) bs) (sym (c.deref.ensures.value ∙ b.2)) values)

pub returns-clause-known : goal.returns-clause-known
returns-clause-known g c = λ rule there.
    let p = c.args.program.now in
    let m = g.E.Evaluator.meanings c.args.evaluator.now in
    let actual = c.index-items-number.result in
    let at = at_index p.rules c.items.result.now c.args.number actual c.items.ensures c.requires.number c.index-items-number.is in
    let b = c.in-Ok.ensures in
    shown_at p c.requires.runnable m c.requires.goes_by (g.met.E.Evaluator.laws c.args.evaluator.now) (g.W.StepWatcher.wanted c.args.watcher.now) c.args.number actual rule at there c.args.store.now c.args.solution.now b.0 b.1
    c.deref.result.now c.in-Ok.bound.items c.deref.ensures.value b.2 c.items-2.result.now c.items-2.ensures
    (option_map (λ x. (x.0.items, x.1))) c.args.budget.now c.solve.new.budget c.solve.new.store c.solve.result c.solve.ensures.allowed c.solve.ensures.exact c.solve.ensures.left

pub returns-clause-bound : goal.returns-clause-bound
returns-clause-bound g c =
    subst (λ (s : SignatureOf). IfOk c.solve.result (λ o. IfSome o (λ x. All (IsValueOf s c.solve.new.store (g.E.Evaluator.table c.solve.new.self)) x.0.items))) (ap (λ (q : Program). q.sig) c.requires.goes_by.program) c.solve.ensures.values

pub returns-clause-named : goal.returns-clause-named
returns-clause-named g c = λ rule there.
    let p = c.args.program.now in
    let m = g.E.Evaluator.meanings c.args.evaluator.now in
    let actual = c.index-items-number.result in
    let at = at_index p.rules c.items.result.now c.args.number actual c.items.ensures c.requires.number c.index-items-number.is in
    let b = c.in-Ok.ensures in
    named_at p c.requires.runnable m c.requires.goes_by (g.met.E.Evaluator.laws c.args.evaluator.now) (g.W.StepWatcher.wanted c.args.watcher.now) c.args.number actual rule at there
    (executable_here p c.requires.runnable c.args.number actual at c.requires.executable) c.args.store.now b.0 c.args.solution.now.values b.1 (c.requires.values actual at).one_each
    c.deref.result.now c.in-Ok.bound.items c.deref.ensures.value b.2 c.items-2.result.now c.items-2.ensures c.args.budget.now c.solve.new.store c.solve.result c.solve.ensures.allowed

pub returns-clause-told : goal.returns-clause-told
returns-clause-told g c = λ w rule there.
    let p = c.args.program.now in
    let m = g.E.Evaluator.meanings c.args.evaluator.now in
    let actual = c.index-items-number.result in
    let at = at_index p.rules c.items.result.now c.args.number actual c.items.ensures c.requires.number c.index-items-number.is in
    let new = c.solve.new.store in
    let table = g.E.Evaluator.table c.solve.new.self in
    let a = g.W.StepWatcher.told c.args.watcher.now in
    let b = g.W.StepWatcher.told c.solve.new.watcher in
    let cond : c.items-2.result.now ≡ rule.cond = c.items-2.ensures ∙ ap (λ (r : Rule). r.cond) (one_at p.rules c.args.number actual rule at there) in
    subst (λ (cs : List Fragment). IfOk c.solve.result (λ o. IfSome o (λ x. TellsCondition p m.hooks new table a b (look_up (binding_in new x.0.items)) cs x.1))) cond
    (subst (λ (q : Program). IfOk c.solve.result (λ o. IfSome o (λ x. TellsCondition q m.hooks new table a b (look_up (binding_in new x.0.items)) c.items-2.result.now x.1))) c.requires.goes_by.program (c.solve.ensures.told w))

pub returns-clause-untold : goal.returns-clause-untold
returns-clause-untold g c =
    untold_so (g.W.StepWatcher.wanted c.args.watcher.now) c.solve.result (g.W.StepWatcher.told c.solve.new.watcher ≡ g.W.StepWatcher.told c.args.watcher.now) c.solve.ensures.untold c.solve.ensures.silent

pub returns-clause-behind : goal.returns-clause-behind
returns-clause-behind g c =
    behind_told (g.W.StepWatcher.wanted c.args.watcher.now) (g.W.StepWatcher.told c.args.watcher.now) (g.W.StepWatcher.told c.solve.new.watcher) c.solve.ensures.before c.solve.ensures.silent

pub returns-in-Err-clause-behind : goal.returns-in-Err-clause-behind
returns-in-Err-clause-behind g c = behind_same (g.W.StepWatcher.wanted c.args.watcher.now) (g.W.StepWatcher.told c.args.watcher.now)
