use Rattle.std.proofs.Common.{◌≡◌, ◌<◌, ◌≤◌, List, [], ◌∷◌, ◌++◌, length, map, All, Result, Ok, Err, None, Some, slice_get, refl, sym, ap, ◌∙◌, subst, arith, rules}
use Rattle.mau_terms.specs.Tree.{Tree}
use Rattle.mau_terms.specs.Bare.{IsBare}
use Rattle.mau_terms.specs.Subst.{instance}
use Rattle.mau_terms.specs.View.{tree_of}
use Rattle.mau_terms.specs.declared.ids.TermId.{TermId}
use Rattle.mau_signature.specs.Signature.{terms_over}
use Rattle.mau_store.specs.Trees.{tree_at, trees_at}
use Rattle.mau_store.specs.View.{numbers}
use Rattle.mau_store.proofs.Growth.{extension_is_preorder}
use Rattle.mau_sorts.proofs.Settling.{kept_on, kept_same}
use Rattle.mau_evaluation.specs.Evaluation.{Binding, look_up}
use Rattle.mau_cond.proofs.Grown.{each, value_grown, bound_grown}
use Rattle.mau_api.specs.Meanings.{Meanings}
use Rattle.mau_api.specs.Programs.{program_over}
use Rattle.mau_api.specs.Answers.{binding_in, IsValueOf}
use Rattle.mau_api.specs.declared.results.EvalEnd.{EvalEnd}
use Rattle.mau_reduce.proofs.Numbered.{at_index, is_among}
use Rattle.mau_rules.specs.Runnable.{GoesBy}
use Rattle.mau_rules.proofs.Shown.{all_in}
use Rattle.mau_evaluation.specs.Engine.{engine_of}
use Rattle.mau_leaves.specs.Steps.{Passes, Throughout}
use Rattle.mau_leaves.specs.Answers.{GivesValue}
use Rattle.mau_leaves.specs.InTurn.{IsEvaluated, left_of_values, only_one}
use Rattle.mau_leaves.proofs.InTurns.{slice_mapped, all_evaluated, one_more, one_valued, none_valued, one_due, none_behind, values_then, and_one}
use Rattle.mau_leaves.proofs.Steps.{none_passed, due_then}
use Rattle.mau_leaves.proofs.values.next_values.Goals as goal

pub loop-index-init : goal.loop-index-init
loop-index-init g c =
    let m = g.E.Evaluator.meanings c.args.evaluator.now in
    let p = c.args.program.now in
    let ts = map (instance (look_up (binding_in c.args.store.now c.args.bound.now))) (map g.T.HasTerm.tree_in c.args.terms.now) in
    record {
      passed = none_passed (program_over p m.hooks) (left_of_values (program_over p m.hooks) ts (trees_at c.args.store.now (numbers c.args.done.now.items)));
      done = c.requires.done;
      count = search rules;
      within = search rules;
      meanings = refl;
      fits = c.requires.fits;
      extends = extension_is_preorder.reflexive c.args.store.now;
      kept = kept_same (g.E.Evaluator.table c.args.evaluator.now);
    }

pub value_under-requires-clause-term : goal.value_under-requires-clause-term
value_under-requires-clause-term g c =
    let x = c.index-terms-index.result in
    let terms = c.args.terms.now in
    let at : slice_get terms c.loop-index.index ≡ Some x = at_index terms terms c.loop-index.index x refl c.loop-index-test.true c.index-terms-index.is in
    let trees = map g.T.HasTerm.tree_in terms in
    let bare = IsBare (terms_over c.args.program.now.sig) in
    subst bare (sym c.term.ensures) (all_in bare trees (g.T.HasTerm.tree_in x) c.requires.terms (is_among trees c.loop-index.index (g.T.HasTerm.tree_in x) (slice_mapped g.T.HasTerm.tree_in terms c.loop-index.index x at)))

pub value_under-requires-clause-bound : goal.value_under-requires-clause-bound
value_under-requires-clause-bound g c =
    let s = c.args.program.now.sig in
    let i = c.loop-index.invariant in
    let before = g.E.Evaluator.table c.args.evaluator.now in
    let now = g.E.Evaluator.table c.loop-index.evaluator in
    each (IsValueOf s c.args.store.now before) (IsValueOf s c.loop-index.store now) (value_grown s c.args.store.now c.loop-index.store before now i.extends i.kept) c.args.bound.now c.requires.bound

pub returns-in-Err-clause-values : goal.returns-in-Err-clause-values
returns-in-Err-clause-values g c =
    let m = g.E.Evaluator.meanings c.args.evaluator.now in
    let p = c.args.program.now in
    let i = c.loop-index.invariant in
    let began = c.args.store.now in
    let now = c.loop-index.store in
    let before = g.E.Evaluator.table c.loop-index.evaluator in
    let new = c.value_under.new.store in
    let after = g.E.Evaluator.table c.value_under.new.evaluator in
    let ids = c.loop-index.done.items in
    let x = c.index-terms-index.result in
    let low = c.loop-index-test.true in
    let at : slice_get c.args.terms.now (length ids) ≡ Some x = ap (slice_get c.args.terms.now) i.count ∙ at_index c.args.terms.now c.args.terms.now c.loop-index.index x refl low c.index-terms-index.is in
    let G = instance (look_up (binding_in began c.args.bound.now)) in
    let same : binding_in now c.args.bound.now ≡ binding_in began c.args.bound.now = bound_grown p.sig began now (g.E.Evaluator.table c.args.evaluator.now) before i.extends i.kept c.args.bound.now c.requires.bound in
    let e = c.value_under.ensures in
    let failed : Result TermId EvalEnd = Err c.in-Err.end in
    let given = subst (λ (t : Tree). GivesValue (program_over p m.hooks) c.args.limit (G t) new failed) c.term.ensures
    (subst (λ (σ : Binding). GivesValue (program_over p m.hooks) c.args.limit (instance (look_up σ) (tree_of c.term.result.now)) new failed) same
    (subst (λ (z : Meanings). GivesValue (program_over p z.hooks) c.args.limit (instance (look_up (binding_in now c.args.bound.now)) (tree_of c.term.result.now)) new failed) i.meanings c.in-Err.ensures.valued)) in
    let P = program_over p m.hooks in
    let ts = map G (map g.T.HasTerm.tree_in c.args.terms.now) in
    let was = left_of_values P ts (trees_at began (numbers c.args.done.now.items)) in
    let here = left_of_values P ts (trees_at now (numbers ids)) in
    let then = left_of_values P ts (trees_at new (numbers ids)) in (
      values_then P was here then i.passed (none_valued g.T.HasTerm.tree_in p c.requires.runnable m.hooks G c.args.terms.now now new before after e.extends e.kept ids i.done x at),
      due_then P c.args.limit was here here None i.passed c.in-Err.end (one_due g.T.HasTerm.tree_in p c.requires.runnable m.hooks G c.args.terms.now now new before after e.extends e.kept ids i.done x at c.args.limit c.in-Err.end given),
    )

pub returns-in-Err-clause-done : goal.returns-in-Err-clause-done
returns-in-Err-clause-done g c =
    let e = c.value_under.ensures in
    all_evaluated c.args.program.now c.loop-index.store c.value_under.new.store (g.E.Evaluator.table c.loop-index.evaluator) (g.E.Evaluator.table c.value_under.new.evaluator) e.extends e.kept c.loop-index.done.items c.loop-index.invariant.done

pub returns-in-Err-clause-kept : goal.returns-in-Err-clause-kept
returns-in-Err-clause-kept g c =
    kept_on (g.E.Evaluator.table c.args.evaluator.now) (g.E.Evaluator.table c.loop-index.evaluator) (g.E.Evaluator.table c.value_under.new.evaluator) c.loop-index.invariant.kept c.value_under.ensures.kept

pub returns-in-Err-push-clause-values : goal.returns-in-Err-push-clause-values
returns-in-Err-push-clause-values g c =
    let m = g.E.Evaluator.meanings c.args.evaluator.now in
    let p = c.args.program.now in
    let i = c.loop-index.invariant in
    let began = c.args.store.now in
    let now = c.loop-index.store in
    let before = g.E.Evaluator.table c.loop-index.evaluator in
    let new = c.value_under.new.store in
    let after = g.E.Evaluator.table c.value_under.new.evaluator in
    let ids = c.loop-index.done.items in
    let x = c.index-terms-index.result in
    let low = c.loop-index-test.true in
    let at : slice_get c.args.terms.now (length ids) ≡ Some x = ap (slice_get c.args.terms.now) i.count ∙ at_index c.args.terms.now c.args.terms.now c.loop-index.index x refl low c.index-terms-index.is in
    let G = instance (look_up (binding_in began c.args.bound.now)) in
    let same : binding_in now c.args.bound.now ≡ binding_in began c.args.bound.now = bound_grown p.sig began now (g.E.Evaluator.table c.args.evaluator.now) before i.extends i.kept c.args.bound.now c.requires.bound in
    let e = c.value_under.ensures in
    let P = program_over p m.hooks in
    let ts = map G (map g.T.HasTerm.tree_in c.args.terms.now) in
    let was = left_of_values P ts (trees_at began (numbers c.args.done.now.items)) in
    let here = left_of_values P ts (trees_at now (numbers ids)) in
    let then = left_of_values P ts (trees_at new (numbers ids)) in (
      subst (λ (js : List TermId). Throughout (engine_of P) was (λ L. Passes (was L) (left_of_values P ts (trees_at new (numbers js)) L))) (sym c.in-Err-push.ensures.items) (values_then P was here then i.passed (none_valued g.T.HasTerm.tree_in p c.requires.runnable m.hooks G c.args.terms.now now new before after e.extends e.kept ids i.done x at)),
      tt,
    )

pub returns-in-Err-push-clause-done : goal.returns-in-Err-push-clause-done
returns-in-Err-push-clause-done g c =
    let e = c.value_under.ensures in
    let new = c.value_under.new.store in
    let after = g.E.Evaluator.table c.value_under.new.evaluator in
    subst (All (IsEvaluated c.args.program.now.sig new after)) (sym c.in-Err-push.ensures.items)
    (all_evaluated c.args.program.now c.loop-index.store new (g.E.Evaluator.table c.loop-index.evaluator) after e.extends e.kept c.loop-index.done.items c.loop-index.invariant.done)

pub returns-in-Err-push-clause-kept : goal.returns-in-Err-push-clause-kept
returns-in-Err-push-clause-kept g c =
    kept_on (g.E.Evaluator.table c.args.evaluator.now) (g.E.Evaluator.table c.loop-index.evaluator) (g.E.Evaluator.table c.value_under.new.evaluator) c.loop-index.invariant.kept c.value_under.ensures.kept

pub loop-index-preserved : goal.loop-index-preserved
loop-index-preserved g c =
    let m = g.E.Evaluator.meanings c.args.evaluator.now in
    let p = c.args.program.now in
    let i = c.loop-index.invariant in
    let began = c.args.store.now in
    let now = c.loop-index.store in
    let before = g.E.Evaluator.table c.loop-index.evaluator in
    let new = c.value_under.new.store in
    let after = g.E.Evaluator.table c.value_under.new.evaluator in
    let ids = c.loop-index.done.items in
    let x = c.index-terms-index.result in
    let low = c.loop-index-test.true in
    let at : slice_get c.args.terms.now (length ids) ≡ Some x = ap (slice_get c.args.terms.now) i.count ∙ at_index c.args.terms.now c.args.terms.now c.loop-index.index x refl low c.index-terms-index.is in
    let G = instance (look_up (binding_in began c.args.bound.now)) in
    let same : binding_in now c.args.bound.now ≡ binding_in began c.args.bound.now = bound_grown p.sig began now (g.E.Evaluator.table c.args.evaluator.now) before i.extends i.kept c.args.bound.now c.requires.bound in
    let e = c.value_under.ensures in
    let found : Result TermId EvalEnd = Ok c.in-Ok.value in
    let given = subst (λ (t : Tree). GivesValue (program_over p m.hooks) c.args.limit (G t) new found) c.term.ensures
    (subst (λ (σ : Binding). GivesValue (program_over p m.hooks) c.args.limit (instance (look_up σ) (tree_of c.term.result.now)) new found) same
    (subst (λ (z : Meanings). GivesValue (program_over p z.hooks) c.args.limit (instance (look_up (binding_in now c.args.bound.now)) (tree_of c.term.result.now)) new found) i.meanings c.in-Ok.ensures.valued)) in
    let P = program_over p m.hooks in
    let ts = map G (map g.T.HasTerm.tree_in c.args.terms.now) in
    let was = left_of_values P ts (trees_at began (numbers c.args.done.now.items)) in
    let here = left_of_values P ts (trees_at now (numbers ids)) in
    let items = c.in-Ok-push.ensures.items in
    let done = all_evaluated p now new before after e.extends e.kept ids i.done in
    record {
      passed = subst (λ (js : List TermId). Throughout (engine_of P) was (λ L. Passes (was L) (left_of_values P ts (trees_at new (numbers js)) L))) (sym items)
          (values_then P was here (left_of_values P ts (trees_at new (numbers (ids ++ c.in-Ok.value ∷ [])))) i.passed (one_valued g.T.HasTerm.tree_in p c.requires.runnable m.hooks G c.args.terms.now now new before after e.extends e.kept ids i.done x at c.in-Ok.value given));
      done = subst (All (IsEvaluated p.sig new after)) (sym items) (and_one (IsEvaluated p.sig new after) ids c.in-Ok.value done c.in-Ok.ensures.evaluated);
      count = ap (λ (js : List TermId). length js) items ∙ (one_more ids c.in-Ok.value ∙ (let n = i.count in omega (arith, n)));
      within = omega (arith, low);
      meanings = e.meanings ∙ i.meanings;
      fits = e.fits;
      extends = extension_is_preorder.transitive began now new i.extends e.extends;
      kept = kept_on (g.E.Evaluator.table c.args.evaluator.now) before after i.kept e.kept;
    }

pub returns-clause-values : goal.returns-clause-values
returns-clause-values g c =
    let m = g.E.Evaluator.meanings c.args.evaluator.now in
    let p = c.args.program.now in
    let i = c.loop-index.invariant in
    let began = c.args.store.now in
    let now = c.loop-index.store in
    let ids = c.loop-index.done.items in
    let G = instance (look_up (binding_in began c.args.bound.now)) in
    let P = program_over p m.hooks in
    let ts = map G (map g.T.HasTerm.tree_in c.args.terms.now) in
    let was = left_of_values P ts (trees_at began (numbers c.args.done.now.items)) in
    let here = left_of_values P ts (trees_at now (numbers ids)) in
    let n = i.count in
    let high = c.loop-index-test.false in
    values_then P was here (only_one (trees_at now (numbers ids))) i.passed (none_behind g.T.HasTerm.tree_in P G c.args.terms.now now ids (omega (arith, n, high)))
