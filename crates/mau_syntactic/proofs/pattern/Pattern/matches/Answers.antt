use Rattle.std.proofs.Common.{◌≡◌, ◌∷◌, [], ◌<◌, ◌++◌, suc, length, drop, add-one, sym, ap, ◌∙◌, subst, arith}
use Rattle.std.proofs.lemmas.List.Elements.{All-nil, All-cons}
use Rattle.std.proofs.Math.ListN.{drop_of_length-le}
use Rattle.mau_store.specs.Node.{AreOf}
use Rattle.mau_store.specs.Trees.{tree_at, trees_at}
use Rattle.mau_store.specs.View.{numbers}
use Rattle.mau_syntactic.specs.declared.step.Step.{Step}
use Rattle.mau_syntactic.specs.declared.step.Step.TheVariants.{Operator}
use Rattle.mau_syntactic.specs.Steps.{steps_of}
use Rattle.mau_syntactic.proofs.Walk.{IsLeft, begun, next_step, after_step, none_matches, all_taken}
use Rattle.mau_syntactic.proofs.Taken.{stacked}
use Rattle.mau_syntactic.proofs.Below.{values_stand}
use Rattle.mau_syntactic.proofs.pattern.Pattern.matches.Goals as goal

pub loop-step-init : goal.loop-step-init
loop-step-init c =
    let nodes = c.args.store.now in
    let cleared : c.push.new.self.items ≡ c.args.subject ∷ [] = c.in_ok-push.ensures.items ∙ ap (λ xs. xs ++ c.args.subject ∷ []) c.clear-2.ensures.items in
    let none : c.clear.new.self.items ≡ [] = c.clear.ensures.items in
    record {
      left = begun c.args.self.now (tree_at nodes c.args.subject.0) c.deref-step-items.result.now _ _
          (c.deref-step-items.ensures.value ∙ c.self.invariant.steps ∙ ap (steps_of []) c.self.view_is)
          (ap (stacked nodes) cleared)
          (ap (λ xs. trees_at nodes (numbers xs)) none);
      values = subst (λ xs. AreOf nodes (numbers xs)) (sym none) (All-nil (λ i. i < length nodes));
      stack = subst (λ xs. AreOf nodes (numbers xs)) (sym cleared) (All-cons (λ i. i < length nodes) c.args.subject.0 [] c.requires (All-nil (λ i. i < length nodes)));
    }

-- what stands for a step that is not there
abbrev other : Step
other = Operator (record { 0 = 0 }) 0

pub returns-then-not-taken-clause-missed : goal.returns-then-not-taken-clause-missed
returns-then-not-taken-clause-missed c = λ _.
    none_matches c.args.self.now (tree_at c.args.store.now c.args.subject.0) (drop (suc c.loop-step.step-index) c.deref-step-items.result.now) _ _ _
    (c.in_ok-taken.ensures.refused c.if-not-taken.true) (next_step c.args.self.now (tree_at c.args.store.now c.args.subject.0) c.deref-step-items.result.now _ _ c.loop-step.step-index other c.loop-step-test.true c.loop-step.invariant.left)

pub loop-step-preserved : goal.loop-step-preserved
loop-step-preserved c = record {
  left =
      subst (λ n. IsLeft c.args.self.now (tree_at c.args.store.now c.args.subject.0) (drop n c.deref-step-items.result.now) (stacked c.args.store.now c.follow.new.stack.items) (trees_at c.args.store.now (numbers c.follow.new.values.items)))
      (sym (add-one c.loop-step.step-index))
      (after_step c.args.self.now (tree_at c.args.store.now c.args.subject.0) (drop (suc c.loop-step.step-index) c.deref-step-items.result.now) _ _ _ _ _
      (c.in_ok-taken.ensures.taken c.if-not-taken.false) (next_step c.args.self.now (tree_at c.args.store.now c.args.subject.0) c.deref-step-items.result.now _ _ c.loop-step.step-index other c.loop-step-test.true c.loop-step.invariant.left));
  values = c.in_ok-taken.ensures.values;
  stack = c.in_ok-taken.ensures.stack;
}

done : (c : goal.After-loop-step) → IsLeft c.args.self.now (tree_at c.args.store.now c.args.subject.0) [] (stacked c.args.store.now c.loop-step.stack.items) (trees_at c.args.store.now (numbers c.loop-step.values.items))
done c = subst (λ ss. IsLeft c.args.self.now (tree_at c.args.store.now c.args.subject.0) ss (stacked c.args.store.now c.loop-step.stack.items) (trees_at c.args.store.now (numbers c.loop-step.values.items))) (drop_of_length-le c.deref-step-items.result.now (omega arith)) c.loop-step.invariant.left

pub returns-clause-found : goal.returns-clause-found
returns-clause-found c = λ _.
    let nodes = c.args.store.now in
    all_taken c.args.self.now (tree_at nodes c.args.subject.0) _ _ (done c)

pub returns-clause-within : goal.returns-clause-within
returns-clause-within c = λ _ th lawful stands.
    let nodes = c.args.store.now in
    values_stand th lawful nodes c.args.subject.0 c.loop-step.values.items c.args.self.now stands c.loop-step.invariant.values (all_taken c.args.self.now (tree_at nodes c.args.subject.0) _ _ (done c))
