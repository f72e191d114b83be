use Rattle.std.proofs.Common.{map, take, get_or, add-one, sym, ap, ◌∙◌, subst, arith}
use Rattle.std.specs.Prelude.{All}
use Rattle.mau_terms.specs.Norm.{norm}
use Rattle.mau_signature.specs.Signature.{theory_at}
use Rattle.mau_signature.specs.OverSignature.{IsTreeOver}
use Rattle.mau_store.specs.Node.{AreBelow}
use Rattle.mau_store.specs.Trees.{tree_at, trees_at}
use Rattle.mau_terms.specs.declared.ids.TermId.{TermId}
use Rattle.mau_store.specs.View.{numbers}
use Rattle.mau_store.proofs.Standing.{tree_at-extends}
use Rattle.mau_canon.specs.Standing.{StandWithin}
use Rattle.mau_canon.specs.Within.{IsWithin}
use Rattle.mau_canon.proofs.Nesting.{over_each, there_here, over_here}
use Rattle.mau_canon.proofs.Standing.{arguments_stand_within, stands_within_extended, stand_within_extended, stand_there, stand_at}
use Rattle.mau_api.specs.Terms.{fill}
use Rattle.mau_check.proofs.Growing.{extends_trans}
use Rattle.mau_check.proofs.HolesFilled.{filled_node, filled_arguments, stand_push, one_more, marks_extended, all_here, below_here}
use Rattle.mau_check.proofs.Results.{some_then, none_then}
use Rattle.mau_check.proofs.filling.+filling.Goals as goal

pub fill-fill_all-requires : goal.fill-fill_all-requires
fill-fill_all-requires t c =
    let th = theory_at c.args.sig.now in
    let nodes = c.args.store.now in
    let same = c.deref.ensures.value ∙ c.in_ok-args-in-App.ensures.items in
    let ts = trees_at nodes (numbers c.in-App.args.now) in (
      omega arith,
      (
        c.requires.lawful,
        (
          c.requires.marks,
          (
            subst (λ is. AreBelow c.args.context.0 (numbers is)) (sym same) c.in-App.ensures.older,
            (
              subst (λ is. All (IsTreeOver c.args.sig.now) (trees_at nodes (numbers is))) (sym same) (over_each c.args.sig.now ts (subst (IsTreeOver c.args.sig.now) c.in-App.ensures.tree c.requires.over).2),
              (
                subst (λ is. StandWithin th nodes (numbers is)) (sym same) (arguments_stand_within th c.requires.lawful nodes c.in-App.ensures.nodes c.args.context.0 _ c.in-App.ensures.node c.requires.context),
                c.requires.term,
              ),
            ),
          ),
        ),
      ),
    )

pub fill-returns-in-Ok-None-clause-none : goal.fill-returns-in-Ok-None-clause-none
fill-returns-in-Ok-None-clause-none t c w =
    let th = theory_at c.args.sig.now in
    let nodes = c.args.store.now in
    let u = tree_at nodes c.args.term.0 in
    let same = c.deref.ensures.value ∙ c.in_ok-args-in-App.ensures.items in
    (rw c.in-Ok-None.field-0-is at c.in-Ok-None.ensures.none)
    (subst (λ is. All (λ t. IsWithin th (norm th (fill t u))) (trees_at nodes (numbers is))) (sym same)
    (filled_arguments th c.requires.lawful u c.in-App.op.0 (trees_at nodes (numbers c.in-App.args.now)) (tree_at nodes c.args.context.0) c.in-App.ensures.tree w))

pub fill-returns-in-Ok-Some-clause-some : goal.fill-returns-in-Ok-Some-clause-some
fill-returns-in-Ok-Some-clause-some t c =
    let th = theory_at c.args.sig.now in
    let nodes = c.args.store.now in
    let u = tree_at nodes c.args.term.0 in
    let same = c.deref.ensures.value ∙ c.in_ok-args-in-App.ensures.items in
    let list = rw c.in-Ok-Some.field-0-is at c.in-Ok-Some.ensures.some in
    let filled = ap (λ is. trees_at c.fill_all.new.store (numbers is)) c.deref-in-App.ensures.value ∙ list ∙ ap (λ is. map (λ t. norm th (fill t u)) (trees_at nodes (numbers is))) same in
    some_then _ _ (λ id e. e ∙ filled_node th c.requires.lawful u c.in-App.op.0 (trees_at nodes (numbers c.in-App.args.now)) (trees_at c.fill_all.new.store (numbers c.deref-in-App.result.now)) (tree_at nodes c.args.context.0) c.in-App.ensures.tree filled)
    c.build_within.result c.build_within.ensures.some

pub fill-returns-in-Ok-Some-clause-none : goal.fill-returns-in-Ok-Some-clause-none
fill-returns-in-Ok-Some-clause-none t c =
    let th = theory_at c.args.sig.now in
    let nodes = c.args.store.now in
    let u = tree_at nodes c.args.term.0 in
    let same = c.deref.ensures.value ∙ c.in_ok-args-in-App.ensures.items in
    let list = rw c.in-Ok-Some.field-0-is at c.in-Ok-Some.ensures.some in
    let filled = ap (λ is. trees_at c.fill_all.new.store (numbers is)) c.deref-in-App.ensures.value ∙ list ∙ ap (λ is. map (λ t. norm th (fill t u)) (trees_at nodes (numbers is))) same in
    none_then _ _ (λ f w. f (subst (IsWithin th) (sym (filled_node th c.requires.lawful u c.in-App.op.0 (trees_at nodes (numbers c.in-App.args.now)) (trees_at c.fill_all.new.store (numbers c.deref-in-App.result.now)) (tree_at nodes c.args.context.0) c.in-App.ensures.tree filled)) w))
    c.build_within.result c.build_within.ensures.none

pub fill_all-fill-requires : goal.fill_all-fill-requires
fill_all-fill-requires t c =
    let th = theory_at c.args.sig.now in
    let old = c.args.store.now in
    let mid = c.loop-context.store in
    let x = c.loop-context.invariant.extends in
    let k = c.loop-context.context-index in
    let there = there_here old c.args.contexts.now k (record { 0 = 0 }) c.loop-context-test.true (stand_there th old (numbers c.args.contexts.now) c.requires.contexts) in (
      omega (arith, below_here c.args.contexts.now c.args.below k (record { 0 = 0 }) c.loop-context-test.true c.requires.below),
      (
        c.requires.lawful,
        (
          marks_extended old mid c.args.marks.now x c.requires.marks,
          (
            subst (IsTreeOver c.args.sig.now) (sym (tree_at-extends old mid _ x there)) (over_here old c.args.sig.now c.args.contexts.now k (record { 0 = 0 }) c.loop-context-test.true c.requires.over),
            (
              stands_within_extended th old mid x _ (stand_at th old c.args.contexts.now k (record { 0 = 0 }) c.loop-context-test.true c.requires.contexts),
              stands_within_extended th old mid x _ c.requires.term,
            ),
          ),
        ),
      ),
    )

pub fill_all-returns-in-Ok-None-clause-none : goal.fill_all-returns-in-Ok-None-clause-none
fill_all-returns-in-Ok-None-clause-none t c all =
    let th = theory_at c.args.sig.now in
    let old = c.args.store.now in
    let mid = c.loop-context.store in
    let x = c.loop-context.invariant.extends in
    let k = c.loop-context.context-index in
    let u = tree_at old c.args.term.0 in
    let there = there_here old c.args.contexts.now k (record { 0 = 0 }) c.loop-context-test.true (stand_there th old (numbers c.args.contexts.now) c.requires.contexts) in
    (rw c.in-Ok-None.field-0-is at c.in-Ok-None.ensures.none)
    (subst (λ v. IsWithin th (norm th (fill v (tree_at mid c.args.term.0)))) (sym (tree_at-extends old mid _ x there))
    (subst (λ v. IsWithin th (norm th (fill (tree_at old (get_or c.args.contexts.now k (let z : TermId = record { 0 = 0 } in z)).0) v))) (sym (tree_at-extends old mid c.args.term.0 x c.requires.term.there))
    (all_here old (λ v. IsWithin th (norm th (fill v u))) c.args.contexts.now k (record { 0 = 0 }) c.loop-context-test.true all)))

pub fill_all-loop-context-preserved : goal.fill_all-loop-context-preserved
fill_all-loop-context-preserved t c =
    let th = theory_at c.args.sig.now in
    let old = c.args.store.now in
    let mid = c.loop-context.store in
    let new = c.fill.new.store in
    let x = c.loop-context.invariant.extends in
    let y = c.fill.ensures.extends in
    let k = c.loop-context.context-index in
    let ids = c.args.contexts.now in
    let d = let z : TermId = record { 0 = 0 } in z in
    let there = there_here old ids k d c.loop-context-test.true (stand_there th old (numbers ids) c.requires.contexts) in
    let found = c.in-Ok-Some.filled in
    record {
      filled =
          ap (λ is. trees_at new (numbers is)) c.in_ok-push.ensures.items
          ∙ one_more th old mid new x y ids c.loop-context.all.items k d found (tree_at old c.args.term.0) (tree_at mid c.args.term.0) (tree_at mid (get_or ids k d).0) c.loop-context-test.true c.loop-context.invariant.within c.loop-context.invariant.filled
          (tree_at-extends old mid _ x there) (tree_at-extends old mid c.args.term.0 x c.requires.term.there) (rw c.in-Ok-Some.field-0-is at c.in-Ok-Some.ensures.some)
          ∙ ap (λ n. map (λ v. norm th (fill v (tree_at old c.args.term.0))) (trees_at old (numbers (take n ids)))) (sym (add-one k));
      within = subst (λ is. StandWithin th new (numbers is)) (sym c.in_ok-push.ensures.items)
          (stand_push th new c.loop-context.all.items found (stand_within_extended th mid new (numbers c.loop-context.all.items) y c.loop-context.invariant.within) (rw c.in-Ok-Some.field-0-is at c.in-Ok-Some.ensures.within));
      extends = extends_trans old mid new x y;
    }
