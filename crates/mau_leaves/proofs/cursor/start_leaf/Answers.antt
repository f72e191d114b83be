use Rattle.std.proofs.Common.{◌≡◌, [], map, Option, Some, IfSome, refl, sym, ap, ◌∙◌, subst, slice_get}
use Rattle.std.specs.Option.{option_map}
use Rattle.mau_terms.specs.View.{tree_of}
use Rattle.mau_store.specs.Trees.{tree_at}
use Rattle.mau_program.specs.Strategies.{strategy_of}
use Rattle.mau_evaluation.specs.Strategy.{test}
use Rattle.mau_evaluation.specs.OrderedLists.{IsLeaf}
use Rattle.mau_api.specs.Programs.{fragment_of}
use Rattle.mau_api.specs.Answers.{binding_in}
use Rattle.mau_stratrun.specs.Worlds.{values_of}
use Rattle.mau_stratforms.specs.Meanings.{kind_of, meaning_of}
use Rattle.mau_leaves.specs.Given.{pair_by}
use Rattle.mau_leaves.specs.Tests.{IsBegunTest}
use Rattle.mau_leaves.specs.Cursors.{leaf_at}
use Rattle.mau_leaves.specs.declared.testing.TestCursor.{TestCursor}
use Rattle.mau_leaves.proofs.Givens.{pairs_are}
use Rattle.mau_leaves.proofs.Holding.{begins_test}
use Rattle.mau_leaves.proofs.Cursors.{leaf_there}
use Rattle.mau_leaves.proofs.cursor.start_leaf.Goals as goal

pub start_call-requires-clause-called : goal.start_call-requires-clause-called
start_call-requires-clause-called g c = sym c.args_of.ensures ∙ ap (option_map (λ x. x.now)) c.in-Some.is

pub returns-in-Some-2 : goal.returns-in-Some-2
returns-in-Some-2 g c =
    let m = g.E.Evaluator.meanings c.args.evaluator.now in
    let p = c.args.program.now in
    let leaves = c.args.leaves.now in
    let nodes = c.args.store.now in
    let table = g.E.Evaluator.table c.args.evaluator.now in
    let s = c.in-Some-2.test in
    let kind = c.in-Test.kind in
    let pattern = tree_of c.in-Test.pattern in
    let cond = c.in-Test.cond in
    let bound = map pair_by c.args.values.now in
    let told = c.in_ok-test-in-Test.ensures.begun g.L.Lister.with_context m table (record { term = c.requires.term; settled = c.requires.settled }) c.requires.values in
    let begun = subst (λ (o : Option (TestCursor _)). IfSome o (IsBegunTest g.L.Lister.asked g.L.Lister.given g.L.Lister.is_for g.L.Lister.with_context p m nodes table bound kind pattern cond c.args.term)) c.in-Some-2.is told in
    let at : slice_get leaves c.args.leaf.0 ≡ Some c.in-Some-leaf_by.strategy.now = sym c.leaf_by.ensures ∙ ap (option_map (λ x. x.now)) c.in-Some-leaf_by.is in
    let own : meaning_of c.in-Some-leaf_by.strategy.now ≡ test (kind_of kind) pattern (map fragment_of cond) = ap meaning_of (sym c.form.ensures ∙ ap strategy_of c.in-Test.is) in
    let form : leaf_at leaves c.args.leaf.0 ≡ test (kind_of kind) pattern (map fragment_of cond) = leaf_there leaves c.args.leaf.0 c.in-Some-leaf_by.strategy.now at ∙ own in
    let values : values_of (tree_at nodes) c.args.values.now ≡ binding_in nodes bound = sym (pairs_are nodes c.args.values.now) in
    record {
      yields = record {
        results = [];
        yielded = refl;
        form = subst IsLeaf (sym form) tt;
        test = begun.test;
        rest =
            begins_test g.L.Lister.asked g.L.Lister.given g.L.Lister.is_for g.L.Lister.with_context p m nodes table bound kind pattern cond c.args.term s begun c.requires.runnable.reducible.lawful
            (record { form = leaf_at leaves c.args.leaf.0; calls = c.args.calls; values = values_of (tree_at nodes) c.args.values.now }) form values;
      };
    }
