use Rattle.std.proofs.Common.{◌≡◌, List, length, vec_len, map, rules, sym, ap, ◌∙◌, subst, arith}
use Rattle.std.proofs.lemmas.List.Elements.{All-nil}
use Rattle.mau_terms.specs.Tree.{Tree}
use Rattle.mau_terms.specs.Norm.{norm}
use Rattle.mau_terms.specs.Subst.{Variable}
use Rattle.mau_terms.specs.View.{tree_of, variable_of}
use Rattle.mau_signature.specs.Signature.{theory_at}
use Rattle.mau_store.specs.Trees.{tree_at, trees_at}
use Rattle.mau_store.specs.View.{numbers}
use Rattle.mau_store.proofs.Growth.{extension_is_preorder}
use Rattle.mau_canon.specs.Standing.{StandsWithin, StandWithin}
use Rattle.mau_canon.proofs.Standing.{stand_within_extended}
use Rattle.mau_syntactic.specs.declared.part.Part.{Part}
use Rattle.mau_syntactic.specs.declared.part.Part.TheVariants.{Operator}
use Rattle.mau_syntactic.specs.Filled.{filled}
use Rattle.mau_syntactic.specs.Parts.{parts_of}
use Rattle.mau_syntactic.proofs.Taken.{length_trees, trees_push}
use Rattle.mau_syntactic.proofs.Filling.{last_stands, one_last}
use Rattle.mau_syntactic.proofs.Instances.{begins, can_follow, goes_on, ends}
use Rattle.mau_syntactic.proofs.template.Template.run.Goals as goal

-- what stands for a part that is not there
abbrev other : Part
other = Operator (record { 0 = 0 }) 0

pub loop-part-init : goal.loop-part-init
loop-part-init c =
    let th = theory_at c.args.sig.now in
    let nodes = c.args.store.now in
    let kept : c.self.inside.parts.items ≡ parts_of (map variable_of c.self.inside.variables.items) (tree_of c.self.inside.term) = c.self.invariant in
    record {
      making = begins c.args.sig.now c.operators.ensures.lawful.theories nodes c.args.values.now c.args.self.now c.requires.bare c.requires.values c.requires.one_each c.deref-part-items.result.now _
          (c.deref-part-items.ensures.value ∙ kept ∙ ap (λ (t : Tree × List Variable). parts_of t.1 t.0) c.self.view_is)
          (ap (λ xs. trees_at nodes (numbers xs)) c.clear.ensures.items);
      stack = subst (λ xs. StandWithin th nodes (numbers xs)) (sym c.clear.ensures.items) (All-nil (StandsWithin th nodes));
      extends = extension_is_preorder.reflexive nodes;
    }

pub add-requires-clause-part : goal.add-requires-clause-part
add-requires-clause-part c =
    can_follow c.args.sig.now c.operators.ensures.lawful.theories c.args.store.now c.args.values.now c.args.self.now c.requires.bare c.requires.values c.requires.one_each
    c.deref-part-items.result.now c.loop-part.part-index other c.loop-part.store c.loop-part.stack.items c.loop-part-test.true c.loop-part.invariant.making

pub add-requires-clause-values : goal.add-requires-clause-values
add-requires-clause-values c = stand_within_extended (theory_at c.args.sig.now) c.args.store.now c.loop-part.store (numbers c.args.values.now) c.loop-part.invariant.extends c.requires.values

pub loop-part-preserved : goal.loop-part-preserved
loop-part-preserved c = record {
  making =
      goes_on c.args.sig.now c.operators.ensures.lawful.theories c.args.store.now c.args.values.now c.args.self.now c.requires.bare c.requires.values c.requires.one_each
      c.deref-part-items.result.now c.loop-part.part-index other c.loop-part.store _ _ c.loop-part-test.true c.loop-part.invariant.extends c.loop-part.invariant.making c.in_ok-add.ensures.trees;
  stack = c.in_ok-add.ensures.stack;
  extends = extension_is_preorder.transitive c.args.store.now c.loop-part.store c.add.new.store c.loop-part.invariant.extends c.add.ensures.extends;
}

pub unreachable-requires : goal.unreachable-requires
unreachable-requires c =
    let whole : vec_len c.loop-part.stack ≡ length c.loop-part.stack.items = search rules in
    let none = c.in-None.ensures.cases.0 in
    let size = length_trees c.loop-part.store c.loop-part.stack.items in
    let one = ap length (ends c.args.sig.now c.operators.ensures.lawful.theories c.args.store.now c.args.values.now c.args.self.now c.requires.bare c.requires.values c.requires.one_each c.deref-part-items.result.now c.loop-part.part-index _ (omega arith) c.loop-part.invariant.making) in
    omega (arith, whole, none, size, one)

pub returns-clause-ok : goal.returns-clause-ok
returns-clause-ok c =
    let nodes = c.loop-part.store in
    let rest = c.pop.new.self.items in
    one_last (trees_at nodes (numbers rest)) (tree_at nodes c.in-Some.id.0) (norm (theory_at c.args.sig.now) (filled c.args.store.now c.args.values.now c.args.self.now))
    (sym (ap (λ xs. trees_at nodes (numbers xs)) c.in-Some.ensures.items ∙ trees_push nodes rest c.in-Some.id)
    ∙ ends c.args.sig.now c.operators.ensures.lawful.theories c.args.store.now c.args.values.now c.args.self.now c.requires.bare c.requires.values c.requires.one_each c.deref-part-items.result.now c.loop-part.part-index _ (omega arith) c.loop-part.invariant.making)

pub returns-clause-within : goal.returns-clause-within
returns-clause-within c =
    let th = theory_at c.args.sig.now in
    last_stands th c.loop-part.store c.pop.new.self.items c.in-Some.id (subst (λ xs. StandWithin th c.loop-part.store (numbers xs)) c.in-Some.ensures.items c.loop-part.invariant.stack)
