use Rattle.std.proofs.Common.{◌≡◌, sym, ap, ◌∙◌, rules, tests, eq-eqb, false}
use Rattle.mau_terms.specs.Norm.{is_unit}
use Rattle.mau_store.specs.Trees.{tree_at, trees_at}
use Rattle.mau_store.specs.View.{numbers}
use Rattle.mau_canon.proofs.Elements.{list_of_top}
use Rattle.mau_canon.proofs.list.pieces.Goals as goal

pub returns-then-eq-clause-list : goal.returns-then-eq-clause-list
returns-then-eq-clause-list c =
    let s = c.args.store.now in
    let top : c.in-App.top.0 ≡ c.args.op.0 = search (rules, tests) in
    let none : is_unit c.args.theory.now.id (tree_at s c.args.id.now.0) ≡ false =
    ap (is_unit c.args.theory.now.id) c.view-node.ensures.tree ∙ sym (c.is_identity.ensures (tree_at s)) ∙ c.if-is_identity.false in
    sym (list_of_top c.args.theory.now c.args.op.0 c.in-App.top.0 (trees_at s (numbers c.in-App.args.now)) (tree_at s c.args.id.now.0) c.in-App.ensures.tree none c.if-theory.true (eq-eqb c.in-App.top.0 c.args.op.0 top))
