use Rattle.std.proofs.Common.{◌≡◌, map, length, ap, sym, ◌∙◌, subst, IfOk}
use Rattle.mau_terms.specs.Tree.{node}
use Rattle.mau_store.specs.Node.{AreOf, AreBelow, arguments, numeral_node, variable_node, operator_node}
use Rattle.mau_store.specs.Trees.{tree_at, tree_over}
use Rattle.mau_store.specs.View.{node_of, numbers}
use Rattle.mau_prove.proofs.Copied.{numbers_there, trees_copied, there_of, tree_of_copy}
use Rattle.mau_prove.proofs.copies.add_copy.Goals as goal

pub intern-requires-in-App : goal.intern-requires-in-App
intern-requires-in-App c =
    let ids = c.args.ids.now in
    let below = subst (λ n. AreBelow (length ids) (arguments (node_of n))) c.in-App.is c.requires.older in
    subst (AreOf c.args.store.now) (sym (ap numbers c.deref.ensures.value ∙ c.in-Ok.ensures))
    (numbers_there c.requires.copies.0 c.args.store.now ids c.requires.copies.1 (numbers c.in-App.args.now) below)

pub returns-in-Num-clause-there : goal.returns-in-Num-clause-there
returns-in-Num-clause-there c = there_of c.intern.new.self (numeral_node c.in-Num.value) c.intern.result c.intern.ensures.ok

pub returns-in-Var-clause-there : goal.returns-in-Var-clause-there
returns-in-Var-clause-there c =
    there_of c.intern-in-Var.new.self (variable_node c.in-Var.variable.index c.in-Var.variable.sort) c.intern-in-Var.result c.intern-in-Var.ensures.ok

pub returns-in-Ok-clause-there : goal.returns-in-Ok-clause-there
returns-in-Ok-clause-there c =
    there_of c.intern-in-App.new.self (operator_node c.in-App.op.0 (numbers c.deref.result.now)) c.intern-in-App.result c.intern-in-App.ensures.ok

pub returns-in-Ok-clause-tree : goal.returns-in-Ok-clause-tree
returns-in-Ok-clause-tree c old h =
    let nodes = c.intern-in-App.new.self in
    let ids = c.args.ids.now in
    let f = c.in-App.op.0 in
    let args = numbers c.in-App.args.now in
    let below = subst (λ n. AreBelow (length ids) (arguments (node_of n))) c.in-App.is c.requires.older in
    let same = ap numbers c.deref.ensures.value ∙ c.in-Ok.ensures in
    subst (λ n. IfOk c.intern-in-App.result (λ id. tree_at nodes id.0 ≡ tree_over (tree_at old) (node_of n))) (sym c.in-App.is)
    (tree_of_copy nodes (node f (map (tree_at c.args.store.now) (numbers c.deref.result.now))) (node f (map (tree_at old) args)) c.intern-in-App.result
    (ap (λ ks. node f (map (tree_at c.args.store.now) ks)) same ∙ ap (node f) (trees_copied old c.args.store.now ids h args below)) c.intern-in-App.ensures.tree)
