use Rattle.std.proofs.Common.{map, length, ap, sym, ◌∙◌, subst, IfOk}
use Rattle.mau_terms.specs.Tree.{numeral, variable, node}
use Rattle.mau_store.specs.Node.{AreOf, AreBelow, arguments, numeral_node, variable_node, operator_node}
use Rattle.mau_store.specs.Trees.{tree_at, tree_over}
use Rattle.mau_store.specs.View.{node_of, numbers as numbers_of}
use Rattle.mau_docheck.specs.Naming.{IsNamed}
use Rattle.mau_docheck.proofs.NamedTerms.{interned, is_named, numbers_there, node_named}
use Rattle.mau_docheck.proofs.naming.add_named.Goals as goal

pub intern-requires-in-App : goal.intern-requires-in-App
intern-requires-in-App c =
    let ids = c.args.numbers.now in
    let below = subst (λ n. AreBelow (length ids) (arguments (node_of n))) c.in-App.is c.requires.older in
    subst (AreOf c.args.store.now) (sym (ap numbers_of c.deref.ensures.value ∙ c.in-Ok.ensures))
    (numbers_there c.args.vars.now c.requires.numbers.0 c.args.store.now ids c.requires.numbers.1 (numbers_of c.in-App.args.now) below)

pub returns-in-Num-clause-named : goal.returns-in-Num-clause-named
returns-in-Num-clause-named c old h =
    let ns = c.args.vars.now in
    let nodes = c.intern.new.self in
    subst (λ n. IfOk c.intern.result (λ id. IsNamed ns nodes id (tree_over (tree_at old) (node_of n)))) (sym c.in-Num.is)
    (interned nodes (numeral_node c.in-Num.value) (numeral c.in-Num.value) (λ id. IsNamed ns nodes id (numeral c.in-Num.value)) c.intern.result c.intern.ensures.ok c.intern.ensures.tree
    (λ id at is. is_named ns nodes id (numeral_node c.in-Num.value) (numeral c.in-Num.value) at is))

pub returns-in-Var-clause-named : goal.returns-in-Var-clause-named
returns-in-Var-clause-named c old h =
    let ns = c.args.vars.now in
    let nodes = c.intern-in-Var.new.self in
    let v = c.in-Var.v in
    let w = c.named_variable.result in
    subst (λ n. IfOk c.intern-in-Var.result (λ id. IsNamed ns nodes id (tree_over (tree_at old) (node_of n)))) (sym c.in-Var.is)
    (interned nodes (variable_node w.index w.sort) (variable w.index w.sort) (λ id. IsNamed ns nodes id (variable v.index v.sort)) c.intern-in-Var.result c.intern-in-Var.ensures.ok c.intern-in-Var.ensures.tree
    (λ id at is. is_named ns nodes id (variable_node w.index w.sort) (variable v.index v.sort) at (is ∙ c.named_variable.ensures)))

pub returns-in-Ok-clause-named : goal.returns-in-Ok-clause-named
returns-in-Ok-clause-named c old h =
    let ns = c.args.vars.now in
    let nodes = c.intern-in-App.new.self in
    let ids = c.args.numbers.now in
    let f = c.in-App.op.0 in
    let args = numbers_of c.in-App.args.now in
    let below = subst (λ n. AreBelow (length ids) (arguments (node_of n))) c.in-App.is c.requires.older in
    let same = ap numbers_of c.deref.ensures.value ∙ c.in-Ok.ensures in
    subst (λ n. IfOk c.intern-in-App.result (λ id. IsNamed ns nodes id (tree_over (tree_at old) (node_of n)))) (sym c.in-App.is)
    (interned nodes (operator_node f (numbers_of c.deref.result.now)) (node f (map (tree_at c.args.store.now) (numbers_of c.deref.result.now)))
    (λ id. IsNamed ns nodes id (node f (map (tree_at old) args))) c.intern-in-App.result c.intern-in-App.ensures.ok c.intern-in-App.ensures.tree
    (λ id at is. is_named ns nodes id (operator_node f (numbers_of c.deref.result.now)) (node f (map (tree_at old) args)) at
    (is ∙ ap (λ ks. node f (map (tree_at c.args.store.now) ks)) same ∙ node_named ns old c.args.store.now ids h f args below)))
