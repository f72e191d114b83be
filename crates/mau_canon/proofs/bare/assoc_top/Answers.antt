use Rattle.std.proofs.Common.{◌≡◌, ℕ, List, [], sym, ap, ◌∙◌, subst}
use Rattle.mau_terms.specs.Tree.{Tree, apply, trees_of}
use Rattle.mau_terms.specs.Norm.{norm}
use Rattle.mau_terms.specs.Bare.{IsBareIn}
use Rattle.mau_terms.specs.Reading.{reading}
use Rattle.mau_terms.specs.Solution.{assoc_top}
use Rattle.mau_terms.specs.View.{tree_of}
use Rattle.mau_terms.proofs.Normal.{IsNormal, norm_normal}
use Rattle.mau_terms.proofs.Chains.{chain_end}
use Rattle.mau_terms.proofs.Readings.{lead_norm}
use Rattle.mau_terms.proofs.Wholes.{reading_top}
use Rattle.mau_signature.specs.Signature.{terms_over, theory_at}
use Rattle.mau_store.specs.Trees.{tree_at, trees_at}
use Rattle.mau_store.specs.View.{numbers}
use Rattle.mau_store.specs.Node.{Node}
use Rattle.mau_terms.specs.Subst.{instance}
use Rattle.mau_terms.specs.declared.theory.Theory.{Theory}
use Rattle.mau_canon.specs.Values.{values_in}
use Rattle.mau_signature.proofs.Operators.{is_operator}
use Rattle.mau_canon.proofs.Values.{instance_of_none}
use Rattle.mau_canon.proofs.bare.assoc_top.Goals as goal

-- what is stored is the normal form of the term
stored : (th : ℕ → Theory) (nodes start : List Node) (i : ℕ) (t : Tree) → tree_at nodes i ≡ norm th (instance (values_in start [] []) t) → tree_at nodes i ≡ norm th t
stored th nodes start i t e = e ∙ ap (norm th) (instance_of_none [] t)

pub if_assoc-requires : goal.if_assoc-requires
if_assoc-requires c =
    let s = terms_over c.args.sig.now in
    let th = theory_at c.args.sig.now in
    let p = tree_of c.args.term.now in
    let e : norm th p ≡ apply c.in-App.op.0 (trees_of (trees_at c.normalize.new.store (numbers c.in-App.field-1.now))) =
    sym (stored th c.normalize.new.store [] c.in_ok-id.id.0 p c.in_ok-id.ensures.ok.tree) ∙ c.in-App.ensures.tree in
    is_operator c.args.sig.now c.in-App.op.0
    (reading_top s c.in-App.op.0 (trees_of (trees_at c.normalize.new.store (numbers c.in-App.field-1.now))) c.requires.0
    (subst (IsNormal th) e (norm_normal th c.operators.ensures.lawful.theories p))
    (subst (λ t. IsBareIn s (reading th t) c.requires.0) e (chain_end (lead_norm s c.operators.ensures.lawful c.requires.0 p c.requires.1)))).0

pub returns-in-App-clause-top : goal.returns-in-App-clause-top
returns-in-App-clause-top c =
    let th = theory_at c.args.sig.now in
    c.if_assoc.ensures.top
    ∙ ap (assoc_top th) (sym c.in-App.ensures.tree ∙ stored th c.normalize.new.store [] c.in_ok-id.id.0 (tree_of c.args.term.now) c.in_ok-id.ensures.ok.tree)

pub returns-in-Var-clause-top : goal.returns-in-Var-clause-top
returns-in-Var-clause-top c =
    let th = theory_at c.args.sig.now in
    ap (assoc_top th) (sym c.in-Var.ensures.tree ∙ stored th c.normalize.new.store [] c.in_ok-id.id.0 (tree_of c.args.term.now) c.in_ok-id.ensures.ok.tree)

pub returns-clause-top : goal.returns-clause-top
returns-clause-top c =
    let th = theory_at c.args.sig.now in
    ap (assoc_top th) (sym c.in-Num.ensures.tree ∙ stored th c.normalize.new.store [] c.in_ok-id.id.0 (tree_of c.args.term.now) c.in_ok-id.ensures.ok.tree)
