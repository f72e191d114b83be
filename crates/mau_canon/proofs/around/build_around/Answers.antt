use Rattle.std.proofs.Common.{◌≡◌, ◌++◌, ◌∷◌, ◌||◌, List, sym, ap, ap₂, ◌∙◌}
use Rattle.mau_terms.specs.Tree.{Tree, node}
use Rattle.mau_terms.specs.Norm.{norm, holds_overflow}
use Rattle.mau_terms.specs.View.{tree_of}
use Rattle.mau_terms.specs.Subst.{instance}
use Rattle.mau_signature.specs.Signature.{theory_at}
use Rattle.mau_store.specs.Trees.{tree_at, trees_at}
use Rattle.mau_store.specs.View.{numbers}
use Rattle.mau_store.proofs.Growth.{trees_at-extends}
use Rattle.mau_canon.specs.Judging.{is_overflow}
use Rattle.mau_canon.specs.Values.{values_in}
use Rattle.mau_canon.proofs.Elements.{fine_each, trees_at-append}
use Rattle.mau_canon.proofs.Judged.{answer_stands, answer_within, answer_refused}
use Rattle.mau_canon.proofs.Between.{found_around, holds_around}
use Rattle.mau_canon.proofs.Standing.{stand_there}
use Rattle.mau_canon.proofs.around.build_around.Goals as goal
use Rattle.mau_canon.proofs.around.build_around.Goals.{After-drop-behind-2}

-- the term
abbrev lists : (c : After-drop-behind-2) → List Tree
lists c = trees_at c.args.store.now (numbers c.args.left.now)

abbrev rests : (c : After-drop-behind-2) → List Tree
rests c = trees_at c.args.store.now (numbers c.args.right.now)

abbrev part : (c : After-drop-behind-2) → Tree
part c = instance (values_in c.args.store.now c.args.variables.now c.args.values.now) (tree_of c.args.term.now)

abbrev term : (c : After-drop-behind-2) → Tree
term c = node c.args.op.0 (lists c ++ part c ∷ rests c)

-- the number that was found is that of the normal form
found : (c : After-drop-behind-2) → tree_at c.normal_form.new.store c.in_ok-id.id.0 ≡ norm (theory_at c.args.sig.now) (term c)
found c =
    let th = theory_at c.args.sig.now in
    let mid = c.collect.new.store in
    let same : trees_at mid (numbers c.args.right.now) ≡ rests c = trees_at-extends c.args.store.now mid (numbers c.args.right.now) c.in_ok-below.ensures.extends (stand_there th c.args.store.now (numbers c.args.right.now) c.requires.right) in
    c.in_ok-id.ensures.ok.tree
    ∙ found_around th c.args.op.0 (lists c) (rests c) (part c) (fine_each th c.args.store.now (numbers c.args.left.now) c.requires.left) (fine_each th c.args.store.now (numbers c.args.right.now) c.requires.right)
    c.theory-theory.result.now c.theory-theory.ensures.value _ _ _ _
    c.in_ok-items.ensures.list c.in_ok-below.ensures.list
    (c.in_ok-behind.ensures.list ∙ ap (λ xs. Rattle.mau_terms.specs.Norm.all_pieces c.theory-theory.result.now.assoc c.theory-theory.result.now.id c.args.op.0 xs) same)
    (ap (λ xs. trees_at mid (numbers xs)) c.in_ok-extend_from_slice.ensures.items ∙ trees_at-append mid c.collect.new.items.items c.deref.result.now ∙ ap (λ xs. trees_at mid (numbers c.collect.new.items.items) ++ trees_at mid (numbers xs)) c.deref.ensures.value)

overflows : (c : After-drop-behind-2) → (c.in_ok-below.below || c.is_overflow-here.result) ≡ holds_overflow (theory_at c.args.sig.now) (norm (theory_at c.args.sig.now) (term c))
overflows c =
    let th = theory_at c.args.sig.now in
    ap₂ (λ x y. x || y) c.in_ok-below.ensures.overflows (c.is_overflow-here.ensures ∙ ap₂ (λ h t. is_overflow h.succ c.args.op.0 t) c.theory-theory.ensures.value (found c))
    ∙ sym (holds_around th c.args.op.0 (lists c) (rests c) (part c) (fine_each th c.args.store.now (numbers c.args.left.now) c.requires.left) (fine_each th c.args.store.now (numbers c.args.right.now) c.requires.right) c.theory-theory.ensures.lawful.theories)

pub returns-clause-ok : goal.returns-clause-ok
returns-clause-ok c = answer_stands (theory_at c.args.sig.now) c.normal_form.new.store c.in_ok-id.id (term c) (c.in_ok-below.below || c.is_overflow-here.result) c.in_ok-id.ensures.ok.there (found c) (overflows c) c.judge.result c.judge.ensures.same

pub returns-clause-within : goal.returns-clause-within
returns-clause-within c = answer_within (theory_at c.args.sig.now) c.normal_form.new.store c.in_ok-id.id (term c) (c.in_ok-below.below || c.is_overflow-here.result) c.in_ok-id.ensures.ok.there (found c) (overflows c) c.theory-theory.ensures.lawful.theories c.judge.result c.judge.ensures.same c.judge.ensures.ok

pub returns-clause-refused : goal.returns-clause-refused
returns-clause-refused c = answer_refused (theory_at c.args.sig.now) c.normal_form.new.store c.in_ok-id.id (term c) (c.in_ok-below.below || c.is_overflow-here.result) c.in_ok-id.ensures.ok.there (found c) (overflows c) c.judge.result c.judge.ensures.refused
