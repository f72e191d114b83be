use Rattle.std.proofs.Common.{◌≡◌, ◌-◌, ◌++◌, ◌∷◌, [], length, vec_len, rules, take, drop, sym, ap, ap₂, ◌∙◌, subst}
use Rattle.mau_terms.specs.Tree.{node}
use Rattle.mau_terms.specs.Norm.{norm}
use Rattle.mau_signature.specs.Signature.{theory_at}
use Rattle.mau_store.specs.Trees.{tree_at, trees_at}
use Rattle.mau_store.specs.View.{numbers}
use Rattle.mau_canon.specs.Standing.{StandWithin}
use Rattle.mau_syntactic.proofs.Filling.{pushed_trees, pushed_stand, stand_part, stand_front, last_trees, front_trees}
use Rattle.mau_syntactic.proofs.template.replace_last.Goals as goal

pub over-requires-clause-args : goal.over-requires-clause-args
over-requires-clause-args c =
    let th = theory_at c.args.sig.now in
    stand_part th c.args.store.now c.deref.result.now _ _ (subst (λ xs. StandWithin th c.args.store.now (numbers xs)) (sym c.deref.ensures.value) c.requires.stack)

pub returns-clause-trees : goal.returns-clause-trees
returns-clause-trees c =
    let th = theory_at c.args.sig.now in
    let old = c.args.store.now in
    let new = c.over.new.store in
    let items = c.args.stack.now.items in
    let whole : vec_len c.args.stack.now ≡ length items = search rules in
    let k = c.len.result - c.args.count in
    let size : k ≡ length items - c.args.count = ap (λ n. n - c.args.count) (c.len.ensures ∙ whole) in
    let one : tree_at new c.in_ok-id.id.0 ≡ norm th (node c.args.op.0 (drop k (trees_at old (numbers items)))) =
    c.in_ok-id.ensures.ok
    ∙ ap (λ xs. norm th (node c.args.op.0 (trees_at old (numbers (take (length xs - k) (drop k xs)))))) c.deref.ensures.value
    ∙ ap (λ ts. norm th (node c.args.op.0 ts)) (last_trees old items k) in
    pushed_trees th old new (take k items) c.push.new.stack.items c.in_ok-id.id c.over.ensures.extends (stand_front th old items k c.requires.stack)
    (c.in_ok-push.ensures ∙ ap (λ xs. xs ++ c.in_ok-id.id ∷ []) c.truncate.ensures.items)
    ∙ ap₂ (λ ts t. ts ++ t ∷ []) (front_trees old items k) one
    ∙ ap (λ n. take n (trees_at old (numbers items)) ++ norm th (node c.args.op.0 (drop n (trees_at old (numbers items)))) ∷ []) size

pub returns-clause-stack : goal.returns-clause-stack
returns-clause-stack c =
    let th = theory_at c.args.sig.now in
    let old = c.args.store.now in
    let items = c.args.stack.now.items in
    let k = c.len.result - c.args.count in
    pushed_stand th old c.over.new.store (take k items) c.push.new.stack.items c.in_ok-id.id c.over.ensures.extends (stand_front th old items k c.requires.stack)
    (c.in_ok-push.ensures ∙ ap (λ xs. xs ++ c.in_ok-id.id ∷ []) c.truncate.ensures.items) c.in_ok-id.ensures.within
