use Rattle.std.proofs.Common.{◌≡◌, ◌∷◌, List, drop, sym, ap, ◌∙◌, subst}
use Rattle.mau_terms.specs.Tree.{Tree, node}
use Rattle.mau_terms.specs.Norm.{norm}
use Rattle.mau_terms.specs.declared.ids.TermId.{TermId}
use Rattle.mau_signature.specs.Signature.{theory_at}
use Rattle.mau_store.specs.Trees.{tree_at, trees_at}
use Rattle.mau_store.specs.View.{numbers}
use Rattle.mau_canon.specs.Standing.{StandWithin}
use Rattle.mau_canon.specs.Within.{IsCause}
use Rattle.mau_canon.proofs.Elements.{fine_each}
use Rattle.mau_canon.proofs.Judged.{norm-fine}
use Rattle.mau_reduce.specs.Orders.{IsLeaf}
use Rattle.mau_reduce.specs.BuiltOperators.{leaf_tree, before_others}
use Rattle.mau_reduce.proofs.AttemptsLeft.{at_some}
use Rattle.mau_reduce.proofs.KindsKept.{tree_kept, is_term_kept}
use Rattle.mau_reduce.proofs.Limits.{refused_ends_as}
use Rattle.mau_reduce.proofs.Taken.{before_is, before_norm, before_none, leaf_none}
use Rattle.mau_reduce.proofs.taking.before_others.Goals as goal

pub with_first-requires-clause-term : goal.with_first-requires-clause-term
with_first-requires-clause-term c = is_term_kept c.args.sig.now c.args.store.now c.leaf_term.new.store c.args.term.0 c.in-Ok.ensures.extends c.requires.term

pub returns-in-Ok-build-clause-value : goal.returns-in-Ok-build-clause-value
returns-in-Ok-build-clause-value c =
    let th = theory_at c.args.sig.now in
    let s = c.leaf_term.new.store in
    let f = c.in-Ok-Some.op.0 in
    let us = trees_at s (numbers c.in-Ok-Some.args.items) in
    let list = at_some (λ x. (ts : List Tree) × (tree_at s c.args.term.0 ≡ node x.0.0 ts) × (trees_at s (numbers x.1.items) ≡ tree_at s c.in-Ok.first.0 ∷ drop 2 ts)) c.in-Ok-Some.field-0 (c.in-Ok-Some.op, c.in-Ok-Some.args) c.in-Ok-Some.field-0-is c.in-Ok-Some.ensures.list in
    let within = at_some (λ x. StandWithin (theory_at c.args.sig.now) s (numbers x.1.items)) c.in-Ok-Some.field-0 (c.in-Ok-Some.op, c.in-Ok-Some.args) c.in-Ok-Some.field-0-is c.in-Ok-Some.ensures.within in
    let is : before_others th (tree_at c.args.store.now c.args.term.0) (leaf_tree c.args.leaf) ≡ norm th (node f us) =
    before_is th (tree_at c.args.store.now c.args.term.0) (leaf_tree c.args.leaf) f list.0 us (sym (tree_kept th c.args.store.now s c.args.term.0 c.in-Ok.ensures.extends c.requires.term.within) ∙ list.1)
    (list.2 ∙ ap (λ w. w ∷ drop 2 list.0) c.in-Ok.ensures.tree) (norm-fine th f us (fine_each th s (numbers c.in-Ok-Some.args.items) within)) in
    let whole = before_norm th c.requires.lawful.theories (tree_at c.args.store.now c.args.term.0) (leaf_tree c.args.leaf) f us is in
    c.in-Ok-build.ensures.ok ∙ (ap (λ (ids : List TermId). norm th (node f (trees_at s (numbers ids)))) c.deref.ensures.value ∙ sym whole)

pub returns-in-Ok-Some-clause-ends : goal.returns-in-Ok-Some-clause-ends
returns-in-Ok-Some-clause-ends c = λ b.
    let th = theory_at c.args.sig.now in
    let s = c.leaf_term.new.store in
    let f = c.in-Ok-Some.op.0 in
    let us = trees_at s (numbers c.in-Ok-Some.args.items) in
    let list = at_some (λ x. (ts : List Tree) × (tree_at s c.args.term.0 ≡ node x.0.0 ts) × (trees_at s (numbers x.1.items) ≡ tree_at s c.in-Ok.first.0 ∷ drop 2 ts)) c.in-Ok-Some.field-0 (c.in-Ok-Some.op, c.in-Ok-Some.args) c.in-Ok-Some.field-0-is c.in-Ok-Some.ensures.list in
    let within = at_some (λ x. StandWithin (theory_at c.args.sig.now) s (numbers x.1.items)) c.in-Ok-Some.field-0 (c.in-Ok-Some.op, c.in-Ok-Some.args) c.in-Ok-Some.field-0-is c.in-Ok-Some.ensures.within in
    let is : before_others th (tree_at c.args.store.now c.args.term.0) (leaf_tree c.args.leaf) ≡ norm th (node f us) =
    before_is th (tree_at c.args.store.now c.args.term.0) (leaf_tree c.args.leaf) f list.0 us (sym (tree_kept th c.args.store.now s c.args.term.0 c.in-Ok.ensures.extends c.requires.term.within) ∙ list.1)
    (list.2 ∙ ap (λ w. w ∷ drop 2 list.0) c.in-Ok.ensures.tree) (norm-fine th f us (fine_each th s (numbers c.in-Ok-Some.args.items) within)) in
    let whole = before_norm th c.requires.lawful.theories (tree_at c.args.store.now c.args.term.0) (leaf_tree c.args.leaf) f us is in
    refused_ends_as th (norm th (before_others th (tree_at c.args.store.now c.args.term.0) (leaf_tree c.args.leaf))) b c.in-Err-build.fault c.from.result c.from.ensures
    (subst (λ w. IsCause th w c.in-Err-build.fault) (ap (λ (ids : List TermId). norm th (node f (trees_at s (numbers ids)))) c.deref.ensures.value ∙ sym whole) c.in-Err-build.ensures.refused)

pub returns-in-Ok-None-clause-value : goal.returns-in-Ok-None-clause-value
returns-in-Ok-None-clause-value c =
    let th = theory_at c.args.sig.now in
    let leaf : IsLeaf (tree_at c.args.store.now c.args.term.0) =
    subst IsLeaf (tree_kept th c.args.store.now c.leaf_term.new.store c.args.term.0 c.in-Ok.ensures.extends c.requires.term.within) (rw c.in-Ok-None.field-0-is at c.in-Ok-None.ensures.leaf) in
    c.in-Ok.ensures.tree
    ∙ (sym c.requires.taken ∙ ap (norm th) (sym (before_none th (tree_at c.args.store.now c.args.term.0) (leaf_tree c.args.leaf) (leaf_none (tree_at c.args.store.now c.args.term.0) leaf))))
