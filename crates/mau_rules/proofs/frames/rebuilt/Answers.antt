use Rattle.std.proofs.Common.{◌∙◌, List, sym, ap, subst}
use Rattle.mau_terms.specs.Tree.{Tree, node}
use Rattle.mau_terms.specs.Norm.{norm}
use Rattle.mau_terms.specs.Bare.{IsBareIn}
use Rattle.mau_terms.specs.Reading.{reading}
use Rattle.mau_terms.specs.declared.ids.TermId.{TermId}
use Rattle.mau_signature.specs.Signature.{theory_at, terms_over}
use Rattle.mau_store.specs.Trees.{trees_at}
use Rattle.mau_store.specs.View.{numbers}
use Rattle.mau_canon.specs.Standing.{StandWithin}
use Rattle.mau_canon.specs.Within.{IsCause}
use Rattle.mau_reduce.proofs.KindsKept.{term_kept}
use Rattle.mau_reduce.proofs.Limits.{refused_ends_as}
use Rattle.mau_rules.specs.Passes.{frame_in}
use Rattle.mau_rules.proofs.OpenTerms.{frame_tree, frame_kind, frame_bare}
use Rattle.mau_rules.proofs.frames.rebuilt.Goals as goal

pub build-requires-clause-operator : goal.build-requires-clause-operator
build-requires-clause-operator c = (c.requires.frame.under c.in-App.op.0 (numbers c.in-App.field-1.now) c.in-App.ensures.node).operator

pub build-requires-clause-args : goal.build-requires-clause-args
build-requires-clause-args c =
    subst (λ (xs : List TermId). StandWithin (theory_at c.args.sig.now) c.args.store.now (numbers xs)) (sym c.deref.ensures.value)
    (c.requires.frame.under c.in-App.op.0 (numbers c.in-App.field-1.now) c.in-App.ensures.node).within

pub returns-in-Ok-clause-value : goal.returns-in-Ok-clause-value
returns-in-Ok-clause-value c =
    let s = c.args.sig.now in
    let nodes = c.args.store.now in
    c.in-Ok.ensures.ok
    ∙ ap (norm (theory_at s)) (ap (λ (xs : List TermId). node c.in-App.op.0 (trees_at nodes (numbers xs))) c.deref.ensures.value
    ∙ sym (frame_tree s nodes c.in-App.ensures.nodes c.requires.lawful c.args.at.now c.requires.frame c.in-App.op.0 (numbers c.in-App.field-1.now) c.in-App.ensures.node))

pub returns-in-Ok-clause-kind : goal.returns-in-Ok-clause-kind
returns-in-Ok-clause-kind c =
    let s = c.args.sig.now in
    let nodes = c.args.store.now in
    let f = c.in-App.op.0 in
    let ids = numbers c.in-App.field-1.now in
    let x = c.args.at.now in (
      (terms_over s).result f,
      term_kept s nodes c.build.new.store ((terms_over s).result f) x.term.0 c.in-Ok.ensures.extends (frame_kind s nodes c.in-App.ensures.nodes c.requires.lawful x c.requires.frame f ids c.in-App.ensures.node),
      record {
        within = c.in-Ok.ensures.within;
        bare = subst (λ (t : Tree). IsBareIn (terms_over s) (reading (theory_at s) t) ((terms_over s).result f))
            (sym (c.in-Ok.ensures.ok ∙ ap (λ (xs : List TermId). norm (theory_at s) (node f (trees_at nodes (numbers xs)))) c.deref.ensures.value))
            (frame_bare s nodes c.in-App.ensures.nodes c.requires.lawful x c.requires.frame f ids c.in-App.ensures.node);
      },
    )

pub returns-in-Err-clause-ends : goal.returns-in-Err-clause-ends
returns-in-Err-clause-ends c = λ b.
    let s = c.args.sig.now in
    let th = theory_at s in
    let nodes = c.args.store.now in
    let f = c.in-App.op.0 in
    let same = ap (norm th) (ap (λ (xs : List TermId). node f (trees_at nodes (numbers xs))) c.deref.ensures.value
    ∙ sym (frame_tree s nodes c.in-App.ensures.nodes c.requires.lawful c.args.at.now c.requires.frame f (numbers c.in-App.field-1.now) c.in-App.ensures.node)) in
    refused_ends_as th (norm th (frame_in nodes c.args.at.now).0) b c.in-Err.fault c.from.result c.from.ensures (subst (λ (t : Tree). IsCause th t c.in-Err.fault) same c.in-Err.ensures.refused)
