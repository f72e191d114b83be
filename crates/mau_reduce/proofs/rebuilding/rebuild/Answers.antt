use Rattle.std.proofs.Common.{◌≡◌, sym, ap, ◌∙◌, subst}
use Rattle.mau_terms.specs.Tree.{node}
use Rattle.mau_terms.specs.Norm.{norm, build}
use Rattle.mau_terms.specs.Bare.{IsBareIn}
use Rattle.mau_terms.specs.Reading.{reading}
use Rattle.mau_signature.specs.Signature.{theory_at, terms_over}
use Rattle.mau_store.specs.Trees.{tree_at, trees_at}
use Rattle.mau_store.specs.View.{numbers}
use Rattle.mau_canon.specs.Within.{IsCause}
use Rattle.mau_canon.proofs.Elements.{fine_each}
use Rattle.mau_canon.proofs.Judged.{norm-fine}
use Rattle.mau_evaluation.specs.Evaluation.{within_limits, top_changed}
use Rattle.mau_reduce.proofs.KindsKept.{under_kept, trees_kept, built_in_kind}
use Rattle.mau_reduce.proofs.Limits.{refused_ends_as, within_given}
use Rattle.mau_reduce.proofs.rebuilding.rebuild.Goals as goal

pub returns-in-Err-clause-ends : goal.returns-in-Err-clause-ends
returns-in-Err-clause-ends c = λ b.
    let th = theory_at c.args.sig.now in
    let ts = trees_at c.args.store.now (numbers c.args.args.now) in
    refused_ends_as th (build (th c.args.op.0) c.args.op.0 ts) b c.in-Err.fault c.from.result c.from.ensures
    (subst (λ t. IsCause th t c.in-Err.fault) (norm-fine th c.args.op.0 ts (fine_each th c.args.store.now (numbers c.args.args.now) c.requires.under.within)) c.in-Err.ensures.refused)

pub top_changed-changed-requires-clause-under : goal.top_changed-changed-requires-clause-under
top_changed-changed-requires-clause-under c = under_kept c.args.sig.now c.args.store.now c.build.new.store c.args.op.0 (numbers c.args.args.now) c.in-Ok.ensures.extends c.requires.under

pub top_changed-changed-requires-clause-is : goal.top_changed-changed-requires-clause-is
top_changed-changed-requires-clause-is c =
    c.in-Ok.ensures.ok ∙ ap (λ ts. norm (theory_at c.args.sig.now) (node c.args.op.0 ts)) (sym (trees_kept (theory_at c.args.sig.now) c.args.store.now c.build.new.store (numbers c.args.args.now) c.in-Ok.ensures.extends c.requires.under.within))

pub returns-clause-value : goal.returns-clause-value
returns-clause-value c = λ b.
    let th = theory_at c.args.sig.now in
    let ts = trees_at c.args.store.now (numbers c.args.args.now) in
    let e : tree_at c.build.new.store c.in-Ok.term.0 ≡ build (th c.args.op.0) c.args.op.0 ts = c.in-Ok.ensures.ok ∙ norm-fine th c.args.op.0 ts (fine_each th c.args.store.now (numbers c.args.args.now) c.requires.under.within) in
    ap (λ t. within_limits th t b) (sym e) ∙ within_given th (tree_at c.build.new.store c.in-Ok.term.0) b c.in-Ok.ensures.within.within

pub returns-clause-changed : goal.returns-clause-changed
returns-clause-changed c =
    c.top_changed-changed.ensures
    ∙ ap (λ ts. top_changed (theory_at c.args.sig.now c.args.op.0) c.args.order.now c.args.op.0 ts (tree_at c.build.new.store c.in-Ok.term.0))
    (trees_kept (theory_at c.args.sig.now) c.args.store.now c.build.new.store (numbers c.args.args.now) c.in-Ok.ensures.extends c.requires.under.within)

pub returns-clause-term : goal.returns-clause-term
returns-clause-term c = record {
  within = c.in-Ok.ensures.within;
  bare = subst (λ t. IsBareIn (terms_over c.args.sig.now) (reading (theory_at c.args.sig.now) t) ((terms_over c.args.sig.now).result c.args.op.0)) (sym c.in-Ok.ensures.ok)
      (built_in_kind c.args.sig.now c.requires.lawful c.args.store.now c.args.op.0 (numbers c.args.args.now) c.requires.under);
}
