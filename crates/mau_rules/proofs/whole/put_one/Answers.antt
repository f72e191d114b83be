use Rattle.std.proofs.Common.{◌≡◌, ◌-◌, ℕ, suc, List, sym, ap, ◌∙◌, subst, arith}
use Rattle.mau_terms.specs.Tree.{Tree, node}
use Rattle.mau_terms.specs.Norm.{norm}
use Rattle.mau_terms.specs.Bare.{IsBareIn}
use Rattle.mau_terms.specs.Reading.{reading}
use Rattle.mau_signature.specs.Signature.{theory_at, terms_over}
use Rattle.mau_store.specs.Trees.{tree_at, trees_at}
use Rattle.mau_store.specs.View.{numbers}
use Rattle.mau_canon.specs.Standing.{StandWithin}
use Rattle.mau_canon.specs.Within.{IsCause}
use Rattle.mau_reduce.proofs.KindsKept.{term_kept}
use Rattle.mau_reduce.proofs.Limits.{refused_ends_as}
use Rattle.mau_rules.specs.Walk.{around_last}
use Rattle.mau_rules.proofs.Putting.{step_as, written, put_under, put_kind, put_bare, put_tree}
use Rattle.mau_rules.proofs.whole.put_one.Goals as goal

less : (n i : ℕ) → n ≡ suc i → n - 1 ≡ i
less n i e = omega (arith, e)

pub build-requires-clause-operator : goal.build-requires-clause-operator
build-requires-clause-operator c =
    let w = c.requires.stands in
    let step = step_as c.args.store.now c.args.last w.0 c.in-App.op.0 (numbers c.in-App.ids.now) c.in-App.ensures.node w.1 in
    (put_under c.args.sig.now c.requires.lawful c.args.store.now c.in-App.ensures.nodes c.args.last w.0 c.args.term.0 c.requires.last step w.2).operator

pub build-requires-clause-args : goal.build-requires-clause-args
build-requires-clause-args c =
    let w = c.requires.stands in
    let step = step_as c.args.store.now c.args.last w.0 c.in-App.op.0 (numbers c.in-App.ids.now) c.in-App.ensures.node w.1 in
    let made = written c.in-App.ids.now c.in-Ok.args.items c.deref.result.now (c.args.last.next - 1) w.1.place c.args.term c.deref.ensures.value c.in-Ok.ensures.items (less c.args.last.next w.1.place w.1.next) in
    subst (StandWithin (theory_at c.args.sig.now) c.args.store.now) (sym made)
    (put_under c.args.sig.now c.requires.lawful c.args.store.now c.in-App.ensures.nodes c.args.last w.0 c.args.term.0 c.requires.last step w.2).within

pub returns-in-Ok-build-clause-value : goal.returns-in-Ok-build-clause-value
returns-in-Ok-build-clause-value c =
    let w = c.requires.stands in
    let nodes = c.args.store.now in
    let step = step_as nodes c.args.last w.0 c.in-App.op.0 (numbers c.in-App.ids.now) c.in-App.ensures.node w.1 in
    let made = written c.in-App.ids.now c.in-Ok.args.items c.deref.result.now (c.args.last.next - 1) w.1.place c.args.term c.deref.ensures.value c.in-Ok.ensures.items (less c.args.last.next w.1.place w.1.next) in
    c.in-Ok-build.ensures.ok
    ∙ ap (norm (theory_at c.args.sig.now))
    (ap (λ (ids : List ℕ). node c.in-App.op.0 (trees_at nodes ids)) made ∙ put_tree c.args.sig.now c.requires.lawful nodes c.in-App.ensures.nodes c.args.last w.0 c.args.term.0 c.requires.last step w.2)

pub returns-in-Ok-build-clause-kind : goal.returns-in-Ok-build-clause-kind
returns-in-Ok-build-clause-kind c =
    let w = c.requires.stands in
    let s = c.args.sig.now in
    let nodes = c.args.store.now in
    let f = c.in-App.op.0 in
    let step = step_as nodes c.args.last w.0 f (numbers c.in-App.ids.now) c.in-App.ensures.node w.1 in
    let made = written c.in-App.ids.now c.in-Ok.args.items c.deref.result.now (c.args.last.next - 1) w.1.place c.args.term c.deref.ensures.value c.in-Ok.ensures.items (less c.args.last.next w.1.place w.1.next) in (
      (terms_over s).result f,
      term_kept s nodes c.build.new.store ((terms_over s).result f) c.args.last.term.0 c.in-Ok-build.ensures.extends (put_kind s c.requires.lawful nodes c.in-App.ensures.nodes c.args.last w.0 c.args.term.0 c.requires.last step w.2),
      record {
        within = c.in-Ok-build.ensures.within;
        bare = subst (λ (t : Tree). IsBareIn (terms_over s) (reading (theory_at s) t) ((terms_over s).result f))
            (sym (c.in-Ok-build.ensures.ok ∙ ap (λ (ids : List ℕ). norm (theory_at s) (node f (trees_at nodes ids))) made))
            (put_bare s c.requires.lawful nodes c.in-App.ensures.nodes c.args.last w.0 c.args.term.0 c.requires.last step w.2);
      },
    )

pub returns-in-App-clause-ends : goal.returns-in-App-clause-ends
returns-in-App-clause-ends c = λ b.
    let w = c.requires.stands in
    let s = c.args.sig.now in
    let th = theory_at s in
    let nodes = c.args.store.now in
    let f = c.in-App.op.0 in
    let step = step_as nodes c.args.last w.0 f (numbers c.in-App.ids.now) c.in-App.ensures.node w.1 in
    let made = written c.in-App.ids.now c.in-Ok.args.items c.deref.result.now (c.args.last.next - 1) w.1.place c.args.term c.deref.ensures.value c.in-Ok.ensures.items (less c.args.last.next w.1.place w.1.next) in
    let same = ap (norm th) (ap (λ (ids : List ℕ). node f (trees_at nodes ids)) made ∙ put_tree s c.requires.lawful nodes c.in-App.ensures.nodes c.args.last w.0 c.args.term.0 c.requires.last step w.2) in
    refused_ends_as th (norm th (around_last (λ v. v) (tree_at nodes c.args.last.term.0) c.args.last.next (tree_at nodes c.args.term.0))) b c.in-Err-build.fault c.from.result c.from.ensures
    (subst (λ (t : Tree). IsCause th t c.in-Err-build.fault) same c.in-Err-build.ensures.refused)
