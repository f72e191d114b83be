use Rattle.std.proofs.Common.{◌≡◌, sym, ap₂, ◌∙◌}
use Rattle.mau_terms.specs.Tree.{node}
use Rattle.mau_terms.specs.Norm.{norm, holds_overflow}
use Rattle.mau_signature.specs.Signature.{theory_at}
use Rattle.mau_store.specs.Trees.{tree_at, trees_at}
use Rattle.mau_store.specs.View.{numbers}
use Rattle.mau_canon.specs.Judging.{is_overflow}
use Rattle.mau_canon.proofs.Elements.{fine_each}
use Rattle.mau_canon.proofs.Judged.{norm-joined, holds-fine, answer_stands, answer_within, answer_refused}
use Rattle.mau_canon.proofs.builder.build.Goals as goal
use Rattle.mau_canon.proofs.builder.build.Goals.{After-judge}

-- the number that was found is that of the normal form
found : (c : After-judge) → tree_at c.normal_form.new.store c.in_ok-id.id.0 ≡ norm (theory_at c.args.sig.now) (node c.args.op.0 (trees_at c.args.store.now (numbers c.args.args.now)))
found c =
    let th = theory_at c.args.sig.now in
    let ts = trees_at c.args.store.now (numbers c.args.args.now) in
    c.in_ok-id.ensures.ok.tree
    ∙ norm-joined th c.args.op.0 c.theory-theory.result.now ts _ c.theory-theory.ensures.value (fine_each th c.args.store.now (numbers c.args.args.now) c.requires.args) c.in_ok-items.ensures.list

overflows : (c : After-judge) → c.is_overflow-overflows.result ≡ holds_overflow (theory_at c.args.sig.now) (norm (theory_at c.args.sig.now) (node c.args.op.0 (trees_at c.args.store.now (numbers c.args.args.now))))
overflows c =
    let th = theory_at c.args.sig.now in
    let ts = trees_at c.args.store.now (numbers c.args.args.now) in
    c.is_overflow-overflows.ensures
    ∙ ap₂ (λ h t. is_overflow h.succ c.args.op.0 t) c.theory-theory.ensures.value (found c)
    ∙ sym (holds-fine th c.theory-theory.ensures.lawful.theories c.args.op.0 ts (fine_each th c.args.store.now (numbers c.args.args.now) c.requires.args))

pub returns-clause-ok : goal.returns-clause-ok
returns-clause-ok c = answer_stands (theory_at c.args.sig.now) c.normal_form.new.store c.in_ok-id.id (node c.args.op.0 (trees_at c.args.store.now (numbers c.args.args.now))) c.is_overflow-overflows.result c.in_ok-id.ensures.ok.there (found c) (overflows c) c.judge.result c.judge.ensures.same

pub returns-clause-within : goal.returns-clause-within
returns-clause-within c = answer_within (theory_at c.args.sig.now) c.normal_form.new.store c.in_ok-id.id (node c.args.op.0 (trees_at c.args.store.now (numbers c.args.args.now))) c.is_overflow-overflows.result c.in_ok-id.ensures.ok.there (found c) (overflows c) c.theory-theory.ensures.lawful.theories c.judge.result c.judge.ensures.same c.judge.ensures.ok

pub returns-clause-refused : goal.returns-clause-refused
returns-clause-refused c = answer_refused (theory_at c.args.sig.now) c.normal_form.new.store c.in_ok-id.id (node c.args.op.0 (trees_at c.args.store.now (numbers c.args.args.now))) c.is_overflow-overflows.result c.in_ok-id.ensures.ok.there (found c) (overflows c) c.judge.result c.judge.ensures.refused
