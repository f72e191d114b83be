use Rattle.std.proofs.Common.{◌≡◌, ◌++◌, codes, ◌∙◌, sym, ap, ap₂, subst, append_assoc}
use Rattle.std.proofs.lemmas.Result.{on_ok_weaker}
use Rattle.mau_signature.specs.Signature.{theory_at}
use Rattle.mau_store.specs.Trees.{trees_at}
use Rattle.mau_store.specs.View.{numbers}
use Rattle.mau_store.proofs.Growth.{trees_at-extends}
use Rattle.mau_canon.proofs.Standing.{stand_there, stand_within_extended}
use Rattle.mau_session.specs.Answers.{context_line, right_label}
use Rattle.mau_session.specs.Parts.{IsContext}
use Rattle.mau_session.proofs.part.write_contexts.Goals as goal

pub write_context-requires-2-clause-items : goal.write_context-requires-2-clause-items
write_context-requires-2-clause-items c =
    stand_within_extended (theory_at c.args.module.now.signature) c.args.store.now c.write_context.new.store (numbers c.args.right.now) c.write_context.ensures.extends c.requires.right

pub write_context-requires-2-clause-context : goal.write_context-requires-2-clause-context
write_context-requires-2-clause-context c =
    let s = c.args.module.now.signature in
    let old = c.args.store.now in
    let ids = numbers c.args.right.now in
    subst (IsContext s c.args.op.0) (sym (trees_at-extends old c.write_context.new.store ids c.write_context.ensures.extends (stand_there (theory_at s) old ids c.requires.right))) c.requires.right_context

pub returns-clause-gained : goal.returns-clause-gained
returns-clause-gained c =
    let m = c.args.module.now in
    let s = m.signature in
    let ns = c.args.vars.now in
    let f = c.args.op.0 in
    let o = c.args.out.now.items in
    let old = c.args.store.now in
    let new = c.write_context.new.store in
    let left = context_line m ns f (codes "Left context") (trees_at old (numbers c.args.left.now)) in
    let same = trees_at-extends old new (numbers c.args.right.now) c.write_context.ensures.extends (stand_there (theory_at s) old (numbers c.args.right.now) c.requires.right) in
    let label : c.right_label_of-label.result.now ≡ right_label (theory_at s f).comm =
    c.right_label_of-label.ensures ∙ ap (λ h. right_label h.comm) (c.theory.ensures.value ∙ ap (λ r. theory_at r f) c.signature.ensures.value) in
    on_ok_weaker c.write_context-2.result
    (λ e.
    e ∙ ap₂ (λ w z. w ++ z) c.in_ok-write_context.ensures.gained (ap₂ (context_line m ns f) label same)
    ∙ append_assoc o left (context_line m ns f (right_label (theory_at s f).comm) (trees_at old (numbers c.args.right.now)))) c.write_context-2.ensures.gained
