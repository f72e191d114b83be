use Rattle.std.proofs.Common.{◌≡◌, true, sym, ap, ◌∙◌, arith}
use Rattle.std.proofs.lemmas.Option.{slice_get_within}
use Rattle.mau_signature.specs.Signature.{theory_at}
use Rattle.mau_store.specs.View.{numbers}
use Rattle.mau_syntactic.specs.Free.{is_free}
use Rattle.mau_syntactic.proofs.Filling.{node_normal, node_stands}
use Rattle.mau_syntactic.proofs.template.over.Goals as goal

pub returns-clause-ok : goal.returns-clause-ok
returns-clause-ok c =
    let th = theory_at c.args.sig.now in
    let free : is_free (th c.args.op.0) ≡ true = sym (c.is_free.ensures ∙ ap is_free c.theory.ensures.value) ∙ c.if-not-is_free.false in
    c.in_ok-id.ensures.tree ∙ sym (node_normal th c.args.op.0 free c.args.store.now (numbers c.args.args.now) c.requires.args)

pub returns-clause-within : goal.returns-clause-within
returns-clause-within c =
    let th = theory_at c.args.sig.now in
    let free : is_free (th c.args.op.0) ≡ true = sym (c.is_free.ensures ∙ ap is_free c.theory.ensures.value) ∙ c.if-not-is_free.false in
    let deep = c.depth.ensures.value in
    node_stands th c.args.op.0 free c.args.store.now (numbers c.args.args.now) c.requires.args c.intern.new.self c.in_ok-id.id.0
    (slice_get_within c.intern.new.self c.in_ok-id.id.0 _ c.in_ok-id.ensures.ok) c.in_ok-id.ensures.tree (omega (arith, deep))
