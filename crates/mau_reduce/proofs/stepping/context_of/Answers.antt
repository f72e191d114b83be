use Rattle.std.proofs.Common.{sym, ap, ◌∙◌}
use Rattle.mau_terms.specs.Norm.{norm}
use Rattle.mau_terms.specs.View.{tree_of}
use Rattle.mau_signature.specs.Signature.{theory_at}
use Rattle.mau_store.proofs.Growth.{extension_is_preorder}
use Rattle.mau_store.proofs.Standing.{tree_at-extends}
use Rattle.mau_canon.proofs.Standing.{stands_within_extended}
use Rattle.mau_api.specs.Terms.{fill}
use Rattle.mau_reduce.proofs.stepping.context_of.Goals as goal

pub fills-requires-clause-inner : goal.fills-requires-clause-inner
fills-requires-clause-inner c = stands_within_extended (theory_at c.args.sig.now) c.args.store.now c.context_around.new.store c.in_ok-context.ensures.extends c.args.before.0 c.requires.before

pub fills-requires-2-clause-inner : goal.fills-requires-2-clause-inner
fills-requires-2-clause-inner c =
    stands_within_extended (theory_at c.args.sig.now) c.args.store.now c.fills.new.store
    (extension_is_preorder.transitive c.args.store.now c.context_around.new.store c.fills.new.store c.in_ok-context.ensures.extends c.in_ok-fills.ensures.extends) c.args.reached.0 c.requires.reached

pub returns-clause-from : goal.returns-clause-from
returns-clause-from c =
    ap (λ u. norm (theory_at c.args.sig.now) (fill (tree_of c.in_ok-context.context) u)) (sym (tree_at-extends c.args.store.now c.context_around.new.store c.args.before.0 c.in_ok-context.ensures.extends c.requires.before.there))
    ∙ (c.in_ok-fills.ensures.fills c.if-not-branch-2.false
    ∙ tree_at-extends c.args.store.now c.context_around.new.store c.args.term.0 c.in_ok-context.ensures.extends c.requires.term.within.there)

pub returns-clause-to : goal.returns-clause-to
returns-clause-to c =
    let extends = extension_is_preorder.transitive c.args.store.now c.context_around.new.store c.fills.new.store c.in_ok-context.ensures.extends c.in_ok-fills.ensures.extends in
    ap (λ u. norm (theory_at c.args.sig.now) (fill (tree_of c.in_ok-context.context) u)) (sym (tree_at-extends c.args.store.now c.fills.new.store c.args.reached.0 extends c.requires.reached.there))
    ∙ (c.in_ok-fills-2.ensures.fills c.if-not-branch-3.false
    ∙ tree_at-extends c.args.store.now c.fills.new.store c.args.after.0 extends c.requires.after)
