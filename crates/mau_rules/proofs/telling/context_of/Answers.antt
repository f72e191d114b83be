use Rattle.std.proofs.Common.{sym, ap, ◌∙◌, subst}
use Rattle.mau_terms.specs.Norm.{norm}
use Rattle.mau_terms.specs.View.{tree_of}
use Rattle.mau_signature.specs.Signature.{theory_at}
use Rattle.mau_store.specs.Node.{IsOf}
use Rattle.mau_store.specs.Trees.{tree_at}
use Rattle.mau_store.proofs.Growth.{extension_is_preorder, IsOf-extends}
use Rattle.mau_store.proofs.Standing.{tree_at-extends}
use Rattle.mau_canon.proofs.Standing.{stands_within_extended}
use Rattle.mau_api.specs.Terms.{fill}
use Rattle.mau_rules.proofs.Paths.{path_term}
use Rattle.mau_rules.proofs.telling.context_of.Goals as goal

pub hole_for-hole-requires-clause-term : goal.hole_for-hole-requires-clause-term
hole_for-hole-requires-clause-term c =
    let w = c.requires.walk in
    path_term c.args.sig.now c.requires.lawful c.args.store.now c.len.ensures.nodes w.0 c.args.way.now c.args.found.now.term.0 w.1.begins w.1.path

pub fills-requires-clause-inner : goal.fills-requires-clause-inner
fills-requires-clause-inner c = stands_within_extended (theory_at c.args.sig.now) c.args.store.now c.context_around.new.store c.in_ok-context.ensures.extends c.args.before.0 c.requires.before

pub fills-requires-clause-whole : goal.fills-requires-clause-whole
fills-requires-clause-whole c =
    let w = c.requires.walk in
    IsOf-extends c.args.store.now c.context_around.new.store c.root_of-root.result.0 c.in_ok-context.ensures.extends
    (subst (IsOf c.args.store.now) (sym (c.root_of-root.ensures c.args.store.now w.0 w.1.path)) w.1.begins.within.there)

pub fills-requires-2-clause-inner : goal.fills-requires-2-clause-inner
fills-requires-2-clause-inner c =
    stands_within_extended (theory_at c.args.sig.now) c.args.store.now c.fills.new.store
    (extension_is_preorder.transitive c.args.store.now c.context_around.new.store c.fills.new.store c.in_ok-context.ensures.extends c.in_ok-fills.ensures.extends) c.args.reached.0 c.requires.reached

pub returns-clause-from : goal.returns-clause-from
returns-clause-from c = λ root path.
    let w = c.requires.walk in
    let there = subst (IsOf c.args.store.now) (sym (c.root_of-root.ensures c.args.store.now w.0 w.1.path)) w.1.begins.within.there in
    ap (λ u. norm (theory_at c.args.sig.now) (fill (tree_of c.in_ok-context.context) u)) (sym (tree_at-extends c.args.store.now c.context_around.new.store c.args.before.0 c.in_ok-context.ensures.extends c.requires.before.there))
    ∙ (c.in_ok-fills.ensures.fills c.if-not-branch-2.false
    ∙ (tree_at-extends c.args.store.now c.context_around.new.store c.root_of-root.result.0 c.in_ok-context.ensures.extends there
    ∙ ap (tree_at c.args.store.now) (c.root_of-root.ensures c.args.store.now root path)))

pub returns-clause-to : goal.returns-clause-to
returns-clause-to c =
    let extends = extension_is_preorder.transitive c.args.store.now c.context_around.new.store c.fills.new.store c.in_ok-context.ensures.extends c.in_ok-fills.ensures.extends in
    ap (λ u. norm (theory_at c.args.sig.now) (fill (tree_of c.in_ok-context.context) u)) (sym (tree_at-extends c.args.store.now c.fills.new.store c.args.reached.0 extends c.requires.reached.there))
    ∙ (c.in_ok-fills-2.ensures.fills c.if-not-branch-3.false
    ∙ tree_at-extends c.args.store.now c.fills.new.store c.args.after.0 extends c.requires.after)
