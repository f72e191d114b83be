use Rattle.std.proofs.Common.{◌≡◌, ◌∙◌, None, sym, ap, subst}
use Rattle.mau_terms.specs.CanTake.{CanTakeNormal}
use Rattle.mau_signature.specs.Signature.{theory_at, terms_over}
use Rattle.mau_store.specs.Trees.{tree_at, trees_at}
use Rattle.mau_store.specs.View.{numbers}
use Rattle.mau_canon.proofs.Standing.{stands_within_extended}
use Rattle.mau_domains.specs.Search.{IsLeastOrNone}
use Rattle.mau_domains.specs.Values.{by_key}
use Rattle.mau_domains.specs.Nearest.{nearest_of}
use Rattle.mau_domains.specs.Stored.{tree_in}
use Rattle.mau_domains.proofs.Adding.{IfSome-then, tree_in-extends}
use Rattle.mau_domains.proofs.Least.{Given}
use Rattle.mau_domains.proofs.StoredValues.{given_some, has_operator}
use Rattle.mau_free.specs.Arguments.{taken_of}
use Rattle.mau_free.proofs.FreeNext.{nearest_taken}
use Rattle.mau_free.proofs.values.free_values.Goals as goal

pub nearest_behind-requires-clause-after : goal.nearest_behind-requires-clause-after
nearest_behind-requires-clause-after c = IfSome-then _ _ (λ id h. stands_within_extended (theory_at c.args.sig.now) c.args.store.now c.all_taken.new.store c.all_taken.ensures.extends id.0 h) c.args.after c.requires.after

pub returns-clause-next : goal.returns-clause-next
returns-clause-next c =
    let s = c.args.sig.now in
    let th = theory_at s in
    let f = c.args.op.0 in
    let old = c.args.store.now in
    let new = c.all_taken.new.store in
    let t = tree_at old c.args.subject.0 in
    let after = tree_in-extends th old new c.args.after c.all_taken.ensures.extends c.requires.after in
    let same : tree_in new c.nearest_behind.result ≡ nearest_of (by_key th None) 0 (tree_in old c.args.after) None (taken_of (th f) f t) =
    c.nearest_behind.ensures.value
    ∙ ap (λ w. nearest_of (by_key th None) 0 (tree_in new c.args.after) None (trees_at new (numbers w))) c.deref.ensures.value
    ∙ ap (λ w. nearest_of (by_key th None) 0 (tree_in new c.args.after) None w) c.in_ok-values.ensures.terms
    ∙ ap (λ w. nearest_of (by_key th None) 0 w None (taken_of (th f) f t)) after in
    subst (IsLeastOrNone (by_key th None) (CanTakeNormal (terms_over s) f t) 0 (tree_in old c.args.after)) (sym same)
    (nearest_taken (terms_over s) c.operators.ensures.lawful f c.requires.apart (has_operator s f c.requires.operator) t c.requires.subject.normal c.requires.kind (tree_in old c.args.after)).0

pub returns-clause-value : goal.returns-clause-value
returns-clause-value c =
    let s = c.args.sig.now in
    let th = theory_at s in
    let f = c.args.op.0 in
    let old = c.args.store.now in
    let new = c.all_taken.new.store in
    let t = tree_at old c.args.subject.0 in
    let after = tree_in-extends th old new c.args.after c.all_taken.ensures.extends c.requires.after in
    let same : tree_in new c.nearest_behind.result ≡ nearest_of (by_key th None) 0 (tree_in old c.args.after) None (taken_of (th f) f t) =
    c.nearest_behind.ensures.value
    ∙ ap (λ w. nearest_of (by_key th None) 0 (tree_in new c.args.after) None (trees_at new (numbers w))) c.deref.ensures.value
    ∙ ap (λ w. nearest_of (by_key th None) 0 (tree_in new c.args.after) None w) c.in_ok-values.ensures.terms
    ∙ ap (λ w. nearest_of (by_key th None) 0 w None (taken_of (th f) f t)) after in
    given_some new (CanTakeNormal (terms_over s) f t) c.nearest_behind.result
    (subst (Given (CanTakeNormal (terms_over s) f t)) (sym same)
    (nearest_taken (terms_over s) c.operators.ensures.lawful f c.requires.apart (has_operator s f c.requires.operator) t c.requires.subject.normal c.requires.kind (tree_in old c.args.after)).1)
