use Rattle.std.proofs.Common.{◌≡◌, ◌∙◌, None, sym, ap, subst}
use Rattle.mau_signature.specs.Signature.{theory_at}
use Rattle.mau_store.specs.Trees.{trees_at}
use Rattle.mau_store.specs.View.{numbers}
use Rattle.mau_canon.proofs.Standing.{stands_within_extended}
use Rattle.mau_listing.specs.Places.{operator_number}
use Rattle.mau_domains.specs.Search.{IsLeastOrNone}
use Rattle.mau_domains.specs.Values.{IsValueOf, by_key}
use Rattle.mau_domains.specs.Nearest.{nearest_of}
use Rattle.mau_domains.specs.Stored.{part_in, tree_in}
use Rattle.mau_domains.proofs.Adding.{IfSome-then, tree_in-extends}
use Rattle.mau_domains.proofs.Least.{Given}
use Rattle.mau_domains.proofs.StoredValues.{nearest_value, given_some}
use Rattle.mau_domains.proofs.next.next_value.Goals as goal

pub nearest_behind-requires-clause-after : goal.nearest_behind-requires-clause-after
nearest_behind-requires-clause-after c = IfSome-then _ _ (λ id h. stands_within_extended (theory_at c.args.sig.now) c.args.store.now c.values_of.new.store c.values_of.ensures.extends id.0 h) c.args.after c.requires.after

pub returns-clause-next : goal.returns-clause-next
returns-clause-next c =
    let s = c.args.sig.now in
    let th = theory_at s in
    let o = operator_number c.args.under in
    let old = c.args.store.now in
    let new = c.values_of.new.store in
    let q = part_in old c.args.part.now in
    let vs = trees_at new (numbers c.in_ok-values.values.items) in
    let after = tree_in-extends th old new c.args.after c.values_of.ensures.extends c.requires.after in
    let same : tree_in new c.nearest_behind.result ≡ nearest_of (by_key th o) 0 (tree_in old c.args.after) None vs =
    c.nearest_behind.ensures.value
    ∙ ap (λ w. nearest_of (by_key th o) 0 (tree_in new c.args.after) None (trees_at new (numbers w))) c.deref.ensures.value
    ∙ ap (λ w. nearest_of (by_key th o) 0 w None vs) after in
    subst (IsLeastOrNone (by_key th o) (IsValueOf th q) 0 (tree_in old c.args.after)) (sym same)
    (nearest_value s c.is_lawful.ensures.lawful c.args.under c.requires.under q (tree_in old c.args.after) vs c.in_ok-values.ensures.next).0

pub returns-clause-value : goal.returns-clause-value
returns-clause-value c =
    let s = c.args.sig.now in
    let th = theory_at s in
    let o = operator_number c.args.under in
    let old = c.args.store.now in
    let new = c.values_of.new.store in
    let q = part_in old c.args.part.now in
    let vs = trees_at new (numbers c.in_ok-values.values.items) in
    let after = tree_in-extends th old new c.args.after c.values_of.ensures.extends c.requires.after in
    let same : tree_in new c.nearest_behind.result ≡ nearest_of (by_key th o) 0 (tree_in old c.args.after) None vs =
    c.nearest_behind.ensures.value
    ∙ ap (λ w. nearest_of (by_key th o) 0 (tree_in new c.args.after) None (trees_at new (numbers w))) c.deref.ensures.value
    ∙ ap (λ w. nearest_of (by_key th o) 0 w None vs) after in
    given_some new (IsValueOf th q) c.nearest_behind.result
    (subst (Given (IsValueOf th q)) (sym same)
    (nearest_value s c.is_lawful.ensures.lawful c.args.under c.requires.under q (tree_in old c.args.after) vs c.in_ok-values.ensures.next).1)
